-- Lists of nums, and the values that they are made of.
use Rattle.std.proofs.Common.{◌≡◌, ℕ, suc, ◌-◌, ◌<◌, ◌≤◌, ℤ, List, [], ◌∷◌, ◌++◌, length, take, drop, slice_set, Option, None, Some, IfSome, option_map, refl, sym, ap, ◌∙◌, subst, arith, add-one, length-append}
use Rattle.std.proofs.Math.ListN.{drop_of_length-le}
use Rattle.std.proofs.Math.Seq.{take-append_seam, drop-append_seam}
use Rattle.std.proofs.lemmas.Bool.{lt-ltb, ne_eqb}
use Rattle.std.proofs.lemmas.List.{set_split, append-nil}
use Rattle.rapid_model.specs.declared.value.Value.{Value}
use Rattle.rapid_model.specs.declared.value.Value.TheVariants as values
use Rattle.rapid_values.specs.Values.{nums_of, so_many, with_num}

-- a num written at an index that the list has
pub num_written : (nums : List ℤ) (i : ℕ) (value : Value) (n : ℤ) → value ≡ values.Num n → i < length nums → with_num nums i value ≡ Some (slice_set nums i n)
num_written nums i value n is lt = rw (is, lt-ltb i (length nums) lt, set_split nums i n lt, add-one i) refl

-- six nums written over the first six of twelve, and six over the others
pub both_written : (rob ext rest : List ℤ) → length rob ≡ 6 → length rest ≡ 6 →
    take 6 (rob ++ rest) ++ (ext ++ drop (length (rob ++ rest) - 6) (drop 6 (rob ++ rest))) ≡ rob ++ ext
both_written rob ext rest six six_rest =
    let front : take 6 (rob ++ rest) ≡ rob = subst (λ n. take n (rob ++ rest) ≡ rob) six (take-append_seam rob rest) in
    let back : drop 6 (rob ++ rest) ≡ rest = subst (λ n. drop n (rob ++ rest) ≡ rest) six (drop-append_seam rob rest) in
    let most : length rest ≤ length (rob ++ rest) - 6 = rw (length-append rob rest) (omega arith) in
    rw (front, back, drop_of_length-le rest most, append-nil ext) refl

one_more : (n : ℤ) (count : ℕ) (r : Option (List ℤ)) → IfSome r (λ ns. length ns ≡ count) → IfSome (option_map (λ ns. n ∷ ns) r) (λ ns. length ns ≡ suc count)
one_more n count None as_many = tt
one_more n count (Some ns) as_many = ap suc as_many

-- there are as many nums as values
as_many_nums : (vs : List Value) → IfSome (nums_of vs) (λ ns. length ns ≡ length vs)
as_many_nums [] = refl
as_many_nums (values.Num n ∷ vs) = one_more n (length vs) (nums_of vs) (as_many_nums vs)
as_many_nums (_ ∷ vs) = tt

no_value : (count many : ℕ) (make : List ℤ → Value) (r : Option (List ℤ)) → (many ≡ count → ⊥) → IfSome r (λ ns. length ns ≡ many) → so_many count make r ≡ None
no_value count many make None ne as_many = refl
no_value count many make (Some ns) ne as_many = rw (ne_eqb (length ns) count (λ e. ne (sym as_many ∙ e))) refl

-- any other number of values makes none
pub other_count : (count : ℕ) (make : List ℤ → Value) (vs : List Value) → (length vs ≡ count → ⊥) → so_many count make (nums_of vs) ≡ None
other_count count make vs ne = no_value count (length vs) make (nums_of vs) ne (as_many_nums vs)
