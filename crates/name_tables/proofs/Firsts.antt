-- The names that were entered first.
use Rattle.std.proofs.Common.{◌≡◌, ℕ, zero, suc, ◌+◌, Bool, true, false, cond, not, nat_lt, List, [], ◌∷◌, length, map, take, Option, Some, None, option_map, refl, sym, ap, ◌∙◌, if◌then◌else◌, bytes_eq, arith}
use Rattle.std.specs.List.{position, position_or_len}
use Rattle.std.specs.Map.{lookup}
use Rattle.std.specs.Str.{str_to_ascii_lowercase}
use Rattle.std.proofs.lemmas.Bool.{lt-ltb}
use Rattle.std.proofs.lemmas.Bool.Decides.{nat_tests}
use Rattle.std.proofs.lemmas.Option.{none-some, same_Some}
use Rattle.arrayvec.specs.ArrayVec.{ArrayVec}
use Rattle.name_tables.specs.Names.{NameList, entry_of, found_by, found_in}
use Rattle.name_tables.proofs.Entries.{is_key}

-- a name that is not in a table is not among its first names
pub none_first : {V : Type 0} (key : List ℕ) (names : NameList V) (count : ℕ) → found_by key names ≡ None → found_by key (take count names) ≡ None
none_first key [] zero none = refl
none_first key [] (suc n) none = refl
none_first key (e ∷ es) zero none = refl
none_first key (e ∷ es) (suc n) none = by (bytes_eq key e.0) none (none_first key es n)
  where
    by : (t : Bool) → (if t then Some e.1 else found_by key es) ≡ None → (found_by key es ≡ None → found_by key (take n es) ≡ None) → (if t then Some e.1 else found_by key (take n es)) ≡ None
    by true none rest = none
    by false none rest = rest none

-- the index of the first element that passes, past one more element
one_later : (n m : ℕ) → (if nat_lt (1 + n) (suc m) then Some (1 + n) else None) ≡ option_map suc (if nat_lt n m then Some n else None)
one_later n m = grind (arith, nat_tests)

pub position_cons : {X : Type 0} (p : X → Bool) (x : X) (xs : List X) → position p (x ∷ xs) ≡ (if p x then Some 0 else option_map suc (position p xs))
position_cons p x xs = by (p x)
  where
    by : (t : Bool) → let first : ℕ = cond (not t) (1 + position_or_len p xs) 0 in cond (nat_lt first (suc (length xs))) (Some first) None ≡ cond t (Some 0) (option_map suc (position p xs))
    by true = ap (λ (t : Bool). cond {A = Option ℕ} t (Some 0) None) (lt-ltb 0 (suc (length xs)) (omega arith))
    by false = one_later (position_or_len p xs) (length xs)

-- a key that the entry at an index is the first to have
first_by : {V : Type 0} (key : ArrayVec ℕ) (es : List (ArrayVec ℕ × V)) (count i : ℕ) → position (is_key key) (map (λ e. e.0) es) ≡ Some i
    → found_by key.items (take count (map entry_of es)) ≡ (if nat_lt i count then lookup (is_key key) es else None)
first_by key [] count i at = absurd (none-some i at)
first_by key (e ∷ es) zero i at =
    let past : false ≡ nat_lt i 0 = grind (arith, nat_tests) in
    ap (λ (b : Bool). if b then lookup (is_key key) (e ∷ es) else None) past
first_by key (e ∷ es) (suc n) i at = by (is_key key e.0) (position (is_key key) (map (λ e. e.0) es)) (sym (position_cons (is_key key) e.0 (map (λ e. e.0) es)) ∙ at) (first_by key es n)
  where
    by : (t : Bool) (o : Option ℕ) → (if t then Some 0 else option_map suc o) ≡ Some i
        → ((j : ℕ) → o ≡ Some j → found_by key.items (take n (map entry_of es)) ≡ (if nat_lt j n then lookup (is_key key) es else None))
        → (if t then Some e.1 else found_by key.items (take n (map entry_of es))) ≡ (if nat_lt i (suc n) then (if t then Some e.1 else lookup (is_key key) es) else None)
    by true o at rest =
        let here : 0 ≡ i = same_Some 0 i at in
        let within : true ≡ nat_lt i (suc n) = grind (arith, nat_tests, here) in
        ap (λ (b : Bool). if b then Some e.1 else None) within
    by false None at rest = absurd (none-some i at)
    by false (Some j) at rest =
        let later : suc j ≡ i = same_Some (suc j) i at in
        let same : nat_lt j n ≡ nat_lt i (suc n) = grind (arith, nat_tests, later) in
        rest j refl ∙ ap (λ (b : Bool). if b then lookup (is_key key) es else None) same

pub found_first : {V : Type 0} (name : List ℕ) (key : ArrayVec ℕ) (es : List (ArrayVec ℕ × V)) (names : NameList V) (count i : ℕ) (o : Option V) → map entry_of es ≡ names → key.items ≡ str_to_ascii_lowercase name
    → position (is_key key) (map (λ e. e.0) es) ≡ Some i → lookup (is_key key) es ≡ o → (if nat_lt i count then o else None) ≡ found_in name (take count names)
found_first name key es names count i o is folded at has =
    ap (λ v. if nat_lt i count then v else None) (sym has) ∙ sym (first_by key es count i at)
    ∙ ap (λ k. found_by k (take count (map entry_of es))) folded ∙ ap (λ ns. found_in name (take count ns)) is
