-- Rows of data, in words and apart.
use Rattle.std.proofs.Common.{◌≡◌, ℕ, zero, suc, ◌<◌, List, [], ◌∷◌, ◌++◌, length, take, drop, replicate, slice_get, slice_set, Option, None, Some, refl, ap, ◌∙◌, arith}
use Rattle.std.specs.Prelude.{IsSome}
use Rattle.std.proofs.lemmas.Bool.{false≢true}
use Rattle.std.specs.Option.{option_and_then, option_map, unwrap_or}
use Rattle.typed_trees.specs.declared.datum.Datum.{Datum}
use Rattle.typed_trees.specs.declared.datum.Datum.TheVariants.{Mark}
use Rattle.machine_stacks.specs.Words.{DataRow, apart_of, data_in, datum_in, in_word}
use Rattle.machine_stacks.specs.declared.word.Word.{Word}
use Rattle.machine_stacks.specs.declared.word.Word.TheVariants.{Apart}

pub length-data_in : (words : List Word) (apart : List Datum) → length (data_in words apart) ≡ length words
length-data_in [] apart = refl
length-data_in (word ∷ words) [] = ap suc (length-data_in words [])
length-data_in (word ∷ words) (datum ∷ apart) = ap suc (length-data_in words apart)

-- the datum of a word that has one
pub here : (word : Word) (a b : Datum) → IsSome (in_word word) → datum_in word a ≡ datum_in word b
here word a b some = by (in_word word) some
  where
    by : (o : Option Datum) → IsSome o → unwrap_or o a ≡ unwrap_or o b
    by None some = absurd (false≢true some)
    by (Some x) some = refl

-- reading

pub at_index : (words : List Word) (apart : List Datum) (index : ℕ) → slice_get (data_in words apart) index ≡ option_map (λ word. datum_in word (apart_of (slice_get apart index))) (slice_get words index)
at_index [] apart index = refl
at_index (word ∷ words) [] zero = refl
at_index (word ∷ words) [] (suc index) = at_index words [] index
at_index (word ∷ words) (datum ∷ apart) zero = refl
at_index (word ∷ words) (datum ∷ apart) (suc index) = at_index words apart index

pub found : {B : Type 0} (f : Datum → Option B) (words : List Word) (apart : List Datum) (index : ℕ) (word : Word) (result : Option B)
    → slice_get words index ≡ Some word → result ≡ f (datum_in word (apart_of (slice_get apart index))) → result ≡ option_and_then f (slice_get (data_in words apart) index)
found f words apart index word result there is = rw (at_index words apart index, there) is

pub not_found : {B : Type 0} (f : Datum → Option B) (words : List Word) (apart : List Datum) (index : ℕ)
    → slice_get words index ≡ None → None ≡ option_and_then f (slice_get (data_in words apart) index)
not_found f words apart index none = rw (at_index words apart index, none) refl

pub found_there : (words : List Word) (apart : List Datum) (index : ℕ) (word : Word) (datum : Datum)
    → slice_get words index ≡ Some word → datum ≡ datum_in word (apart_of (slice_get apart index)) → Some datum ≡ slice_get (data_in words apart) index
found_there words apart index word datum there is = rw (at_index words apart index, there, is) refl

pub none_there : (words : List Word) (apart : List Datum) (index : ℕ) → slice_get words index ≡ None → None ≡ slice_get (data_in words apart) index
none_there words apart index none = rw (at_index words apart index, none) refl

-- appending

pub pushed : (words : List Word) (apart : List Datum) (word : Word) → IsSome (in_word word) → data_in (words ++ word ∷ []) apart ≡ data_in words apart ++ datum_in word (Mark 0) ∷ []
pushed [] [] word some = refl
pushed [] (datum ∷ apart) word some = ap (λ (x : Datum). x ∷ []) (here word datum (Mark 0) some)
pushed (first ∷ words) [] word some = ap (λ (xs : List Datum). datum_in first (Mark 0) ∷ xs) (pushed words [] word some)
pushed (first ∷ words) (datum ∷ apart) word some = ap (λ (xs : List Datum). datum_in first datum ∷ xs) (pushed words apart word some)

pub set_last : (xs : List Datum) (x y : Datum) (index : ℕ) → index ≡ length xs → slice_set (xs ++ x ∷ []) index y ≡ xs ++ y ∷ []
set_last [] x y index at = rw at refl
set_last (z ∷ xs) x y zero at = absurd (omega (arith, at))
set_last (z ∷ xs) x y (suc index) at = ap (λ (ys : List Datum). z ∷ ys) (set_last xs x y index (omega (arith, at)))

-- dropping

pub cut : (words : List Word) (apart : List Datum) (len : ℕ) → data_in (take len words) apart ≡ take len (data_in words apart)
cut words apart zero = refl
cut [] apart (suc len) = refl
cut (word ∷ words) [] (suc len) = ap (λ (xs : List Datum). datum_in word (Mark 0) ∷ xs) (cut words [] len)
cut (word ∷ words) (datum ∷ apart) (suc len) = ap (λ (xs : List Datum). datum_in word datum ∷ xs) (cut words apart len)

-- replacing

pub replaced : (words : List Word) (apart : List Datum) (index : ℕ) (word : Word) → IsSome (in_word word) → data_in (slice_set words index word) apart ≡ slice_set (data_in words apart) index (datum_in word (Mark 0))
replaced [] apart index word some = refl
replaced (first ∷ words) [] zero word some = refl
replaced (first ∷ words) [] (suc index) word some = ap (λ (xs : List Datum). datum_in first (Mark 0) ∷ xs) (replaced words [] index word some)
replaced (first ∷ words) (datum ∷ apart) zero word some = ap (λ (x : Datum). x ∷ data_in words apart) (here word datum (Mark 0) some)
replaced (first ∷ words) (datum ∷ apart) (suc index) word some = ap (λ (xs : List Datum). datum_in first datum ∷ xs) (replaced words apart index word some)

-- zeros that nothing reads
pub filled : (words : List Word) (apart : List Datum) (count : ℕ) → data_in words (apart ++ replicate count (Mark 0)) ≡ data_in words apart
filled [] apart count = refl
filled (word ∷ words) [] zero = refl
filled (word ∷ words) [] (suc count) = ap (λ (xs : List Datum). datum_in word (Mark 0) ∷ xs) (filled words [] count)
filled (word ∷ words) (datum ∷ apart) count = ap (λ (xs : List Datum). datum_in word datum ∷ xs) (filled words apart count)

-- over what lies apart, or behind it

pub put_over : (words : List Word) (apart : List Datum) (index : ℕ) (datum : Datum) → index < length apart → index < length words
    → data_in (slice_set words index Apart) (slice_set apart index datum) ≡ slice_set (data_in words apart) index datum
put_over [] apart index datum h k = absurd (omega (arith, k))
put_over (word ∷ words) [] index datum h k = absurd (omega (arith, h))
put_over (word ∷ words) (first ∷ apart) zero datum h k = refl
put_over (word ∷ words) (first ∷ apart) (suc index) datum h k = ap (λ (xs : List Datum). datum_in word first ∷ xs) (put_over words apart index datum (omega (arith, h)) (omega (arith, k)))

pub put_behind : (words : List Word) (apart : List Datum) (index : ℕ) (datum : Datum) → index ≡ length apart → index < length words
    → data_in (slice_set words index Apart) (apart ++ datum ∷ []) ≡ slice_set (data_in words apart) index datum
put_behind [] apart index datum h k = absurd (omega (arith, k))
put_behind (word ∷ words) [] index datum h k = rw h refl
put_behind (word ∷ words) (first ∷ apart) zero datum h k = absurd (omega (arith, h))
put_behind (word ∷ words) (first ∷ apart) (suc index) datum h k = ap (λ (xs : List Datum). datum_in word first ∷ xs) (put_behind words apart index datum (omega (arith, h)) (omega (arith, k)))

-- the first of the rest
pub first_of_rest : (xs : List Datum) (index : ℕ) (x : Datum) → slice_get xs index ≡ Some x → take 1 (drop index xs) ≡ x ∷ []
first_of_rest [] zero x there = absurd cc
first_of_rest [] (suc index) x there = absurd cc
first_of_rest (y ∷ xs) zero x there = let same : y ≡ x = cc in ap (λ (z : Datum). z ∷ []) same
first_of_rest (y ∷ xs) (suc index) x there = first_of_rest xs index x there

abbrev pub row_of : List Datum → ℕ → DataRow
row_of items room = record { items = items; room = room }

pub same_row : (a b : List Datum) (m n : ℕ) → a ≡ b → m ≡ n → row_of a m ≡ row_of b n
same_row a b m n items room = ap (λ (xs : List Datum). row_of xs m) items ∙ ap (λ (k : ℕ). row_of b k) room
