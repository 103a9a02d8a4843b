-- What is read from words, as the code reads it: word by word.
use Rattle.std.proofs.Common.{◌≡◌, ℕ, ◌+◌, ◌*◌, ◌/◌, ◌<◌, ◌≤◌, Bool, true, false, ◌&&◌, if◌then◌else◌, ℤ, List, [], ◌∷◌, ◌++◌, length, take, drop, map, get_or, set, slice_get, Option, None, Some, nat_le, refl, sym, ap, subst, ◌∙◌, inl, inr, arith}
use Rattle.std.specs.Prelude.{unwrap_or}
use Rattle.std.specs.List.{list_all, range_with_len}
use Rattle.std.proofs.lemmas.Bool.{and_from, and_parts, cases_eq, cond-true, false≢true, le-leb, leb-true}
use Rattle.std.proofs.lemmas.List.{get_or-drop, get_or-set_other, get_or-set_same, get_or-take, get_or_default, length-take-le, same_lists, take_more, take_more_set}
use Rattle.std.proofs.lemmas.List.Folds.{list_all-append, list_all_at}
use Rattle.std.proofs.lemmas.List.FromFn.{get_or-map-range_with_len, length-map-range_with_len, map-range_with_len_more}
use Rattle.std.proofs.lemmas.Option.{cond_some, none-some, unwrap_or-slice_get}
use Rattle.rapid_num.specs.Arithmetic.{num_of}
use Rattle.rapid_num.specs.Characters.{is_printable}
use Rattle.rapid_num.specs.Range.{is_num}
use Rattle.rapid_num.specs.declared.shape.Bound.{Bound}
use Rattle.rapid_num.specs.declared.shape.Shape.{Shape}
use Rattle.history_pages.specs.Words.{bound_at, bound_of, byte_at, bytes_in, is_text, no_num, nums_in, shape_in, text_in}

-- the word at an index
pub word_at : (words : List ℤ) (from k : ℕ) (x d : ℤ) → slice_get words (from + k) ≡ Some x → get_or (drop from words) k d ≡ x
word_at words from k x d is = get_or-drop from words k d ∙ sym (unwrap_or-slice_get words (from + k) d) ∙ ap (λ o. unwrap_or o d) is

-- a choice whose condition cannot hold
none_if : {A : Type 0} (b : Bool) (x : A) → (b ≡ true → ⊥) → (if b then Some x else None) ≡ None
none_if true x never = absurd (never refl)
none_if false x never = refl

-- nums

num_made : (x n : ℤ) → num_of x ≡ Some n → (is_num x ≡ true) × (x ≡ n)
num_made x n is = cond_some (is_num x) x n is

no_num_made : (x : ℤ) → num_of x ≡ None → is_num x ≡ true → ⊥
no_num_made x none is = absurd (none-some x (sym none ∙ cond-true (is_num x) (Some x) None is))

pub num_more : (nums words : List ℤ) (k : ℕ) (x n : ℤ) → k < length nums → k < length words → take k nums ≡ take k words → get_or words k x ≡ x → num_of x ≡ Some n → take (k + 1) (set nums k n) ≡ take (k + 1) words
num_more nums words k x n below within same at made =
    let is : x ≡ n = (num_made x n made).1 in
    take_more_set nums k n below ∙ ap (λ ns. ns ++ n ∷ []) same ∙ ap (λ m. take k words ++ m ∷ []) (sym is ∙ sym at) ∙ sym (take_more words k x within)

pub nums_more : (words : List ℤ) (k : ℕ) (x n : ℤ) → k < length words → list_all is_num (take k words) ≡ true → get_or words k x ≡ x → num_of x ≡ Some n → list_all is_num (take (k + 1) words) ≡ true
nums_more words k x n within all at made =
    ap (list_all is_num) (take_more words k x within) ∙ list_all-append is_num (take k words) (get_or words k x ∷ [])
    ∙ and_from (list_all is_num (take k words)) (is_num (get_or words k x) && true) all (and_from (is_num (get_or words k x)) true (ap is_num at ∙ (num_made x n made).0) refl)

pub nums_read : (count : ℕ) (nums words : List ℤ) → count ≤ length words → length nums ≡ count → take count nums ≡ take count words → list_all is_num (take count words) ≡ true → Some nums ≡ nums_in count words
nums_read count nums words enough long same all =
    let whole : take count nums ≡ nums = subst (λ n. take n nums ≡ nums) long (take_length nums) in
    let there : nat_le count (length words) ≡ true = le-leb count (length words) enough in
    ap Some (sym whole ∙ same)
    ∙ sym (cond-true (nat_le count (length words) && list_all is_num (take count words)) (Some (take count words)) None (and_from (nat_le count (length words)) (list_all is_num (take count words)) there all))
  where
    take_length : (xs : List ℤ) → take (length xs) xs ≡ xs
    take_length [] = refl
    take_length (x ∷ xs) = ap (λ ys. x ∷ ys) (take_length xs)

pub no_nums : (count : ℕ) (words : List ℤ) (k : ℕ) (x : ℤ) → k < count → count ≤ length words → get_or words k x ≡ x → num_of x ≡ None → None ≡ nums_in count words
no_nums count words k x below enough at none =
    sym (none_if (nat_le count (length words) && list_all is_num (take count words)) (take count words)
    (λ is. let all = (and_parts (nat_le count (length words)) (list_all is_num (take count words)) is).1 in
    let long : length (take count words) ≡ count = length-take-le count words enough in
    let read : get_or (take count words) k x ≡ x = get_or-take count words k x below ∙ at in
    by (is_num x) refl (omega arith) read all))
  where
    by : (b : Bool) → is_num x ≡ b → k < length (take count words) → get_or (take count words) k x ≡ x → list_all is_num (take count words) ≡ true → ⊥
    by true is within read all = no_num_made x none is
    by false is within read all = absurd (false≢true (sym (list_all_at is_num (take count words) k x within (ap is_num read ∙ is)) ∙ all))

pub few_nums : (count : ℕ) (words : List ℤ) → length words < count → None ≡ nums_in count words
few_nums count words few =
    sym (none_if (nat_le count (length words) && list_all is_num (take count words)) (take count words)
    (λ is. let enough : count ≤ length words = leb-true count (length words) (and_parts (nat_le count (length words)) (list_all is_num (take count words)) is).0 in absurd (omega arith)))

-- shapes

pub bound_there : (words : List ℤ) (from axis : ℕ) (low high : ℤ) → slice_get words (from + 2 * axis) ≡ Some low → slice_get words (from + 2 * axis + 1) ≡ Some high → bound_of low high ≡ bound_at (drop from words) axis
bound_there words from axis low high first second =
    let index : from + (2 * axis + 1) ≡ from + 2 * axis + 1 = omega arith in
    let low_is : get_or (drop from words) (2 * axis) no_num ≡ low = word_at words from (2 * axis) low no_num first in
    let high_is : get_or (drop from words) (2 * axis + 1) no_num ≡ high = word_at words from (2 * axis + 1) high no_num (ap (slice_get words) index ∙ second) in
    ap (λ l. bound_of l high) (sym low_is) ∙ ap (bound_of (get_or (drop from words) (2 * axis) no_num)) (sym high_is)

pub bounds_more : (bounds : List (Option Bound)) (axis : ℕ) (bound : Option Bound) (read : ℕ → Option Bound) → axis < length bounds → ((k : ℕ) → k < axis → get_or bounds k None ≡ read k) → bound ≡ read axis
    → (k : ℕ) → k < axis + 1 → get_or (set bounds axis bound) k None ≡ read k
bounds_more bounds axis bound read within each is k below =
    elim (cases_eq k axis) [
      | inl same ↦ ap (λ n. get_or (set bounds axis bound) n None) same ∙ get_or-set_same bounds axis bound None within ∙ is ∙ ap read (sym same)
      | inr other ↦ get_or-set_other bounds axis k bound None other ∙ each k (omega arith)
    ]

pub shape_read : (inside : Bool) (words : List ℤ) (bounds : List (Option Bound)) → 24 ≤ length words → length bounds ≡ 12 → ((k : ℕ) → k < 12 → get_or bounds k None ≡ bound_at words k)
    → Some (record { inside = inside; bounds = bounds }) ≡ shape_in inside words
shape_read inside words bounds enough long each =
    let make : List (Option Bound) → Shape = λ bs. record { inside = inside; bounds = bs } in
    let same : map (bound_at words) (range_with_len 0 12) ≡ bounds =
    same_lists (map (bound_at words) (range_with_len 0 12)) bounds (length-map-range_with_len (bound_at words) 0 12 ∙ sym long)
    (λ k d h. let below : k < 12 = subst (λ n. k < n) (length-map-range_with_len (bound_at words) 0 12) h in
    get_or-map-range_with_len (bound_at words) 0 12 k k d below (omega arith) ∙ sym (each k below) ∙ get_or_default bounds k None d (omega arith))
    in
    sym (cond-true (nat_le 24 (length words)) (Some (make (map (bound_at words) (range_with_len 0 12)))) None (le-leb 24 (length words) enough) ∙ ap (λ bs. Some (make bs)) same)

pub few_bounds : (inside : Bool) (words : List ℤ) → length words < 24 → None ≡ shape_in inside words
few_bounds inside words few =
    sym (none_if (nat_le 24 (length words)) (record { inside = inside; bounds = map (bound_at words) (range_with_len 0 12) })
    (λ is. let enough : 24 ≤ length words = leb-true 24 (length words) is in absurd (omega arith)))

-- texts

pub bytes_more : (words : List ℤ) (k : ℕ) → bytes_in (k + 1) words ≡ bytes_in k words ++ byte_at words k ∷ []
bytes_more words k = map-range_with_len_more (byte_at words) 0 k k (omega arith)

pub printable_more : (words : List ℤ) (k : ℕ) → list_all is_printable (bytes_in k words) ≡ true → is_printable (byte_at words k) ≡ true → list_all is_printable (bytes_in (k + 1) words) ≡ true
printable_more words k all one =
    ap (list_all is_printable) (bytes_more words k) ∙ list_all-append is_printable (bytes_in k words) (byte_at words k ∷ [])
    ∙ and_from (list_all is_printable (bytes_in k words)) (is_printable (byte_at words k) && true) all (and_from (is_printable (byte_at words k)) true one refl)

pub length-bytes : (count : ℕ) (words : List ℤ) → length (bytes_in count words) ≡ count
length-bytes count words = length-map-range_with_len (byte_at words) 0 count

pub text_read : (count : ℕ) (words : List ℤ) (text : List ℕ) → count ≤ 80 → count ≤ 8 * length words → text ≡ bytes_in count words → list_all is_printable (bytes_in count words) ≡ true → Some text ≡ text_in count words
text_read count words text short enough same all =
    let long : length (bytes_in count words) ≡ count = length-bytes count words in
    let proper : is_text (bytes_in count words) ≡ true = and_from (nat_le (length (bytes_in count words)) 80) (list_all is_printable (bytes_in count words)) (le-leb (length (bytes_in count words)) 80 (omega arith)) all in
    ap Some same
    ∙ sym (cond-true (nat_le count (8 * length words) && is_text (bytes_in count words)) (Some (bytes_in count words)) None (and_from (nat_le count (8 * length words)) (is_text (bytes_in count words)) (le-leb count (8 * length words) enough) proper))

-- where one of these conditions fails there is no text
no_text : (count : ℕ) (words : List ℤ) → (count ≤ 8 * length words → count ≤ 80 → list_all is_printable (bytes_in count words) ≡ true → ⊥) → None ≡ text_in count words
no_text count words never =
    sym (none_if (nat_le count (8 * length words) && is_text (bytes_in count words)) (bytes_in count words)
    (λ is. let parts = and_parts (nat_le count (8 * length words)) (is_text (bytes_in count words)) is in
    let proper = and_parts (nat_le (length (bytes_in count words)) 80) (list_all is_printable (bytes_in count words)) parts.1 in
    let long : length (bytes_in count words) ≡ count = length-bytes count words in
    let short : length (bytes_in count words) ≤ 80 = leb-true (length (bytes_in count words)) 80 proper.0 in
    never (leb-true count (8 * length words) parts.0) (omega arith) proper.1))

pub long_text : (count : ℕ) (words : List ℤ) → 80 < count → None ≡ text_in count words
long_text count words long = no_text count words (λ enough short all. absurd (omega arith))

pub few_words : (count : ℕ) (words : List ℤ) → length words < (count + 7) / 8 → None ≡ text_in count words
few_words count words few = no_text count words (λ enough short all. absurd (omega arith))

pub not_printable : (count : ℕ) (words : List ℤ) (k : ℕ) → k < count → is_printable (byte_at words k) ≡ false → None ≡ text_in count words
not_printable count words k below one =
    no_text count words
    (λ enough short all.
    let long : length (bytes_in count words) ≡ count = length-bytes count words in
    let read : get_or (bytes_in count words) k 0 ≡ byte_at words k = get_or-map-range_with_len (byte_at words) 0 count k k 0 below (omega arith) in
    absurd (false≢true (sym (list_all_at is_printable (bytes_in count words) k 0 (omega arith) (ap is_printable read ∙ one)) ∙ all)))

-- a character that a text with room does not take is not printable
pub refused_character : (byte : ℕ) (fits : Bool) → (is_printable byte && fits) ≡ false → fits ≡ true → is_printable byte ≡ false
refused_character byte fits is room = by (is_printable byte) refl is
  where
    by : (b : Bool) → is_printable byte ≡ b → (b && fits) ≡ false → is_printable byte ≡ false
    by true e h = absurd (false≢true (sym h ∙ room))
    by false e h = e
