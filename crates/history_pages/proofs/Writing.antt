-- What is appended to words, as the code appends it: word by word.
use Rattle.std.proofs.Common.{◌≡◌, ℕ, ◌+◌, ◌*◌, ◌<◌, ◌≤◌, true, ℤ, List, [], ◌∷◌, ◌++◌, length, map, take, Option, sym, ap, refl, ◌∙◌, append_assoc, arith}
use Rattle.std.specs.List.{flat_map, list_all, range_with_len}
use Rattle.std.proofs.lemmas.Bool.{and_from}
use Rattle.std.proofs.lemmas.List.{length-append, length-take-le}
use Rattle.std.proofs.lemmas.List.FromFn.{length-map-range_with_len, map-range_with_len_more}
use Rattle.rapid_num.specs.Characters.{is_printable}
use Rattle.rapid_num.specs.declared.shape.Bound.{Bound}
use Rattle.rapid_model.specs.Printable.{ArePrintable}
use Rattle.history_pages.specs.Paged.{PagedData, with_items}
use Rattle.history_pages.specs.Words.{bound_words}
use Rattle.history_pages.proofs.Written.{length-bounds}

with_more : {T : Type 0} (paged : PagedData T) (xs ys : List T) → with_items (with_items paged xs) ys ≡ with_items paged (xs ++ ys)
with_more {T} paged xs ys = ap (λ zs. let made : PagedData T = record { items = zs; room = paged.room } in made) (append_assoc paged.items xs ys)

pub word_more : (words initial : PagedData ℤ) (f : ℕ → ℤ) (k : ℕ) (word : ℤ) → words ≡ with_items initial (map f (range_with_len 0 k)) → word ≡ f k
    → with_items words (word ∷ []) ≡ with_items initial (map f (range_with_len 0 (k + 1)))
word_more words initial f k word is same =
    ap (λ p. with_items p (word ∷ [])) is ∙ with_more initial (map f (range_with_len 0 k)) (word ∷ [])
    ∙ ap (with_items initial) (ap (λ x. map f (range_with_len 0 k) ++ x ∷ []) same ∙ sym (map-range_with_len_more f 0 k k (omega arith)))

-- there is room for one more of so many words
pub room_for_word : (words initial : PagedData ℤ) (f : ℕ → ℤ) (k most : ℕ) → words ≡ with_items initial (map f (range_with_len 0 k)) → k < most → length initial.items + most ≤ initial.room → length words.items < words.room
room_for_word words initial f k most is less room =
    let own : length words.items ≡ length (initial.items ++ map f (range_with_len 0 k)) = ap (λ p. length p.items) is in
    let all : length (initial.items ++ map f (range_with_len 0 k)) ≡ length initial.items + length (map f (range_with_len 0 k)) = length-append initial.items (map f (range_with_len 0 k)) in
    let more : length (map f (range_with_len 0 k)) ≡ k = length-map-range_with_len f 0 k in
    let same : words.room ≡ initial.room = ap (λ p. p.room) is in
    omega arith

-- there is room for the bounds of one more axis
pub room_for_bound : (words initial : PagedData ℤ) (bounds : List (Option Bound)) (axis : ℕ) → words ≡ with_items initial (flat_map bound_words (take axis bounds)) → axis < length bounds → length bounds ≤ 12
    → length initial.items + 24 ≤ initial.room → length words.items + 2 ≤ words.room
room_for_bound words initial bounds axis is less few room =
    let own : length words.items ≡ length (initial.items ++ flat_map bound_words (take axis bounds)) = ap (λ p. length p.items) is in
    let all : length (initial.items ++ flat_map bound_words (take axis bounds)) ≡ length initial.items + length (flat_map bound_words (take axis bounds)) = length-append initial.items (flat_map bound_words (take axis bounds)) in
    let more : length (flat_map bound_words (take axis bounds)) ≡ 2 * length (take axis bounds) = length-bounds (take axis bounds) in
    let front : length (take axis bounds) ≡ axis = length-take-le axis bounds (omega arith) in
    let same : words.room ≡ initial.room = ap (λ p. p.room) is in
    omega arith

pub all_printable : (bytes : List ℕ) → ArePrintable bytes → list_all is_printable bytes ≡ true
all_printable [] each = refl
all_printable (b ∷ bytes) each = and_from (is_printable b) (list_all is_printable bytes) each.0 (all_printable bytes each.1)
