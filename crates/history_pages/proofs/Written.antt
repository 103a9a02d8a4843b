-- What is read from words is what was written there.
use Rattle.std.proofs.Common.{◌≡◌, ℕ, zero, suc, ◌+◌, ◌*◌, ◌/◌, ◌%◌, ◌^◌, ◌<◌, ◌≤◌, true, ◌&&◌, ◌==◌, ℤ, List, [], ◌∷◌, ◌++◌, length, take, drop, map, get_or, slice_index, slice_index_or, Option, None, Some, nat_le, refl, sym, ap, subst, ◌∙◌, inl, inr, lit<, arith}
use Rattle.std.proofs.Math.Seq.{take-append_seam}
use Rattle.std.proofs.lemmas.Bool.{and_from, and_parts, cases_lt, cond-true, eqb-true, le-leb, leb-true}
use Rattle.std.proofs.lemmas.Int.{of_z-to_z}
use Rattle.std.proofs.lemmas.List.{get_or_append_left, get_or-drop, length-append, same_lists, get_or_past, get_or_default}
use Rattle.std.proofs.lemmas.List.FromFn.{get_or-map-range_with_len, length-map-range_with_len}
use Rattle.std.proofs.lemmas.Nat.{le_bytes_8}
use Rattle.std.specs.Int.{cast_unsigned, from_le_bytes, to_le_bytes, w64}
use Rattle.std.specs.List.{flat_map, list_all, range_with_len}
use Rattle.rapid_num.specs.Characters.{is_printable}
use Rattle.rapid_num.specs.Range.{is_num}
use Rattle.rapid_num.specs.declared.shape.Bound.{Bound}
use Rattle.rapid_num.specs.declared.shape.Shape.{Shape}
use Rattle.history_pages.specs.Words.{are_nums, bound_at, bound_of, bound_words, byte_at, bytes_in, is_proper_bound, is_proper_shape, is_text, no_num, num_in, nums_in, shape_in, shape_words, text_in, text_words, word_of, words_for}

-- nums

pub num_in-front : (n : ℤ) (rest : List ℤ) → is_num n ≡ true → num_in (n ∷ rest) ≡ Some n
num_in-front n rest num = rw num refl

pub nums_in-front : (count : ℕ) (nums rest : List ℤ) → are_nums count nums ≡ true → nums_in count (nums ++ rest) ≡ Some nums
nums_in-front count nums rest are =
    let parts = and_parts (length nums == count) (list_all is_num nums) are in
    let many : length nums ≡ count = eqb-true (length nums) count parts.0 in
    let front : take count (nums ++ rest) ≡ nums = subst (λ n. take n (nums ++ rest) ≡ nums) many (take-append_seam nums rest) in
    let all : length (nums ++ rest) ≡ length nums + length rest = length-append nums rest in
    let enough : nat_le count (length (nums ++ rest)) ≡ true = le-leb count (length (nums ++ rest)) (omega arith) in
    let in_range : list_all is_num (take count (nums ++ rest)) ≡ true = ap (list_all is_num) front ∙ parts.1 in
    cond-true (nat_le count (length (nums ++ rest)) && list_all is_num (take count (nums ++ rest))) (Some (take count (nums ++ rest))) None
    (and_from (nat_le count (length (nums ++ rest))) (list_all is_num (take count (nums ++ rest))) enough in_range) ∙ ap Some front

-- shapes

bound_of-words : (b : Option Bound) → is_proper_bound b ≡ true → bound_of (get_or (bound_words b) 0 no_num) (get_or (bound_words b) 1 no_num) ≡ b
bound_of-words None proper = refl
bound_of-words (Some b) proper = let parts = and_parts (is_num b.low) (is_num b.high) proper in rw (parts.0, parts.1) refl

pub length-bounds : (bs : List (Option Bound)) → length (flat_map bound_words bs) ≡ 2 * length bs
length-bounds [] = refl
length-bounds (None ∷ bs) = let rest : length (flat_map bound_words bs) ≡ 2 * length bs = length-bounds bs in omega arith
length-bounds (Some b ∷ bs) = let rest : length (flat_map bound_words bs) ≡ 2 * length bs = length-bounds bs in omega arith

pub length-shape_words : (shape : Shape) → is_proper_shape shape ≡ true → length (shape_words shape) ≤ 24
length-shape_words shape proper =
    let twelve : length shape.bounds ≡ 12 = eqb-true (length shape.bounds) 12 (and_parts (length shape.bounds == 12) (list_all is_proper_bound shape.bounds) proper).0 in
    let many : length (shape_words shape) ≡ 2 * length shape.bounds = length-bounds shape.bounds in
    omega arith

-- the words of an axis come in pairs
bound_at-there : (bs : List (Option Bound)) (rest : List ℤ) (k : ℕ) (d : Option Bound)
    → list_all is_proper_bound bs ≡ true → k < length bs → bound_at (flat_map bound_words bs ++ rest) k ≡ get_or bs k d
bound_at-there [] rest k d proper there = absurd (omega arith)
bound_at-there (None ∷ bs) rest zero d proper there = refl
bound_at-there (Some b ∷ bs) rest zero d proper there = bound_of-words (Some b) (and_parts (is_proper_bound (Some b)) (list_all is_proper_bound bs) proper).0
bound_at-there (None ∷ bs) rest (suc k) d proper there =
    let low : 2 * suc k ≡ suc (suc (2 * k)) = omega arith in
    let high : 2 * suc k + 1 ≡ suc (suc (2 * k + 1)) = omega arith in
    rw (high, low) (bound_at-there bs rest k d proper (omega arith))
bound_at-there (Some b ∷ bs) rest (suc k) d proper there =
    let low : 2 * suc k ≡ suc (suc (2 * k)) = omega arith in
    let high : 2 * suc k + 1 ≡ suc (suc (2 * k + 1)) = omega arith in
    rw (high, low) (bound_at-there bs rest k d (and_parts (is_proper_bound (Some b)) (list_all is_proper_bound bs) proper).1 (omega arith))

pub shape_in-front : (shape : Shape) (rest : List ℤ) → is_proper_shape shape ≡ true → shape_in shape.inside (shape_words shape ++ rest) ≡ Some shape
shape_in-front shape rest proper =
    let parts = and_parts (length shape.bounds == 12) (list_all is_proper_bound shape.bounds) proper in
    let twelve : length shape.bounds ≡ 12 = eqb-true (length shape.bounds) 12 parts.0 in
    let many : length (shape_words shape) ≡ 2 * length shape.bounds = length-bounds shape.bounds in
    let all : length (shape_words shape ++ rest) ≡ length (shape_words shape) + length rest = length-append (shape_words shape) rest in
    let enough : nat_le 24 (length (shape_words shape ++ rest)) ≡ true = le-leb 24 (length (shape_words shape ++ rest)) (omega arith) in
    let make : List (Option Bound) → Shape = λ bs. record { inside = shape.inside; bounds = bs } in
    cond-true (nat_le 24 (length (shape_words shape ++ rest))) (Some (make (map (bound_at (shape_words shape ++ rest)) (range_with_len 0 12)))) None enough
    ∙ ap (λ bs. Some (make bs))
    (same_lists (map (bound_at (shape_words shape ++ rest)) (range_with_len 0 12)) shape.bounds (length-map-range_with_len (bound_at (shape_words shape ++ rest)) 0 12 ∙ sym twelve)
    (λ k d h. let below : k < 12 = subst (λ n. k < n) (length-map-range_with_len (bound_at (shape_words shape ++ rest)) 0 12) h in
    get_or-map-range_with_len (bound_at (shape_words shape ++ rest)) 0 12 k k d below (omega arith) ∙ bound_at-there shape.bounds rest k d parts.1 (omega arith)))

-- texts

-- the first eight bytes, as packed in a word
abbrev eight : List ℕ → List ℕ
eight bytes =
    slice_index bytes 0 ∷ slice_index bytes 1 ∷ slice_index bytes 2 ∷ slice_index bytes 3 ∷ slice_index bytes 4 ∷ slice_index bytes 5
    ∷ slice_index bytes 6 ∷ slice_index bytes 7 ∷ []

eight-at : (bytes : List ℕ) (r : ℕ) → r < 8 → slice_index (eight bytes) r ≡ slice_index bytes r
eight-at bytes zero below = refl
eight-at bytes (suc zero) below = refl
eight-at bytes (suc (suc zero)) below = refl
eight-at bytes (suc (suc (suc zero))) below = refl
eight-at bytes (suc (suc (suc (suc zero)))) below = refl
eight-at bytes (suc (suc (suc (suc (suc zero))))) below = refl
eight-at bytes (suc (suc (suc (suc (suc (suc zero)))))) below = refl
eight-at bytes (suc (suc (suc (suc (suc (suc (suc zero))))))) below = refl
eight-at bytes (suc (suc (suc (suc (suc (suc (suc (suc r)))))))) below = absurd (omega arith)

-- a printable character is a byte, and so is the padding after the end
byte_of_text : (text : List ℕ) → list_all is_printable text ≡ true → (i : ℕ) → get_or text i 0 < 256
byte_of_text [] printable i = lit< tt
byte_of_text (b ∷ text) printable zero =
    let few : b ≤ 126 = leb-true b 126 (and_parts (nat_le 32 b) (nat_le b 126) (and_parts (is_printable b) (list_all is_printable text) printable).0).1 in
    omega arith
byte_of_text (b ∷ text) printable (suc i) = byte_of_text text (and_parts (is_printable b) (list_all is_printable text) printable).1 i

word_fits : (a b c d e f g h : ℕ) → a < 256 → b < 256 → c < 256 → d < 256 → e < 256 → f < 256 → g < 256 → h < 256
    → a + b * 256 + c * 65536 + d * 16777216 + e * 4294967296 + f * 1099511627776 + g * 281474976710656 + h * 72057594037927936 < 2 ^ 64
word_fits a b c d e f g h ha hb hc hd he hf hg hh = omega arith

-- a word gives back the eight bytes that it was made from
bytes_of_word : (bytes : List ℕ) → ((i : ℕ) → get_or bytes i 0 < 256) → to_le_bytes w64 (cast_unsigned w64 (word_of bytes)) ≡ eight bytes
bytes_of_word bytes small =
    let number : ℕ = from_le_bytes w64 bytes in
    let fits : number < 2 ^ 64 = word_fits _ _ _ _ _ _ _ _ (small 0) (small 1) (small 2) (small 3) (small 4) (small 5) (small 6) (small 7) in
    let back : cast_unsigned w64 (word_of bytes) ≡ number = of_z-to_z w64 number fits in
    ap (to_le_bytes w64) back ∙ le_bytes_8 (eight bytes) number refl (bytes_of_eight bytes small) refl
  where
    bytes_of_eight : (bytes : List ℕ) → ((i : ℕ) → get_or bytes i 0 < 256) → (i : ℕ) → get_or (eight bytes) i 0 < 256
    bytes_of_eight bytes small i =
        elim (cases_lt i 8) [
          | inl below ↦ subst (λ n. n < 256) (sym (eight-at bytes i below)) (small i)
          | inr past ↦ subst (λ n. n < 256) (sym (get_or_past (eight bytes) i 0 past)) (lit< tt)
        ]

-- a byte of a text, from its words
byte_at-there : (text : List ℕ) (rest : List ℤ) (k : ℕ) → list_all is_printable text ≡ true → k < length text → byte_at (text_words text ++ rest) k ≡ get_or text k 0
byte_at-there text rest k printable there =
    let make : ℕ → ℤ = λ j. word_of (drop (8 * j) text) in
    let within : k / 8 < words_for (length text) = omega arith in
    let long : length (text_words text) ≡ words_for (length text) = length-map-range_with_len make 0 (words_for (length text)) in
    let word : slice_index_or (text_words text ++ rest) (k / 8) no_num ≡ word_of (drop (8 * (k / 8)) text) =
    get_or_append_left (text_words text) rest no_num (k / 8) (omega arith)
    ∙ get_or-map-range_with_len make 0 (words_for (length text)) (k / 8) (k / 8) no_num within (omega arith)
    in
    let small : (i : ℕ) → get_or (drop (8 * (k / 8)) text) i 0 < 256 =
    λ i. subst (λ n. n < 256) (sym (get_or-drop (8 * (k / 8)) text i 0)) (byte_of_text text printable (8 * (k / 8) + i))
    in
    let index : 8 * (k / 8) + k % 8 ≡ k = omega arith in
    ap (λ w. slice_index (to_le_bytes w64 (cast_unsigned w64 w)) (k % 8)) word
    ∙ ap (λ bs. slice_index bs (k % 8)) (bytes_of_word (drop (8 * (k / 8)) text) small)
    ∙ eight-at (drop (8 * (k / 8)) text) (k % 8) (omega arith) ∙ get_or-drop (8 * (k / 8)) text (k % 8) 0 ∙ ap (λ n. get_or text n 0) index

pub text_in-front : (text : List ℕ) (rest : List ℤ) → is_text text ≡ true → text_in (length text) (text_words text ++ rest) ≡ Some text
text_in-front text rest proper =
    let printable : list_all is_printable text ≡ true = (and_parts (nat_le (length text) 80) (list_all is_printable text) proper).1 in
    let long : length (text_words text) ≡ words_for (length text) = length-map-range_with_len (λ j. word_of (drop (8 * j) text)) 0 (words_for (length text)) in
    let all : length (text_words text ++ rest) ≡ length (text_words text) + length rest = length-append (text_words text) rest in
    let enough : nat_le (length text) (8 * length (text_words text ++ rest)) ≡ true = le-leb (length text) (8 * length (text_words text ++ rest)) (omega arith) in
    let many : length (bytes_in (length text) (text_words text ++ rest)) ≡ length text = length-map-range_with_len (byte_at (text_words text ++ rest)) 0 (length text) in
    let same : bytes_in (length text) (text_words text ++ rest) ≡ text =
    same_lists (bytes_in (length text) (text_words text ++ rest)) text many
    (λ k d h. let below : k < length text = subst (λ n. k < n) many h in
    get_or-map-range_with_len (byte_at (text_words text ++ rest)) 0 (length text) k k d below (omega arith)
    ∙ byte_at-there text rest k printable below ∙ get_or_default text k 0 d below)
    in
    let is : is_text (bytes_in (length text) (text_words text ++ rest)) ≡ true = ap is_text same ∙ proper in
    cond-true (nat_le (length text) (8 * length (text_words text ++ rest)) && is_text (bytes_in (length text) (text_words text ++ rest))) (Some (bytes_in (length text) (text_words text ++ rest))) None
    (and_from (nat_le (length text) (8 * length (text_words text ++ rest))) (is_text (bytes_in (length text) (text_words text ++ rest))) enough is) ∙ ap Some same
