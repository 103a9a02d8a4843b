-- Reading digits alone, and reading back what is written for a num without a sign.
use Rattle.std.proofs.Common.{◌≡◌, ◌≢◌, ℕ, ◌+◌, ◌*◌, ◌/◌, ◌%◌, ◌^◌, ◌<◌, ◌≤◌, Bool, true, false, cond, List, [], ◌∷◌, ◌++◌, length, take, drop, refl, sym, ap, ◌∙◌, arith, decimal, Some, None, ℤ, pos, ◌+ℤ◌, ◌-ℤ◌, length-append, append_assoc, append-nil, inl, inr}
use Rattle.std.proofs.lemmas.Fmt.{length-decimal-le}
use Rattle.std.proofs.lemmas.List.{take_at, drop_at, take_all, drop_all}
use Rattle.std.proofs.lemmas.List.Sums.{fold-append}
use Rattle.std.proofs.lemmas.Bool.{and_parts, cases_eq}
use Rattle.std.proofs.lemmas.Bool.Decides.{nat_tests}
use Rattle.std.proofs.lemmas.Grind.{common_steps}
use Rattle.std.specs.List.{AllByRecursion, position, position_or_len, before_first, after_first, fold, list_all}
use Rattle.std.specs.Option.{option_map}
use Rattle.std.specs.Prelude.{Option, nat_abs, nat_lt, not, ◌==◌}
use Rattle.rapid_num.specs.Range.{greatest, IsNum}
use Rattle.rapid_num.specs.Literal.{digit_value, digits_number, are_digits, is_point, is_exponent_letter, mantissa_of, scaled, base_of, based_thousandths, decimal_thousandths, spelled_thousandths, literal_value}
use Rattle.rapid_num.specs.Reading.{within}
use Rattle.rapid_num.specs.NumText.{fraction_text, three_digits, shortest_text, fixed_text}
use Rattle.rapid_num.proofs.Cuts.{decimal_without}
use Rattle.rapid_num.proofs.DecimalDigits.{AreDigits, one_more, digit_value_of, all_below_ten, below_ten_digits, passes_digits, AreDigits-append, decimal_text}

-- no byte is a letter
abbrev AreLow : List ℕ → Type 0
AreLow xs = AllByRecursion (λ b. b ≤ 57) xs

low_digits : (xs : List ℕ) → AreDigits xs → AreLow xs
low_digits [] h = tt
low_digits (x ∷ xs) h = (h.0.1, low_digits xs h.1)

low_point : (xs ys : List ℕ) → AreDigits xs → AreDigits ys → AreLow (xs ++ 46 ∷ ys)
low_point [] ys h k = (omega arith, low_digits ys k)
low_point (x ∷ xs) ys h k = (h.0.1, low_point xs ys h.1 k)

no_letter_index : (xs : List ℕ) → AreLow xs → position_or_len is_exponent_letter xs ≡ length xs
no_letter_index [] h = refl
no_letter_index (x ∷ xs) h =
    let small : x ≤ 57 = h.0 in
    let first : is_exponent_letter x ≡ false = grind (arith, nat_tests) in
    let rest = no_letter_index xs h.1 in
    rw first (omega arith)

no_letter : (xs : List ℕ) → AreLow xs → ◌≡◌ {A = Option ℕ} None (position is_exponent_letter xs)
no_letter xs h = let at = no_letter_index xs h in grind (arith, nat_tests)

low_base : (b : ℕ) → b ≤ 57 → base_of b ≡ None
low_base b h = grind (arith, nat_tests)

spelled_low : (xs : List ℕ) → AreLow xs → spelled_thousandths xs ≡ decimal_thousandths xs
spelled_low [] h = refl
spelled_low (a ∷ []) h = refl
spelled_low (a ∷ b ∷ ds) h =
    let base : base_of b ≡ None = low_base b h.1.0 in
    let none : cond (a == 48) (base_of b) None ≡ None = grind (arith, nat_tests) in
    rw none refl

reads : (xs : List ℕ) (m k n : ℕ) → AreLow xs → length xs ≤ 30 → mantissa_of xs ≡ Some (m, k) → scaled m ((pos 0 -ℤ pos k) +ℤ pos 3) ≡ n → n ≤ greatest → literal_value xs ≡ Some (pos n)
reads xs m k n low short mantissa same range =
    let spelled : spelled_thousandths xs ≡ Some n =
    spelled_low xs low ∙ decimal_without xs (no_letter xs low) ∙ ap (option_map (λ p. scaled p.0 ((pos 0 -ℤ pos p.1) +ℤ pos 3))) mantissa ∙ ap Some same in
    rw spelled (grind (arith, nat_tests))

mantissa_parts : List ℕ → List ℕ → Option (ℕ × ℕ)
mantissa_parts front back = cond (are_digits 10 (front ++ back)) (Some (digits_number 10 (front ++ back), length back)) None

point_no_digit : (b : ℕ) → 48 ≤ b → b ≤ 57 → is_point b ≡ false
point_no_digit b low high = grind (arith, nat_tests)

parts_are : (ds fs : List ℕ) → AreDigits ds → AreDigits fs → 0 < length ds → mantissa_parts ds fs ≡ Some (fold one_more (fold one_more 0 ds) fs, length fs)
unfolding mantissa_parts
parts_are ds fs h k some =
    let both = all_below_ten (ds ++ fs) (AreDigits-append ds fs h k) in
    let long : 0 < length (ds ++ fs) = omega (arith, length-append ds fs) in
    let digits : are_digits 10 (ds ++ fs) ≡ true = grind (arith, nat_tests) in
    rw digits (ap (λ n. Some (n, length fs)) (fold-append one_more 0 ds fs))

mantissa_point : (ds fs : List ℕ) → AreDigits ds → AreDigits fs → 0 < length ds → mantissa_of (ds ++ 46 ∷ fs) ≡ Some (fold one_more (fold one_more 0 ds) fs, length fs)
unfolding mantissa_parts
mantissa_point ds fs h k some =
    let at : position_or_len is_point (ds ++ 46 ∷ fs) ≡ length ds = passes_digits is_point point_no_digit ds (46 ∷ fs) h ∙ omega arith in
    let front : before_first is_point (ds ++ 46 ∷ fs) ≡ ds = ap (λ n. take n (ds ++ 46 ∷ fs)) at ∙ take_at ds (46 ∷ fs) (length ds) refl in
    let back : after_first is_point (ds ++ 46 ∷ fs) ≡ fs =
    ap (λ n. drop (n + 1) (ds ++ 46 ∷ fs)) at ∙ ap (drop (length ds + 1)) (sym (append_assoc ds (46 ∷ []) fs)) ∙ drop_at (ds ++ 46 ∷ []) fs (length ds + 1) (grind (arith, common_steps)) in
    ap (λ x. mantissa_parts x (after_first is_point (ds ++ 46 ∷ fs))) front ∙ ap (mantissa_parts ds) back ∙ parts_are ds fs h k some

mantissa_whole : (ds : List ℕ) → AreDigits ds → 0 < length ds → mantissa_of ds ≡ Some (fold one_more 0 ds, 0)
unfolding mantissa_parts
mantissa_whole ds h some =
    let at : position_or_len is_point ds ≡ length ds = ap (position_or_len is_point) (sym (append-nil ds)) ∙ passes_digits is_point point_no_digit ds [] h ∙ omega arith in
    let front : before_first is_point ds ≡ ds = ap (λ n. take n ds) at ∙ take_all (length ds) ds (omega arith) in
    let back : after_first is_point ds ≡ [] = ap (λ n. drop (n + 1) ds) at ∙ drop_all (length ds + 1) ds (omega arith) in
    ap (λ x. mantissa_parts x (after_first is_point ds)) front ∙ ap (mantissa_parts ds) back ∙ parts_are ds [] h tt some

-- digits alone spell their number
spelled_digits : (ds : List ℕ) → are_digits 10 ds ≡ true → spelled_thousandths ds ≡ Some (digits_number 10 ds * 1000)
spelled_digits ds e =
    let both = and_parts (not (length ds == 0)) (list_all (λ b. nat_lt (digit_value b) 10) ds) e in
    let digits : AreDigits ds = below_ten_digits ds both.1 in
    let some : 0 < length ds = grind (arith, nat_tests, both.0) in
    let low : AreLow ds = low_digits ds digits in
    let same : fold one_more 0 ds * 10 ^ 3 ≡ digits_number 10 ds * 1000 = omega arith in
    spelled_low ds low ∙ decimal_without ds (no_letter ds low) ∙ ap (option_map (λ p. scaled p.0 ((pos 0 -ℤ pos p.1) +ℤ pos 3))) (mantissa_whole ds digits some) ∙ ap Some same

pub reads_digits : (ds : List ℕ) (n : ℕ) → Some n ≡ within (based_thousandths ds 10) → Some n ≡ within (spelled_thousandths ds)
reads_digits ds n e = at (are_digits 10 ds) refl e
  where
    at : (t : Bool) → are_digits 10 ds ≡ t → Some n ≡ within (cond t (Some (digits_number 10 ds * 1000)) None) → Some n ≡ within (spelled_thousandths ds)
    at true is h = h ∙ ap within (sym (spelled_digits ds is))
    at false is h = absurd cc

reads_whole : (q n : ℕ) → q < 10 ^ 10 → n ≡ q * 1000 → n ≤ greatest → literal_value (decimal q) ≡ Some (pos n)
reads_whole q n small e range =
    let t = decimal_text q (omega arith) in
    let short : length (decimal q) ≤ 10 = length-decimal-le 10 q (omega arith) small (omega arith) in
    reads (decimal q) q 0 n (low_digits (decimal q) t.digits) (omega arith)
    (mantissa_whole (decimal q) t.digits t.nonempty ∙ ap (λ m. Some (m, 0)) t.number) (omega arith) range

reads_point : (q m n : ℕ) (fs : List ℕ) → q < 10 ^ 10 → AreDigits fs → length fs ≤ 3 → fold one_more q fs ≡ m → scaled m ((pos 0 -ℤ pos (length fs)) +ℤ pos 3) ≡ n → n ≤ greatest → literal_value (decimal q ++ 46 ∷ fs) ≡ Some (pos n)
reads_point q m n fs small digits few number same range =
    let t = decimal_text q (omega arith) in
    let short : length (decimal q) ≤ 10 = length-decimal-le 10 q (omega arith) small (omega arith) in
    reads (decimal q ++ 46 ∷ fs) m (length fs) n (low_point (decimal q) fs t.digits digits) (omega (arith, length-append (decimal q) (46 ∷ fs)))
    (mantissa_point (decimal q) fs t.digits digits t.nonempty ∙ ap (λ a. Some (fold one_more a fs, length fs)) t.number ∙ ap (λ a. Some (a, length fs)) number) same range

is_digit : (d : ℕ) → d < 10 → (48 ≤ 48 + d) × (48 + d ≤ 57)
is_digit d h = (omega arith, omega arith)

reads_one : (q d n : ℕ) → q < 10 ^ 10 → d < 10 → n ≡ q * 1000 + d * 100 → n ≤ greatest → literal_value (decimal q ++ 46 ∷ (48 + d) ∷ []) ≡ Some (pos n)
reads_one q d n small h e range =
    reads_point q (q * 10 + d) n ((48 + d) ∷ []) small (is_digit d h, tt) (omega arith) (ap (λ x. q * 10 + x) (digit_value_of d h)) (omega arith) range

reads_two : (q d f n : ℕ) → q < 10 ^ 10 → d < 10 → f < 10 → n ≡ q * 1000 + d * 100 + f * 10 → n ≤ greatest → literal_value (decimal q ++ 46 ∷ (48 + d) ∷ (48 + f) ∷ []) ≡ Some (pos n)
reads_two q d f n small h k e range =
    reads_point q ((q * 10 + d) * 10 + f) n ((48 + d) ∷ (48 + f) ∷ []) small (is_digit d h, (is_digit f k, tt)) (omega arith)
    (ap (λ x. (q * 10 + x) * 10 + digit_value (48 + f)) (digit_value_of d h) ∙ ap (λ x. (q * 10 + d) * 10 + x) (digit_value_of f k)) (omega arith) range

reads_three : (q d f g n : ℕ) → q < 10 ^ 10 → d < 10 → f < 10 → g < 10 → n ≡ q * 1000 + d * 100 + f * 10 + g → n ≤ greatest → literal_value (decimal q ++ 46 ∷ (48 + d) ∷ (48 + f) ∷ (48 + g) ∷ []) ≡ Some (pos n)
reads_three q d f g n small h k l e range =
    reads_point q (((q * 10 + d) * 10 + f) * 10 + g) n ((48 + d) ∷ (48 + f) ∷ (48 + g) ∷ []) small (is_digit d h, (is_digit f k, (is_digit g l, tt))) (omega arith)
    (ap (λ x. ((q * 10 + x) * 10 + digit_value (48 + f)) * 10 + digit_value (48 + g)) (digit_value_of d h)
    ∙ ap (λ x. ((q * 10 + d) * 10 + x) * 10 + digit_value (48 + g)) (digit_value_of f k) ∙ ap (λ x. ((q * 10 + d) * 10 + f) * 10 + x) (digit_value_of g l)) (omega arith) range

fixed_reads_back : (n : ℕ) → n ≤ greatest → literal_value (fixed_text (pos n)) ≡ Some (pos n)
fixed_reads_back n range =
    let r = n % 1000 in
    reads_three (n / 1000) (r / 100) (r / 10 % 10) (r % 10) n (omega arith) (omega arith) (omega arith) (omega arith) (omega arith) range

-- the fraction of a num, by the number of its digits

pub fraction_none : (r : ℕ) → r ≡ 0 → fraction_text r ≡ []
fraction_none r e = grind (arith, nat_tests)

pub fraction_one : (r : ℕ) → r ≢ 0 → r % 100 ≡ 0 → fraction_text r ≡ 46 ∷ (48 + r / 100) ∷ []
fraction_one r some e = grind (arith, nat_tests)

pub fraction_two : (r : ℕ) → r ≢ 0 → r % 100 ≢ 0 → r % 10 ≡ 0 → fraction_text r ≡ 46 ∷ (48 + r / 100) ∷ (48 + r / 10 % 10) ∷ []
fraction_two r some more e = grind (arith, nat_tests)

pub fraction_three : (r : ℕ) → r ≢ 0 → r % 100 ≢ 0 → r % 10 ≢ 0 → fraction_text r ≡ 46 ∷ three_digits r
fraction_three r some more most = grind (arith, nat_tests)

reads_fraction : (q r n : ℕ) → q < 10 ^ 10 → r < 1000 → n ≡ q * 1000 + r → n ≤ greatest → literal_value (decimal q ++ fraction_text r) ≡ Some (pos n)
reads_fraction q r n small below e range =
    elim (cases_eq r 0) [
      | inl none ↦ rw (fraction_none r none, append-nil (decimal q)) (reads_whole q n small (omega arith) range)
      | inr some ↦ elim (cases_eq (r % 100) 0) [
        | inl one ↦ rw (fraction_one r some one) (reads_one q (r / 100) n small (omega arith) (omega arith) range)
        | inr more ↦ elim (cases_eq (r % 10) 0) [
          | inl two ↦ rw (fraction_two r some more two) (reads_two q (r / 100) (r / 10 % 10) n small (omega arith) (omega arith) (omega arith) range)
          | inr most ↦ rw (fraction_three r some more most) (reads_three q (r / 100) (r / 10 % 10) (r % 10) n small (omega arith) (omega arith) (omega arith) (omega arith) range)
        ]
      ]
    ]

shortest_reads_back : (n : ℕ) → n ≤ greatest → literal_value (shortest_text (pos n)) ≡ Some (pos n)
shortest_reads_back n range = reads_fraction (n / 1000) (n % 1000) n (omega arith) (omega arith) (omega arith) range

pub read_from_shortest : (bytes : List ℕ) (z : ℤ) (n : ℕ) → bytes ≡ shortest_text z → IsNum z → z ≡ pos n → literal_value bytes ≡ Some z
read_from_shortest bytes z n text num e =
    let range : n ≤ greatest = omega (arith, num.size, ap nat_abs e) in
    ap literal_value (text ∙ ap shortest_text e) ∙ shortest_reads_back n range ∙ ap Some (sym e)

pub read_from_fixed : (bytes : List ℕ) (z : ℤ) (n : ℕ) → bytes ≡ fixed_text z → IsNum z → z ≡ pos n → literal_value bytes ≡ Some z
read_from_fixed bytes z n text num e =
    let range : n ≤ greatest = omega (arith, num.size, ap nat_abs e) in
    ap literal_value (text ∙ ap fixed_text e) ∙ fixed_reads_back n range ∙ ap Some (sym e)
