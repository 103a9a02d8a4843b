-- Texts made of decimal digits.
use Rattle.std.proofs.Common.{◌≡◌, ℕ, ◌+◌, ◌*◌, ◌/◌, ◌%◌, ◌^◌, ◌<◌, ◌≤◌, Bool, true, false, List, [], ◌∷◌, ◌++◌, length, refl, ap, ◌∙◌, arith, decimal}
use Rattle.std.proofs.lemmas.Fmt.{decimal_by_steps}
use Rattle.std.proofs.lemmas.List.Sums.{fold-append}
use Rattle.std.proofs.lemmas.Bool.{and_parts}
use Rattle.std.proofs.lemmas.Bool.Decides.{nat_tests}
use Rattle.std.proofs.lemmas.Grind.{common_steps}
use Rattle.std.specs.List.{AllByRecursion, list_all, position_or_len, fold}
use Rattle.std.specs.Prelude.{nat_lt}
use Rattle.rapid_num.specs.Literal.{digit_value}

-- each byte is a digit, 0 to 9
abbrev pub AreDigits : List ℕ → Type 0
AreDigits ds = AllByRecursion (λ b. (48 ≤ b) × (b ≤ 57)) ds

abbrev pub one_more : ℕ → ℕ → ℕ
one_more n b = n * 10 + digit_value b

pub AreDigits-append : (xs ys : List ℕ) → AreDigits xs → AreDigits ys → AreDigits (xs ++ ys)
AreDigits-append [] ys h k = k
AreDigits-append (x ∷ xs) ys h k = (h.0, AreDigits-append xs ys h.1 k)

pub digit_value_of : (d : ℕ) → d < 10 → digit_value (48 + d) ≡ d
digit_value_of d h = grind (arith, nat_tests)

pub all_below_ten : (ds : List ℕ) → AreDigits ds → list_all (λ b. nat_lt (digit_value b) 10) ds ≡ true
all_below_ten [] h = refl
all_below_ten (x ∷ xs) h =
    let low : 48 ≤ x = h.0.0 in
    let high : x ≤ 57 = h.0.1 in
    let first : nat_lt (digit_value x) 10 ≡ true = grind (arith, nat_tests) in
    rw first (all_below_ten xs h.1)

-- a byte whose value is below ten is a digit
digit_below_ten : (b : ℕ) → nat_lt (digit_value b) 10 ≡ true → (48 ≤ b) × (b ≤ 57)
digit_below_ten b h = (grind (arith, nat_tests), grind (arith, nat_tests))

pub below_ten_digits : (ds : List ℕ) → list_all (λ b. nat_lt (digit_value b) 10) ds ≡ true → AreDigits ds
below_ten_digits [] h = tt
below_ten_digits (x ∷ xs) h =
    let both = and_parts (nat_lt (digit_value x) 10) (list_all (λ b. nat_lt (digit_value b) 10) xs) h in
    (digit_below_ten x both.0, below_ten_digits xs both.1)

-- no digit passes the test, so the first byte that passes is after the digits
pub passes_digits : (p : ℕ → Bool) → ((b : ℕ) → 48 ≤ b → b ≤ 57 → p b ≡ false) → (xs ys : List ℕ) → AreDigits xs → position_or_len p (xs ++ ys) ≡ length xs + position_or_len p ys
passes_digits p fails [] ys h = omega arith
passes_digits p fails (x ∷ xs) ys h =
    let first : p x ≡ false = fails x h.0.0 h.0.1 in
    let rest = passes_digits p fails xs ys h.1 in
    rw first (omega arith)

-- the text of a number
pub record IsDecimalText (n : ℕ) (ds : List ℕ) : Type 0 where
  pub digits : AreDigits ds
  pub number : fold one_more 0 ds ≡ n
  pub nonempty : 0 < length ds

one_digit : (n : ℕ) → n < 10 → IsDecimalText n ((48 + n) ∷ [])
one_digit n h = record {
  digits = ((omega arith, omega arith), tt);
  number = ap (λ d. 0 * 10 + d) (digit_value_of n h) ∙ omega arith;
  nonempty = omega arith;
}

more_digits : (n : ℕ) (ds : List ℕ) → 10 ≤ n → IsDecimalText (n / 10) ds → IsDecimalText n (ds ++ ((48 + n % 10) ∷ []))
more_digits n ds h t = record {
  digits = AreDigits-append ds _ t.digits ((omega arith, omega arith), tt);
  number = fold-append one_more 0 ds ((48 + n % 10) ∷ []) ∙ ap (λ m. m * 10 + digit_value (48 + n % 10)) t.number ∙ ap (λ d. n / 10 * 10 + d) (digit_value_of (n % 10) (omega arith)) ∙ omega arith;
  nonempty = grind (arith, common_steps);
}

pub decimal_text : (n : ℕ) → n < 2 ^ 64 → IsDecimalText n (decimal n)
decimal_text = decimal_by_steps IsDecimalText one_digit more_digits
