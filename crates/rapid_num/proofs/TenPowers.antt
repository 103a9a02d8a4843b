-- Powers of ten that make a number too large or round it to zero.
use Rattle.std.proofs.Common.{◌≡◌, ℕ, ◌+◌, ◌*◌, ◌^◌, ◌<◌, ◌≤◌, refl, Some, None, arith}
use Rattle.std.proofs.Math.Nat.{one-le-pow, pow-le-pow_left, pow-le-pow_right, mul-le-mul, mul-le-mul_right, div-eq_of_lt}
use Rattle.std.proofs.lemmas.Nat.{pow-add}
use Rattle.std.proofs.lemmas.Bool.Decides.{nat_tests}
use Rattle.rapid_num.specs.Range.{greatest}
use Rattle.rapid_num.specs.Arithmetic.{rounded}
use Rattle.rapid_num.specs.Literal.{base_of}
use Rattle.rapid_num.specs.Reading.{size_within}

pub too_great : (n : ℕ) → greatest < n → size_within n ≡ None
too_great n h = grind (arith, nat_tests)

pub pow_pos_ten : (t : ℕ) → 1 ≤ 10 ^ t
pow_pos_ten t = one-le-pow t 10 (omega arith)

pub pow_ten_fits : (t : ℕ) → t ≤ 30 → 10 ^ t ≤ 10 ^ 30
pow_ten_fits t h = pow-le-pow_right (omega arith) h

-- a number above the greatest stays above it when multiplied by a power of ten
pub great_times : (n t : ℕ) → greatest < n → size_within (n * 10 ^ t) ≡ None
great_times n t h =
    let more : n * 1 ≤ n * 10 ^ t = mul-le-mul (omega arith) (pow_pos_ten t) in
    too_great _ (omega arith)

-- thirteen factors of ten are too many
pub many_tens : (n t : ℕ) → 0 < n → 12 < t → size_within (n * 10 ^ t) ≡ None
many_tens n t h l =
    let power : 10 ^ 13 ≤ 10 ^ t = pow-le-pow_right (omega arith) l in
    let more : 1 * 10 ^ 13 ≤ n * 10 ^ t = mul-le-mul h power in
    too_great _ (omega arith)

-- less than a half rounds to zero
pub rounds_to_nothing : (n t : ℕ) → n < 10 ^ 30 → 30 < t → size_within (rounded n (10 ^ t)) ≡ Some 0
rounds_to_nothing n t h l =
    let power : 10 ^ 31 ≤ 10 ^ t = pow-le-pow_right (omega arith) l in
    let none : rounded n (10 ^ t) ≡ 0 = div-eq_of_lt (omega arith) in
    rw none refl

-- digits before the point and digits after it
pub both_fit : (n a b : ℕ) → n + 1 ≤ 1 * 10 ^ a → a + b ≤ 30 → (n + 1) * 10 ^ b ≤ 10 ^ 30
both_fit n a b h short =
    let product : (n + 1) * 10 ^ b ≤ 1 * 10 ^ a * 10 ^ b = mul-le-mul_right (10 ^ b) h in
    omega (arith, pow-add 10 a b, pow_ten_fits (a + b) short)

pub base_at_most : (letter base : ℕ) → Some base ≡ base_of letter → base ≤ 16
base_at_most letter base e = grind (arith, nat_tests)

pub based_fits : (base k : ℕ) → base ≤ 16 → k ≤ 28 → base ^ k ≤ 16 ^ 28
based_fits base k low short =
    let left : base ^ k ≤ 16 ^ k = pow-le-pow_left low k in
    let right : 16 ^ k ≤ 16 ^ 28 = pow-le-pow_right (omega arith) short in
    omega arith
