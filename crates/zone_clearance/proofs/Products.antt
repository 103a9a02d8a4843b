-- Products of signed numbers: their sizes, and as the code computes them.
use Rattle.std.proofs.Common.{◌≡◌, ◌≤◌, ◌*◌, ◌⊎◌, ℕ, true, false, ◌∙◌, inl, inr, arith, ℤ, pos, negsuc, nat_abs, ◌+ℤ◌, ◌*ℤ◌, ◌≤ℤ◌, ◌<ℤ◌, w64, to_z, of_z, lit<, FitsSigned}
use Rattle.std.proofs.lemmas.Int.{ints, fits_signed_mul, to_z-of_z, unsigned_abs-mul}
use Rattle.std.proofs.lemmas.Nat.{mul-le}
use Rattle.std.specs.Prelude.{int_le, int_lt}

pub nat_abs-product : (a b : ℤ) (m n : ℕ) → nat_abs a ≤ m → nat_abs b ≤ n → nat_abs (a *ℤ b) ≤ m * n
nat_abs-product a b m n one two = rw (unsigned_abs-mul a b) (mul-le _ _ _ _ one two)

-- a line's value times a difference of two lines
pub scaled_fits : (a : ℤ) (n : ℕ) → nat_abs a ≤ 200_000_000 → n ≤ 400_000_000 → FitsSigned w64 (to_z w64 (of_z w64 a) *ℤ to_z w64 n)
scaled_fits a n small short =
    let same : to_z w64 (of_z w64 a) ≡ a = omega (arith, ints) in
    let by : to_z w64 n ≡ pos n = omega (arith, ints) in
    rw (same, by) (fits_signed_mul w64 a (pos n) 200_000_000 400_000_000 small short (lit< tt))

pub scaled_is : (a : ℤ) (n : ℕ) → nat_abs a ≤ 200_000_000 → n ≤ 400_000_000 → to_z w64 (of_z w64 (to_z w64 (of_z w64 a) *ℤ to_z w64 n)) ≡ a *ℤ pos n
scaled_is a n small short =
    let same : to_z w64 (of_z w64 a) ≡ a = omega (arith, ints) in
    let by : to_z w64 n ≡ pos n = omega (arith, ints) in
    to_z-of_z w64 _ (scaled_fits a n small short) ∙ rw (same, by)

pub scaled_small : (a : ℤ) (n : ℕ) → nat_abs a ≤ 200_000_000 → n ≤ 400_000_000 → nat_abs (a *ℤ pos n) ≤ 80_000_000_000_000_000
scaled_small a n small short = nat_abs-product a (pos n) 200_000_000 400_000_000 small short

pub scaled_read : (r a : ℤ) (n m : ℕ) → nat_abs a ≤ 200_000_000 → r ≡ to_z w64 (of_z w64 a) *ℤ pos n → n ≡ m → r ≡ a *ℤ pos m
scaled_read r a n m small is same =
    let whole : to_z w64 (of_z w64 a) ≡ a = omega (arith, ints) in
    is ∙ rw (whole, same)

-- a product against a natural number, by the size of a factor
pub product_le : (way : ℤ) (b n : ℕ) → (way <ℤ pos 0) ⊎ (nat_abs way * b ≤ n) → (way *ℤ pos b) ≤ℤ pos n
product_le (pos w) b n (inl below) = absurd (omega (arith, ints))
product_le (pos w) b n (inr le) = omega (arith, ints)
product_le (negsuc w) b n either = omega (arith, ints)

-- a sum of two such products
pub sum_is : (x y : ℤ) → nat_abs x ≤ 80_000_000_000_000_000 → nat_abs y ≤ 80_000_000_000_000_000 → to_z w64 (of_z w64 (to_z w64 (of_z w64 x) +ℤ to_z w64 (of_z w64 y))) ≡ x +ℤ y
sum_is x y small short = omega (arith, ints)

pub sum_small : (x y : ℤ) → nat_abs x ≤ 80_000_000_000_000_000 → nat_abs y ≤ 80_000_000_000_000_000 → nat_abs (to_z w64 (of_z w64 (to_z w64 (of_z w64 x) +ℤ to_z w64 (of_z w64 y)))) ≤ 160_000_000_000_000_000
sum_small x y small short = omega (arith, ints)

-- what a comparison says
pub lt_from_true : (a b : ℤ) → int_lt a b ≡ true → a <ℤ b
lt_from_true a b e = grind (arith, ints)

pub le_from_not_lt : (a b : ℤ) → int_lt a b ≡ false → b ≤ℤ a
le_from_not_lt a b e = grind (arith, ints)

pub le_from_true : (a b : ℤ) → int_le a b ≡ true → a ≤ℤ b
le_from_true a b e = grind (arith, ints)

-- a value of a line, as it is passed on
pub line_value : (r : ℤ) → nat_abs r ≤ 200_000_000 → to_z w64 (of_z w64 r) ≡ r
line_value r small = omega (arith, ints)

pub positive_from_product : (r : ℤ) (t b : ℕ) → pos t <ℤ (r *ℤ pos b) → pos 0 ≤ℤ r
positive_from_product (pos n) t b above = omega (arith, ints)
positive_from_product (negsuc n) t b above = absurd (omega (arith, ints))
