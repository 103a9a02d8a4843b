-- Exact arithmetic on thousandths.
use Rattle.std.specs.Prelude.{ℕ, ◌+◌, ◌*◌, ◌/◌, ℤ, pos, negsuc, ◌+ℤ◌, ◌-ℤ◌, ◌*ℤ◌, neg_ℤ, nat_abs, Option, Some, None, if◌then◌else◌}
use Rattle.rapid_num.specs.Range.{is_num}

-- the num with this many thousandths, if it is in range
abbrev pub num_of : ℤ → Option ℤ
num_of count = if is_num count then Some count else None

-- a + b
abbrev pub sum_of : ℤ → ℤ → Option ℤ
sum_of a b = num_of (a +ℤ b)

-- a - b
abbrev pub difference_of : ℤ → ℤ → Option ℤ
difference_of a b = num_of (a -ℤ b)

-- a/b rounded to the nearest natural number, halves up
abbrev pub rounded : ℕ → ℕ → ℕ
rounded a b = (2 * a + b) / (2 * b)

-- a/b rounded to the nearest integer, halves away from zero
abbrev pub rounded_ratio : ℤ → ℕ → ℤ
rounded_ratio (pos a) b = pos (rounded a b)
rounded_ratio (negsuc a) b = neg_ℤ (pos (rounded (a + 1) b))

-- the product, rounded to a thousandth, halves away from zero
abbrev pub product_of : ℤ → ℤ → Option ℤ
product_of a b = num_of (rounded_ratio (a *ℤ b) 1000)

-- the number with the sign of a quotient by b: negated if b is negative
abbrev pub signed_by : ℤ → ℤ → ℤ
signed_by (pos b) a = a
signed_by (negsuc b) a = neg_ℤ a

-- the quotient, rounded to a thousandth, halves away from zero
abbrev pub quotient_of : ℤ → ℤ → Option ℤ
quotient_of a b = num_of (rounded_ratio (signed_by b (a *ℤ pos 1000)) (nat_abs b))

-- a/b truncated toward zero
abbrev pub whole_part : ℤ → ℕ → ℤ
whole_part (pos a) b = pos (a / b)
whole_part (negsuc a) b = neg_ℤ (pos ((a + 1) / b))

-- DIV: the quotient truncated toward zero
abbrev pub whole_quotient_of : ℤ → ℤ → Option ℤ
whole_quotient_of a b = num_of (whole_part (signed_by b a) (nat_abs b) *ℤ pos 1000)

-- MOD: the remainder of a after DIV, with the sign of a
abbrev pub remainder_of : ℤ → ℤ → ℤ
remainder_of a b = a -ℤ (b *ℤ whole_part (signed_by b a) (nat_abs b))
