-- The range of a num, in thousandths.
use Rattle.std.specs.Prelude.{ℕ, ◌≤◌, ℤ, nat_abs, Bool, nat_le}

-- the greatest absolute value of a num, in thousandths
abbrev pub greatest : ℕ
greatest = 9_999_999_999_999

-- a number of thousandths in the range of a num
pub record IsNum (count : ℤ) : Type 0 where
  pub size : nat_abs count ≤ greatest

abbrev pub is_num : ℤ → Bool
is_num count = nat_le (nat_abs count) greatest
