-- 9E9 means 'not given': a missing axis, or a missing bound of an axis.
use Rattle.std.specs.Prelude.{◌==◌, Bool, false, ℤ, pos, negsuc}

abbrev pub absent : ℤ
absent = pos 9_000_000_000_000

abbrev pub is_absent : ℤ → Bool
is_absent (pos n) = n == 9_000_000_000_000
is_absent (negsuc n) = false
