-- The element of an array that a num names (RAPID Overview, arrays).
use Rattle.std.specs.Prelude.{ℕ, ◌/◌, ◌%◌, ◌&&◌, ◌==◌, nat_le, ℤ, pos, negsuc, Option, Some, None, if◌then◌else◌}

-- the number, from 1, of the element that a num in thousandths names in an array of this length
abbrev pub element_number : ℕ → ℤ → Option ℕ
element_number len (pos n) = if n % 1_000 == 0 && nat_le 1 (n / 1_000) && nat_le (n / 1_000) len then Some (n / 1_000) else None
element_number len (negsuc n) = None
