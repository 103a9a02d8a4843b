-- Equal bools, and counting those that hold.
use Rattle.std.specs.Prelude.{ℕ, Bool, true, false, not, if◌then◌else◌}

abbrev pub same_truth : Bool → Bool → Bool
same_truth true b = b
same_truth false b = not b

-- one if it holds, else zero
abbrev pub one_if : Bool → ℕ
one_if b = if b then 1 else 0
