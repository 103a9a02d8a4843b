-- The order of fractions, by cross multiplication.
use Rattle.std.proofs.Common.{◌≤◌, ◌*◌, ℕ, arith}
use Rattle.std.proofs.Math.Nat.{mul-le-mul_right, le_of_mul-le-mul_right}
use Rattle.joint_clip.specs.Parts.{IsAtMost}

-- a/b to c/d to e/f
pub at_most-trans : (a b c d e f : ℕ) → 1 ≤ d → IsAtMost a b c d → IsAtMost c d e f → IsAtMost a b e f
at_most-trans a b c d e f some one two =
    let step : a * f * d ≤ e * b * d = omega (arith, mul-le-mul_right f one.across, mul-le-mul_right b two.across) in
    record { across = le_of_mul-le-mul_right {m = a * f} {n = e * b} {k = d} step some }
