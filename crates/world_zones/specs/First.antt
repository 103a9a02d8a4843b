-- The first zone that stops a segment.
use Rattle.std.specs.Prelude.{◌≡◌, ◌<◌, ℕ, Option, Some, MatchOption}
use Rattle.rapid_num.specs.declared.joints.Joints.{Joints}
use Rattle.rapid_num.specs.declared.shape.Shape.{Shape}
use Rattle.joint_clip.specs.Touches.{Touches}

-- there is a shape, and the segment from p to q touches it
pub record Stops (p q : Joints) (there : Option Shape) : Type 0 where
  pub shape : Shape
  pub is : there ≡ Some shape
  pub touched : Touches p q shape

-- the first index at which it holds, or none if it holds at none
abbrev pub IsFirstIndex : (ℕ → Type 0) → Option ℕ → Type 0
IsFirstIndex Holds found = MatchOption found ((k : ℕ) → ¬ Holds k) (λ index. Holds index × ((k : ℕ) → k < index → ¬ Holds k))
