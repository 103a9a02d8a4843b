-- When a segment reaches the bounds of an Outside zone: a point on a bound is not in the zone, which is open, but is at
-- the distance 0.
use Rattle.std.specs.Prelude.{◌⊎◌, ℕ, ℤ, pos, ◌*ℤ◌, ◌≤ℤ◌, List, Option}
use Rattle.rapid_num.specs.declared.joints.Joints.{Joints}
use Rattle.rapid_num.specs.declared.shape.Bound.{Bound}
use Rattle.joint_clip.specs.Touches.{Names, SomeFraction, point_at}

-- some named axis is on one of its bounds or past it, at a point that is given times m
pub record IsAtBound (bounds : List (Option Bound)) (point : ℕ → ℤ) (m : ℕ) : Type 0 where
  pub axis : ℕ
  pub bound : Bound
  pub named : Names bounds axis bound
  pub at : (point axis ≤ℤ (bound.low *ℤ pos m)) ⊎ ((bound.high *ℤ pos m) ≤ℤ point axis)

-- some point of the segment from p to q is in the zone or on a bound
abbrev pub ReachesBound : Joints → Joints → List (Option Bound) → Type 0
ReachesBound p q bounds = SomeFraction (λ k m. IsAtBound bounds (point_at p q k m) m)
