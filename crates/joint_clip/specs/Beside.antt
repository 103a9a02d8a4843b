-- When a segment of a move is beside an Inside zone: a single axis keeps it on one side of the zone.
use Rattle.std.specs.Prelude.{ℕ, ℤ, pos, ◌<ℤ◌, ◌⊎◌, List, Option}
use Rattle.std.specs.List.{slice_index_or}
use Rattle.rapid_num.specs.declared.joints.Joints.{Joints}
use Rattle.rapid_num.specs.declared.shape.Bound.{Bound}
use Rattle.joint_clip.specs.Touches.{Names}

-- both angles are past the same bound
abbrev pub IsBeside : Bound → ℤ → ℤ → Type 0
IsBeside bound p q = ((p <ℤ bound.low) × (q <ℤ bound.low)) ⊎ ((bound.high <ℤ p) × (bound.high <ℤ q))

-- some named axis is past the same bound at p and at q
pub record PassesBeside (bounds : List (Option Bound)) (p q : Joints) : Type 0 where
  pub axis : ℕ
  pub bound : Bound
  pub named : Names bounds axis bound
  pub beside : IsBeside bound (slice_index_or p.axis axis (pos 0)) (slice_index_or q.axis axis (pos 0))
