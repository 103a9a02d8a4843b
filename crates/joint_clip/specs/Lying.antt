-- Whether a position lies in a zone.
use Rattle.std.specs.Prelude.{ℕ, ◌+◌, Bool, true, not, ◌&&◌, ℤ, pos, int_lt, List, [], ◌∷◌, Option, None, Some, if◌then◌else◌}
use Rattle.std.specs.List.{slice_index_or}
use Rattle.rapid_num.specs.declared.joints.Joints.{Joints}
use Rattle.rapid_num.specs.declared.shape.Bound.{Bound}
use Rattle.rapid_num.specs.declared.shape.Shape.{Shape}

-- an angle is within the bounds of its axis, which are included; an axis without bounds has no limit
abbrev pub is_within_bound : Option Bound → ℤ → Bool
is_within_bound None angle = true
is_within_bound (Some bound) angle = not (int_lt angle bound.low) && not (int_lt bound.high angle)

-- each axis of a position is within its bounds, which are those of consecutive axes, starting with this one
abbrev pub all_within : ℕ → List (Option Bound) → Joints → Bool
all_within axis [] at = true
all_within axis (bound ∷ bounds) at = is_within_bound bound (slice_index_or at.axis axis (pos 0)) && all_within (axis + 1) bounds at

-- a position lies in the zone: an Inside zone is closed, an Outside zone is open
abbrev pub lies_in : Shape → Joints → Bool
lies_in shape at = if shape.inside then all_within 0 shape.bounds at else not (all_within 0 shape.bounds at)
