-- The shape that a low and a high position make; 9E9 means no limit.
use Rattle.std.specs.Prelude.{◌&&◌, ◌||◌, Bool, false, not, if◌then◌else◌, ℕ, ℤ, pos, neg_ℤ, int_lt, List, [], ◌∷◌, drop, Option, None, Some, is_some, Result, Ok, Err}
use Rattle.std.specs.List.{list_any}
use Rattle.rapid_num.specs.Range.{greatest}
use Rattle.rapid_num.specs.Absent.{is_absent}
use Rattle.rapid_num.specs.declared.joints.Joints.{Joints}
use Rattle.rapid_num.specs.declared.shape.Bound.{Bound}
use Rattle.rapid_num.specs.declared.shape.Shape.{Shape}
use Rattle.joint_clip.specs.declared.shape_fault.ShapeFault.{ShapeFault}
use Rattle.joint_clip.specs.declared.shape_fault.ShapeFault.TheVariants as faults

-- a low and a high bound as stored: no num is below the least one or above the greatest
abbrev pub kept_low : ℤ → ℤ
kept_low low = if is_absent low then neg_ℤ (pos greatest) else low

abbrev pub kept_high : ℤ → ℤ
kept_high high = if is_absent high then pos greatest else high

-- the bounds of an axis, which is named if at least one of them is a limit
abbrev pub bound_of : ℤ → ℤ → Option Bound
bound_of low high =
    if is_absent low && is_absent high then None else Some (record { low = kept_low low; high = kept_high high })

-- the bounds of each axis
abbrev pub bounds_of : List ℤ → List ℤ → List (Option Bound)
bounds_of (low ∷ lows) (high ∷ highs) = bound_of low high ∷ bounds_of lows highs
bounds_of _ _ = []

abbrev pub shape_of : Bool → Joints → Joints → Shape
shape_of inside low high = record { inside = inside; bounds = bounds_of low.axis high.axis }

-- the low bound is not below the high one
abbrev pub has_no_room : Option Bound → Bool
has_no_room None = false
has_no_room (Some bound) = not (int_lt bound.low bound.high)

-- the shape for an arm with that many axes: `ExtAxis` if an axis past them is named, `ZoneShape` if none is named or
-- one has no room
abbrev pub made_shape : Bool → Joints → Joints → ℕ → Result Shape ShapeFault
made_shape inside low high axes =
    let shape = shape_of inside low high in
    if list_any is_some (drop axes shape.bounds) then Err faults.ExtAxis
    else if not (list_any is_some shape.bounds) || list_any has_no_room shape.bounds then Err faults.ZoneShape
    else Ok shape
