-- The lines of sides along a segment, by their values at its ends.
use Rattle.std.specs.Prelude.{◌≡◌, ◌≤◌, ◌-◌, Bool, ℕ, ℤ, pos, List, Option, Some, None, option_map}
use Rattle.std.specs.List.{slice_index_or}
use Rattle.rapid_num.specs.declared.joints.Joints.{Joints}
use Rattle.rapid_num.specs.declared.shape.Bound.{Bound}
use Rattle.joint_clip.specs.Touches.{point_at, way_at}
use Rattle.zone_clearance.specs.declared.check.side_line.NamedAxis.{NamedAxis}
use Rattle.zone_clearance.specs.declared.line.Line.{Line}
use Rattle.zone_clearance.specs.declared.side.Side.{Side}
use Rattle.zone_clearance.specs.declared.side.Side.TheVariants.{Zero, Low, High}
use Rattle.zone_clearance.specs.Lines.{bound_of, line_at}
use Rattle.zone_clearance.specs.Premises.{IsInReach}
use Rattle.zone_clearance.specs.Sides.{order_of}

-- axes are counted from 1
abbrev pub IsSide : Side → Type 0
IsSide Zero = Unit {0}
IsSide (Low axis) = 1 ≤ axis
IsSide (High axis) = 1 ≤ axis

-- the line of a side goes straight from one value to another
pub record HasWay (inside : Bool) (p q : Joints) (bounds : List (Option Bound)) (side : Side) (start end : ℤ) : Type 0 where
  pub at : (k m : ℕ) → k ≤ m → line_at inside bounds (point_at p q k m) m side ≡ Some (way_at start end k m)

-- this is the line of a side, or the side has none
pub record IsLineOf (inside : Bool) (p q : Joints) (bounds : List (Option Bound)) (side : Side) (line : Option Line) : Type 0 where
  pub at : (k m : ℕ) → k ≤ m → line_at inside bounds (point_at p q k m) m side ≡ option_map (λ (some : Line). way_at some.start some.end k m) line

-- the lines of all sides, in order
pub record AreLinesOf (inside : Bool) (p q : Joints) (bounds : List (Option Bound)) (lines : List (Option Line)) : Type 0 where
  pub each : (side : Side) → IsSide side → IsLineOf inside p q bounds side (slice_index_or lines (order_of side) None)

-- the bounds of an axis, counted from 1, and its angles at both ends of the segment
pub record IsNamedAxis (p q : Joints) (bounds : List (Option Bound)) (axis : ℕ) (named : NamedAxis) : Type 0 where
  pub bound : bound_of bounds axis ≡ Some named.bound
  pub start : named.start ≡ slice_index_or p.axis (axis - 1) (pos 0)
  pub end : named.end ≡ slice_index_or q.axis (axis - 1) (pos 0)
  pub in_reach : IsInReach named.bound named.start named.end
