-- The distance of a point from a zone, by the greatest change of a named axis, in thousandths of a degree.
use Rattle.std.specs.Prelude.{Bool, true, false, ℕ, ℤ, pos, List, length, Option, unwrap_or}
use Rattle.std.specs.Int.{int_max, int_min}
use Rattle.std.specs.List.{filter_map, fold, reduce}
use Rattle.rapid_num.specs.declared.joints.Joints.{Joints}
use Rattle.rapid_num.specs.declared.shape.Bound.{Bound}
use Rattle.rapid_num.specs.declared.shape.Shape.{Shape}
use Rattle.joint_clip.specs.Touches.{point_at}
use Rattle.zone_clearance.specs.Lines.{line_at}
use Rattle.zone_clearance.specs.Sides.{sides_of}

-- the lines of all sides at a point, in order; the point is given times m, and so are they
abbrev pub lines_at : Bool → List (Option Bound) → (ℕ → ℤ) → ℕ → List ℤ
lines_at inside bounds point m = filter_map (line_at inside bounds point m) (sides_of (length bounds))

-- the distance of the point, times m: from an Inside zone the greatest line, from an Outside zone the least one, or 0
-- if that is negative
abbrev pub distance_at : Bool → List (Option Bound) → (ℕ → ℤ) → ℕ → ℤ
distance_at true bounds point m = fold int_max (pos 0) (lines_at true bounds point m)
distance_at false bounds point m = int_max (pos 0) (unwrap_or (reduce int_min (lines_at false bounds point m)) (pos 0))

-- the distance at k/m of the way from p to q, times m
abbrev pub distance_along : Joints → Joints → Shape → ℕ → ℕ → ℤ
distance_along p q shape k m = distance_at shape.inside shape.bounds (point_at p q k m) m
