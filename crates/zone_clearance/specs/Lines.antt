-- The lines of a zone's sides: how far a point is outside an Inside zone's bound, or how far it is from an Outside
-- zone's bound on the inner side. A line is negative on the other side of the bound.
use Rattle.std.specs.Prelude.{◌-◌, Bool, true, false, ℕ, zero, suc, ℤ, pos, ◌-ℤ◌, ◌*ℤ◌, List, Option, None, option_map}
use Rattle.std.specs.Bool.{then_some}
use Rattle.std.specs.List.{slice_index_or}
use Rattle.rapid_num.specs.declared.shape.Bound.{Bound}
use Rattle.zone_clearance.specs.declared.side.Side.{Side}
use Rattle.zone_clearance.specs.declared.side.Side.TheVariants.{Zero, Low, High}

-- the lines of a low and of a high bound at x/m, times m
abbrev pub low_line : Bool → Bound → ℤ → ℕ → ℤ
low_line true bound x m = (bound.low *ℤ pos m) -ℤ x
low_line false bound x m = x -ℤ (bound.low *ℤ pos m)

abbrev pub high_line : Bool → Bound → ℤ → ℕ → ℤ
high_line true bound x m = x -ℤ (bound.high *ℤ pos m)
high_line false bound x m = (bound.high *ℤ pos m) -ℤ x

-- the bounds of an axis, counted from 1
abbrev pub bound_of : List (Option Bound) → ℕ → Option Bound
bound_of bounds zero = None
bound_of bounds (suc axis) = slice_index_or bounds axis None

-- the line of a side of an Inside or Outside zone at a point, given times m: none if the axis is not named, and `Zero`
-- has one in an Inside zone alone
abbrev pub line_at : Bool → List (Option Bound) → (ℕ → ℤ) → ℕ → Side → Option ℤ
line_at inside bounds point m Zero = then_some inside (pos 0)
line_at inside bounds point m (Low axis) = option_map (λ bound. low_line inside bound (point (axis - 1)) m) (bound_of bounds axis)
line_at inside bounds point m (High axis) = option_map (λ bound. high_line inside bound (point (axis - 1)) m) (bound_of bounds axis)
