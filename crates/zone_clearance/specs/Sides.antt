-- The order of a zone's sides: Zero, then the low and the high side of axis 1, those of axis 2, and so on.
use Rattle.std.specs.Prelude.{◌-◌, ◌*◌, ◌<◌, ◌≡◌, ◌⊎◌, ℕ, zero, suc, List, [], ◌∷◌, ◌++◌}
use Rattle.zone_clearance.specs.declared.side.Side.{Side}
use Rattle.zone_clearance.specs.declared.side.Side.TheVariants.{Zero, Low, High}

-- the place of a side in the order
abbrev pub order_of : Side → ℕ
order_of Zero = 0
order_of (Low axis) = 2 * axis - 1
order_of (High axis) = 2 * axis

-- the sides of a number of axes, in order
abbrev pub sides_of : ℕ → List Side
sides_of zero = Zero ∷ []
sides_of (suc axes) = sides_of axes ++ (Low (suc axes) ∷ High (suc axes) ∷ [])

-- a pair of places is before another one: by the first place, then by the second
abbrev pub ComesBefore : ℕ → ℕ → ℕ → ℕ → Type 0
ComesBefore one two first second = (one < first) ⊎ ((one ≡ first) × (two < second))
