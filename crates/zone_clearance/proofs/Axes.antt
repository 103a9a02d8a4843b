-- The axis of a side.
use Rattle.std.proofs.Common.{◌≡◌, ◌≤◌, ◌*◌, ◌⊎◌, ℕ, suc, ap, inl, inr, arith}
use Rattle.std.proofs.lemmas.Bool.{cases_lt}
use Rattle.zone_clearance.specs.declared.side.Side.{Side}
use Rattle.zone_clearance.specs.declared.side.Side.TheVariants.{Zero, Low, High}
use Rattle.zone_clearance.specs.Sides.{order_of}

-- counted from 1
abbrev pub axis_of : Side → ℕ
axis_of Zero = 0
axis_of (Low axis) = axis
axis_of (High axis) = axis

-- the sides of one axis more
pub one_of : (axes next : ℕ) (side : Side) → next ≡ suc axes → axis_of side ≤ next → ((axis_of side ≤ axes) ⊎ (side ≡ Low next)) ⊎ (side ≡ High next)
one_of axes next Zero is known = inl (inl (omega arith))
one_of axes next (Low axis) is known =
    elim (cases_lt axis next) [
      | inl before ↦ inl (inl (omega (arith, is, before)))
      | inr here ↦ let same : axis ≡ next = omega (arith, known, here) in inl (inr (ap Low same))
    ]
one_of axes next (High axis) is known =
    elim (cases_lt axis next) [
      | inl before ↦ inl (inl (omega (arith, is, before)))
      | inr here ↦ let same : axis ≡ next = omega (arith, known, here) in inr (ap High same)
    ]

pub known_axis : (axes : ℕ) (side : Side) → order_of side ≤ 2 * axes → axis_of side ≤ axes
known_axis axes Zero known = omega arith
known_axis axes (Low axis) known = omega arith
known_axis axes (High axis) known = omega arith
