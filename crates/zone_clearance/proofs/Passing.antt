-- The tests of a claim by the lines of all sides, one axis more at a time.
use Rattle.std.proofs.Common.{◌≡◌, ◌≤◌, ◌+◌, ℕ, zero, suc, Bool, true, false, List, length, Option, Some, None, IfSome, IsSomeAnd, refl, subst, inl, inr, arith, ℤ, pos, ◌*ℤ◌, ◌≤ℤ◌}
use Rattle.std.proofs.lemmas.Int.{ints}
use Rattle.rapid_num.specs.declared.joints.Joints.{Joints}
use Rattle.rapid_num.specs.declared.shape.Bound.{Bound}
use Rattle.rapid_num.specs.declared.shape.Shape.{Shape}
use Rattle.joint_clip.specs.Touches.{point_at}
use Rattle.zone_clearance.specs.declared.check.claim.Claim.{Claim}
use Rattle.zone_clearance.specs.declared.line.Line.{Line}
use Rattle.zone_clearance.specs.declared.side.Side.{Side}
use Rattle.zone_clearance.specs.declared.side.Side.TheVariants.{Zero, Low, High}
use Rattle.zone_clearance.specs.Claims.{Arrives, Passes, SomeArrives}
use Rattle.zone_clearance.specs.Levels.{IsUnder}
use Rattle.zone_clearance.specs.SideLines.{HasWay, IsLineOf}
use Rattle.zone_clearance.proofs.Axes.{axis_of, known_axis, one_of}
use Rattle.zone_clearance.proofs.Distances.{known_side}
use Rattle.zone_clearance.proofs.Ends.{at_start, under_start}
use Rattle.zone_clearance.proofs.LineWays.{line_along, line_way, no_way}
use Rattle.zone_clearance.proofs.SideWays.{same_ways, zero_has}

-- this holds of the line of each side of the first axes
abbrev pub OfFirst : Bool → Joints → Joints → List (Option Bound) → ℕ → (ℤ → ℤ → Type 0) → Type 0
OfFirst inside p q bounds axes Holds = (side : Side) (start end : ℤ) → axis_of side ≤ axes → HasWay inside p q bounds side start end → Holds start end

-- at first: of the line of Zero alone
none_of_low : (inside : Bool) (p q : Joints) (bounds : List (Option Bound)) (s e : ℤ) → HasWay inside p q bounds (Low 0) s e → ⊥
none_of_low inside p q bounds s e way = let line = way.at 0 1 at_start.whole in cc

none_of_high : (inside : Bool) (p q : Joints) (bounds : List (Option Bound)) (s e : ℤ) → HasWay inside p q bounds (High 0) s e → ⊥
none_of_high inside p q bounds s e way = let line = way.at 0 1 at_start.whole in cc

zero_only : (Holds : ℤ → ℤ → Type 0) (inside : Bool) (p q : Joints) (bounds : List (Option Bound)) (s e : ℤ) → (inside ≡ true → Holds (pos 0) (pos 0)) → HasWay inside p q bounds Zero s e → Holds s e
zero_only Holds false p q bounds s e first way = absurd (let line = way.at 0 1 at_start.whole in cc)
zero_only Holds true p q bounds s e first way =
    let ends = same_ways true p q bounds Zero (pos 0) (pos 0) s e (zero_has p q bounds) way in
    subst (λ (u : ℤ). Holds u e) ends.0 (subst (λ (v : ℤ). Holds (pos 0) v) ends.1 (first refl))

pub of_none : (Holds : ℤ → ℤ → Type 0) (inside : Bool) (p q : Joints) (bounds : List (Option Bound)) → (inside ≡ true → Holds (pos 0) (pos 0)) → OfFirst inside p q bounds 0 Holds
of_none Holds inside p q bounds first Zero s e known way = zero_only Holds inside p q bounds s e first way
of_none Holds inside p q bounds first (Low zero) s e known way = absurd (none_of_low inside p q bounds s e way)
of_none Holds inside p q bounds first (Low (suc axis)) s e known way = absurd (omega (arith, known))
of_none Holds inside p q bounds first (High zero) s e known way = absurd (none_of_high inside p q bounds s e way)
of_none Holds inside p q bounds first (High (suc axis)) s e known way = absurd (omega (arith, known))

-- the line of a side, as it was read
pub of_line : (Holds : ℤ → ℤ → Type 0) (inside : Bool) (p q : Joints) (bounds : List (Option Bound)) (side : Side) (line : Option Line) → IsLineOf inside p q bounds side line → IfSome line (λ some. Holds some.start some.end) → (s e : ℤ) → HasWay inside p q bounds side s e → Holds s e
of_line Holds inside p q bounds side None is holds s e way = absurd (no_way inside p q bounds side s e is way)
of_line Holds inside p q bounds side (Some line) is holds s e way =
    let along = line_along inside p q bounds side line s e is way in
    subst (λ (u : ℤ). Holds u e) along.start_is (subst (λ (v : ℤ). Holds line.start v) along.end_is holds)

pub line_of : (Holds : ℤ → ℤ → Type 0) (inside : Bool) (p q : Joints) (bounds : List (Option Bound)) (side : Side) (line : Option Line) → IsLineOf inside p q bounds side line → ((s e : ℤ) → HasWay inside p q bounds side s e → Holds s e) → IfSome line (λ some. Holds some.start some.end)
line_of Holds inside p q bounds side None is holds = tt
line_of Holds inside p q bounds side (Some line) is holds = holds line.start line.end (line_way inside p q bounds side line is)

-- one axis more
pub of_more : (Holds : ℤ → ℤ → Type 0) (inside : Bool) (p q : Joints) (bounds : List (Option Bound)) (axis : ℕ) → OfFirst inside p q bounds axis Holds → ((s e : ℤ) → HasWay inside p q bounds (Low (axis + 1)) s e → Holds s e) → ((s e : ℤ) → HasWay inside p q bounds (High (axis + 1)) s e → Holds s e)
    → OfFirst inside p q bounds (axis + 1) Holds
of_more Holds inside p q bounds axis first low high side s e known way =
    elim (one_of axis (axis + 1) side (omega arith) known) [
      | inl either ↦ elim either [
        | inl before ↦ first side s e before way
        | inr here ↦ low s e (subst (λ (x : Side). HasWay inside p q bounds x s e) here way)
      ]
      | inr here ↦ high s e (subst (λ (x : Side). HasWay inside p q bounds x s e) here way)
    ]

pub of_all : (Holds : ℤ → ℤ → Type 0) (inside : Bool) (p q : Joints) (bounds : List (Option Bound)) (axes : ℕ) → length bounds ≤ axes → OfFirst inside p q bounds axes Holds → (side : Side) (s e : ℤ) → HasWay inside p q bounds side s e → Holds s e
of_all Holds inside p q bounds axes all first side s e way =
    first side s e (past (known_axis (length bounds) side (known_side inside bounds (point_at p q 0 1) 1 side _ (way.at 0 1 at_start.whole)).known)) way
  where
    past : axis_of side ≤ length bounds → axis_of side ≤ axes
    past known = omega (arith, known, all)

-- the line of Zero
pub zero_passes : (inside : Bool) (claim : Claim) → inside ≡ true → Passes inside claim (pos 0) (pos 0)
zero_passes false claim kind = absurd cc
zero_passes true claim kind = zero_under claim.top claim.bottom claim.place.top claim.place.bottom
  where
    zero_under : (t b k m : ℕ) → IsUnder (pos 0) (pos 0) t b k m
    zero_under t b k m = record { under = omega (arith, ints) }

pub zero_never_arrives : (claim : Claim) → ¬ Arrives claim (pos 0) (pos 0)
zero_never_arrives claim arrives = arrives.above (under_start (pos 0) (pos 0) claim.top claim.bottom (none_le claim.top claim.bottom))
  where
    none_le : (t b : ℕ) → (pos 0 *ℤ pos b) ≤ℤ pos t
    none_le t b = omega (arith, ints)

-- some line arrives
pub arrives_by : (p q : Joints) (shape : Shape) (claim : Claim) (side : Side) (line : Option Line) → IsLineOf shape.inside p q shape.bounds side line → IsSomeAnd line (λ some. Arrives claim some.start some.end) → SomeArrives p q shape claim
arrives_by p q shape claim side None is arrives = absurd arrives
arrives_by p q shape claim side (Some line) is arrives =
    record { side = side; start = line.start; end = line.end; way = line_way shape.inside p q shape.bounds side line is; arrives = arrives }

pub never_by : (claim : Claim) (line : Option Line) → ¬ IsSomeAnd line (λ some. Arrives claim some.start some.end) → IfSome line (λ some. ¬ Arrives claim some.start some.end)
never_by claim None never = tt
never_by claim (Some line) never = never
