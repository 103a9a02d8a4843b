-- What is checked of the numbers of a gap.
use Rattle.std.specs.Prelude.{◌≡◌, ◌≤◌, ◌⊎◌, Bool, true, false, ℕ, ℤ, pos}
use Rattle.rapid_num.specs.declared.joints.Joints.{Joints}
use Rattle.rapid_num.specs.declared.shape.Shape.{Shape}
use Rattle.joint_clip.specs.Touches.{way_at}
use Rattle.zone_clearance.specs.declared.check.claim.Claim.{Claim}
use Rattle.zone_clearance.specs.declared.gap.Gap.{Gap}
use Rattle.zone_clearance.specs.declared.line.Line.{Line}
use Rattle.zone_clearance.specs.declared.side.Side.{Side}
use Rattle.zone_clearance.specs.Gaps.{IsWritten}
use Rattle.zone_clearance.specs.Levels.{IsUnder, IsOver}
use Rattle.zone_clearance.specs.SideLines.{HasWay}

-- the numbers of a gap that is written in lowest terms
pub record IsClaimOf (gap : Gap) (claim : Claim) : Type 0 where
  pub written : IsWritten gap
  pub top : gap.top ≡ pos claim.top
  pub bottom : gap.bottom ≡ pos claim.bottom
  pub at_top : gap.at_top ≡ pos claim.place.top
  pub at_bottom : gap.at_bottom ≡ pos claim.place.bottom

-- one of two lines is at least top/bottom at k/m of the way
abbrev pub OneOver : Line → Line → ℕ → ℕ → ℕ → ℕ → Type 0
OneOver one two top bottom k m = IsOver one.start one.end top bottom k m ⊎ IsOver two.start two.end top bottom k m

-- the greater of two lines is at least top/bottom at both ends, and wherever they meet
pub record LinesProve (one two : Line) (top bottom : ℕ) : Type 0 where
  pub start : OneOver one two top bottom 0 1
  pub end : OneOver one two top bottom 1 1
  pub crossing : (k m : ℕ) → 1 ≤ m → k ≤ m → way_at one.start one.end k m ≡ way_at two.start two.end k m → IsOver one.start one.end top bottom k m

-- a line comes down to the claim at its place: it is above it at the start, and not below it there
pub record Arrives (claim : Claim) (start end : ℤ) : Type 0 where
  pub above : ¬ IsUnder start end claim.top claim.bottom 0 1
  pub down : IsOver start end claim.top claim.bottom claim.place.top claim.place.bottom

-- a line is nowhere below the claim: at neither end
pub record IsFar (claim : Claim) (start end : ℤ) : Type 0 where
  pub at_start : IsOver start end claim.top claim.bottom 0 1
  pub at_end : IsOver start end claim.top claim.bottom 1 1

-- a line does not contradict the claim: for an Inside zone it is not above it at the place; for an Outside zone it is
-- nowhere below it, and not down to it before the place
abbrev pub Passes : Bool → Claim → ℤ → ℤ → Type 0
Passes true claim start end = IsUnder start end claim.top claim.bottom claim.place.top claim.place.bottom
Passes false claim start end = ((claim.top ≡ 0) ⊎ IsFar claim start end) × ((claim.place.top ≡ 0) ⊎ Arrives claim start end)

-- so does the line of each side
abbrev pub AllPass : Joints → Joints → Shape → Claim → Type 0
AllPass p q shape claim = (side : Side) (start end : ℤ) → HasWay shape.inside p q shape.bounds side start end → Passes shape.inside claim start end

-- the line of some side comes down to the claim at its place
pub record SomeArrives (p q : Joints) (shape : Shape) (claim : Claim) : Type 0 where
  pub side : Side
  pub start : ℤ
  pub end : ℤ
  pub way : HasWay shape.inside p q shape.bounds side start end
  pub arrives : Arrives claim start end
