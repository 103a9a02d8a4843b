-- The sides that prove a gap: that no point of the segment is nearer.
use Rattle.std.specs.Prelude.{◌≡◌, ◌≤◌, ◌<◌, ◌*◌, ◌⊎◌, ℕ, ℤ, pos, nat_abs, ◌*ℤ◌, ◌≤ℤ◌, Some, None, IsSomeAnd, MatchBool, Option}
use Rattle.std.specs.Int.{int_max}
use Rattle.rapid_num.specs.declared.joints.Joints.{Joints}
use Rattle.rapid_num.specs.declared.shape.Shape.{Shape}
use Rattle.joint_clip.specs.Touches.{point_at}
use Rattle.zone_clearance.specs.declared.gap.Gap.{Gap}
use Rattle.zone_clearance.specs.declared.side.Side.{Side}
use Rattle.zone_clearance.specs.Lines.{line_at}
use Rattle.zone_clearance.specs.Sides.{order_of, ComesBefore}

-- the line of a side at k/m of the way from p to q, times m
abbrev pub line_along : Joints → Joints → Shape → ℕ → ℕ → Side → Option ℤ
line_along p q shape k m side = line_at shape.inside shape.bounds (point_at p q k m) m side

-- both sides have a line, and the greater one is at least top/bottom at k/m of the way
pub record IsOneAbove (p q : Joints) (shape : Shape) (first second : Side) (top bottom k m : ℕ) : Type 0 where
  pub one : ℤ
  pub two : ℤ
  pub first_line : line_along p q shape k m first ≡ Some one
  pub second_line : line_along p q shape k m second ≡ Some two
  pub above : pos (top * m) ≤ℤ (int_max one two *ℤ pos bottom)

-- the greater line of two sides is at least top/bottom at both ends, and wherever the two lines meet
pub record PairProves (p q : Joints) (shape : Shape) (first second : Side) (top bottom : ℕ) : Type 0 where
  pub start : IsOneAbove p q shape first second top bottom 0 1
  pub end : IsOneAbove p q shape first second top bottom 1 1
  pub crossing : (k m : ℕ) → 1 ≤ m → k ≤ m → line_along p q shape k m first ≡ line_along p q shape k m second → IsOneAbove p q shape first second top bottom k m

-- a side's line is at most top/bottom at k/m of the way
pub record IsNear (p q : Joints) (shape : Shape) (side : Side) (top bottom k m : ℕ) : Type 0 where
  pub line : ℤ
  pub there : line_along p q shape k m side ≡ Some line
  pub near : (line *ℤ pos bottom) ≤ℤ pos (top * m)

-- each line is at least top/bottom at both ends, 0/1 and 1/1 of the way
pub record AreFar (p q : Joints) (shape : Shape) (top bottom : ℕ) : Type 0 where
  pub far : (end : ℕ) (side : Side) (line : ℤ) → end ≤ 1 → line_along p q shape end 1 side ≡ Some line → pos top ≤ℤ (line *ℤ pos bottom)

-- a side's line is at most top/bottom at k/m of the way, and no line is below it at an end
pub record SideProves (p q : Joints) (shape : Shape) (side : Side) (top bottom k m : ℕ) : Type 0 where
  pub near : IsNear p q shape side top bottom k m
  pub far : (top ≡ 0) ⊎ AreFar p q shape top bottom

-- the sides of a gap prove it: two of an Inside zone, one of an Outside zone
abbrev pub SidesProve : Joints → Joints → Shape → Gap → Type 0
SidesProve p q shape gap = MatchBool shape.inside
    (IsSomeAnd gap.second (λ second. PairProves p q shape gap.first second (nat_abs gap.top) (nat_abs gap.bottom)))
    ((gap.second ≡ None) × SideProves p q shape gap.first (nat_abs gap.top) (nat_abs gap.bottom) (nat_abs gap.at_top) (nat_abs gap.at_bottom))

-- the first pair of sides that proves it, none after its second
pub record IsFirstPair (p q : Joints) (shape : Shape) (first second : Side) (top bottom : ℕ) : Type 0 where
  pub ordered : order_of first ≤ order_of second
  pub proves : PairProves p q shape first second top bottom
  pub none_before : (one two : Side) → order_of one ≤ order_of two → ComesBefore (order_of one) (order_of two) (order_of first) (order_of second) → ¬ PairProves p q shape one two top bottom

-- the first side whose line is at most top/bottom at k/m of the way
pub record IsFirstNear (p q : Joints) (shape : Shape) (first : Side) (top bottom k m : ℕ) : Type 0 where
  pub near : IsNear p q shape first top bottom k m
  pub none_before : (side : Side) → order_of side < order_of first → ¬ IsNear p q shape side top bottom k m

-- the sides of a gap are the first ones: of the pairs that prove it for an Inside zone, of those that are as near at
-- the gap's point for an Outside zone
abbrev pub AreFirstSides : Joints → Joints → Shape → Gap → Type 0
AreFirstSides p q shape gap = MatchBool shape.inside
    (IsSomeAnd gap.second (λ second. IsFirstPair p q shape gap.first second (nat_abs gap.top) (nat_abs gap.bottom)))
    ((gap.second ≡ None) × IsFirstNear p q shape gap.first (nat_abs gap.top) (nat_abs gap.bottom) (nat_abs gap.at_top) (nat_abs gap.at_bottom))
