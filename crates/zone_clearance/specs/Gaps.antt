-- The gap of a segment and a zone: the least distance between them, and the first point of the segment that has it.
use Rattle.std.specs.Prelude.{◌≡◌, ◌≤◌, ◌*◌, ℕ, ℤ, pos, nat_abs, ◌*ℤ◌, ◌≤ℤ◌}
use Rattle.std.specs.Int.{IsGcd}
use Rattle.rapid_num.specs.declared.joints.Joints.{Joints}
use Rattle.rapid_num.specs.declared.shape.Shape.{Shape}
use Rattle.joint_clip.specs.Parts.{IsAtMost}
use Rattle.zone_clearance.specs.declared.gap.Gap.{Gap}
use Rattle.zone_clearance.specs.Distances.{distance_along}

-- a fraction that is not negative, in lowest terms
pub record IsInLowestTerms (top bottom : ℤ) : Type 0 where
  pub not_negative : pos 0 ≤ℤ top
  pub positive : pos 1 ≤ℤ bottom
  pub lowest : IsGcd (nat_abs top) (nat_abs bottom) 1

-- both fractions of a gap are in lowest terms, and its point is on the segment
pub record IsWritten (gap : Gap) : Type 0 where
  pub distance : IsInLowestTerms gap.top gap.bottom
  pub place : IsInLowestTerms gap.at_top gap.at_bottom
  pub on_the_way : gap.at_top ≤ℤ gap.at_bottom

-- top/bottom is the least distance of the points of the segment from p to q, and k/m is the first fraction of the way
-- that has it
pub record IsLeastDistance (p q : Joints) (shape : Shape) (top bottom k m : ℕ) : Type 0 where
  pub none_nearer : (i n : ℕ) → 1 ≤ n → i ≤ n → pos (top * n) ≤ℤ (distance_along p q shape i n *ℤ pos bottom)
  pub reached : distance_along p q shape k m *ℤ pos bottom ≡ pos (top * m)
  pub first : (i n : ℕ) → 1 ≤ n → i ≤ n → distance_along p q shape i n *ℤ pos bottom ≡ pos (top * n) → IsAtMost k m i n

-- the gap of the segment from p to q, whatever its sides
pub record IsGap (p q : Joints) (shape : Shape) (gap : Gap) : Type 0 where
  pub written : IsWritten gap
  pub least : IsLeastDistance p q shape (nat_abs gap.top) (nat_abs gap.bottom) (nat_abs gap.at_top) (nat_abs gap.at_bottom)
