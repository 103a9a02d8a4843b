-- What the numbers of a segment, a zone and a gap are limited to.
use Rattle.std.specs.Prelude.{◌≤◌, ◌<◌, ◌^◌, ℕ, ℤ, pos, nat_abs, List, Option, is_some, IsTrue}
use Rattle.std.specs.List.{list_any, slice_index_or}
use Rattle.rapid_limits.specs.declared.TheConstants.{EXTERNAL_REACH}
use Rattle.rapid_num.specs.declared.joints.Joints.{Joints}
use Rattle.rapid_num.specs.declared.shape.Bound.{Bound}
use Rattle.joint_clip.specs.Touches.{Names}
use Rattle.zone_clearance.specs.declared.gap.Gap.{Gap}

-- some axis is named
abbrev pub NamesAnAxis : List (Option Bound) → Type 0
NamesAnAxis bounds = IsTrue (list_any is_some bounds)

-- an axis's bounds, and its angles at both ends of a segment, are at most 100,000 degrees in size
pub record IsInReach (bound : Bound) (p q : ℤ) : Type 0 where
  pub low : nat_abs bound.low ≤ EXTERNAL_REACH
  pub high : nat_abs bound.high ≤ EXTERNAL_REACH
  pub start : nat_abs p ≤ EXTERNAL_REACH
  pub end : nat_abs q ≤ EXTERNAL_REACH

-- each named axis is
abbrev pub AreInReach : Joints → Joints → List (Option Bound) → Type 0
AreInReach p q bounds = (axis : ℕ) (bound : Bound) → Names bounds axis bound → IsInReach bound (slice_index_or p.axis axis (pos 0)) (slice_index_or q.axis axis (pos 0))

-- the four numbers of a gap are below 2^60 in size
pub record IsSmall (gap : Gap) : Type 0 where
  pub top : nat_abs gap.top < 2 ^ 60
  pub bottom : nat_abs gap.bottom < 2 ^ 60
  pub at_top : nat_abs gap.at_top < 2 ^ 60
  pub at_bottom : nat_abs gap.at_bottom < 2 ^ 60
