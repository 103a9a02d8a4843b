-- Where a side is crossed, and the two sides of an axis with bounds.
use Rattle.std.proofs.Common.{◌≡◌, ◌≤◌, ◌+◌, ℕ, arith, ℤ, pos, nat_abs, ◌-ℤ◌, ◌*ℤ◌, ◌≤ℤ◌, ◌<ℤ◌}
use Rattle.std.proofs.lemmas.Int.{ints}
use Rattle.rapid_num.specs.declared.shape.Bound.{Bound}
use Rattle.joint_clip.specs.declared.fraction.Fraction.{Fraction}
use Rattle.joint_clip.specs.declared.side.Side.{Side}
use Rattle.joint_clip.specs.Parts.{IsAtMost}
use Rattle.joint_clip.specs.Sides.{IsInner}
use Rattle.joint_clip.specs.Touches.{IsWithin, way_at}
use Rattle.joint_clip.proofs.Ways.{entered, entering, left_by, leaving, way_at-above, way_at-below}

-- the segment crosses the side at this fraction
pub record IsCrossing (side : Side) (at : Fraction) : Type 0 where
  pub top : at.top ≡ nat_abs side.start
  pub bottom : at.bottom ≡ nat_abs side.start + nat_abs side.end

-- a segment that starts outside is inside from there on
pub inner-from : (side : Side) (at : Fraction) (k m : ℕ) → IsCrossing side at → k ≤ m → side.start <ℤ pos 0 → pos 0 ≤ℤ side.end → IsAtMost at.top at.bottom k m → IsInner side k m
inner-from side at k m crossing way beyond here h =
    record { inner = entering side.start side.end k m way beyond here (rw (← crossing.bottom, ← crossing.top) h.across) }

pub from-inner : (side : Side) (at : Fraction) (k m : ℕ) → IsCrossing side at → k ≤ m → side.start <ℤ pos 0 → pos 0 ≤ℤ side.end → IsInner side k m → IsAtMost at.top at.bottom k m
from-inner side at k m crossing way beyond here h =
    record { across = rw (crossing.top, crossing.bottom) (entered side.start side.end k m way beyond here h.inner) }

-- one that ends outside is inside up to there
pub inner-to : (side : Side) (at : Fraction) (k m : ℕ) → IsCrossing side at → k ≤ m → pos 0 ≤ℤ side.start → side.end <ℤ pos 0 → IsAtMost k m at.top at.bottom → IsInner side k m
inner-to side at k m crossing way here beyond h =
    record { inner = leaving side.start side.end k m way here beyond (rw (← crossing.bottom, ← crossing.top) h.across) }

pub to-inner : (side : Side) (at : Fraction) (k m : ℕ) → IsCrossing side at → k ≤ m → pos 0 ≤ℤ side.start → side.end <ℤ pos 0 → IsInner side k m → IsAtMost k m at.top at.bottom
to-inner side at k m crossing way here beyond h =
    record { across = rw (crossing.top, crossing.bottom) (left_by side.start side.end k m way here beyond h.inner) }

-- an axis that goes from p to q is inside a low bound, or a high one, if it is not past it
pub record IsAbove (low p q : ℤ) (side : Side) : Type 0 where
  pub start : side.start ≡ p -ℤ low
  pub end : side.end ≡ q -ℤ low

pub record IsBelow (high p q : ℤ) (side : Side) : Type 0 where
  pub start : side.start ≡ high -ℤ p
  pub end : side.end ≡ high -ℤ q

above_is : (low p q : ℤ) (side : Side) (k m : ℕ) → IsAbove low p q side → k ≤ m → way_at side.start side.end k m ≡ way_at p q k m -ℤ (low *ℤ pos m)
above_is low p q side k m above way = rw (above.start, above.end) (way_at-above p q low k m way)

below_is : (high p q : ℤ) (side : Side) (k m : ℕ) → IsBelow high p q side → k ≤ m → way_at side.start side.end k m ≡ (high *ℤ pos m) -ℤ way_at p q k m
below_is high p q side k m below way = rw (below.start, below.end) (way_at-below p q high k m way)

pub within-inner : (bound : Bound) (p q : ℤ) (above below : Side) (k m : ℕ) → IsAbove bound.low p q above → IsBelow bound.high p q below → k ≤ m → IsInner above k m → IsInner below k m → IsWithin bound (way_at p q k m) m
within-inner bound p q above below k m is_above is_below way over under =
    let low = above_is bound.low p q above k m is_above way in
    let high = below_is bound.high p q below k m is_below way in
    record { low = omega (arith, ints, over.inner); high = omega (arith, ints, under.inner) }

pub above-within : (bound : Bound) (p q : ℤ) (side : Side) (k m : ℕ) → IsAbove bound.low p q side → k ≤ m → IsWithin bound (way_at p q k m) m → IsInner side k m
above-within bound p q side k m above way within =
    let low = above_is bound.low p q side k m above way in
    record { inner = omega (arith, ints, within.low) }

pub below-within : (bound : Bound) (p q : ℤ) (side : Side) (k m : ℕ) → IsBelow bound.high p q side → k ≤ m → IsWithin bound (way_at p q k m) m → IsInner side k m
below-within bound p q side k m below way within =
    let high = below_is bound.high p q side k m below way in
    record { inner = omega (arith, ints, within.high) }
