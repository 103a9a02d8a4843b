-- The lines of sides along a segment.
use Rattle.std.proofs.Common.{◌≡◌, ◌≤◌, ◌-◌, ℕ, Bool, true, false, List, Option, Some, None, refl, ap, sym, ◌∙◌, arith, ℤ, pos, ◌*ℤ◌}
use Rattle.std.specs.List.{slice_index_or}
use Rattle.std.proofs.lemmas.Int.{ints}
use Rattle.std.proofs.lemmas.Option.{same_Some}
use Rattle.rapid_num.specs.declared.joints.Joints.{Joints}
use Rattle.rapid_num.specs.declared.shape.Bound.{Bound}
use Rattle.joint_clip.specs.Touches.{way_at, point_at}
use Rattle.joint_clip.proofs.Ways.{way_at-above, way_at-below}
use Rattle.zone_clearance.specs.declared.line.Line.{Line}
use Rattle.zone_clearance.specs.declared.side.Side.{Side}
use Rattle.zone_clearance.specs.declared.side.Side.TheVariants.{Zero, Low, High}
use Rattle.zone_clearance.specs.Lines.{low_line, high_line, bound_of, line_at}
use Rattle.zone_clearance.specs.SideLines.{HasWay, IsLineOf}
use Rattle.zone_clearance.proofs.Ends.{at_start, at_end, way_at-start, way_at-end}

times-one : (a : ℤ) → a *ℤ pos 1 ≡ a
times-one a = omega (arith, ints)

pub low_way : (inside : Bool) (bound : Bound) (p q : ℤ) (k m : ℕ) → k ≤ m → low_line inside bound (way_at p q k m) m ≡ way_at (low_line inside bound p 1) (low_line inside bound q 1) k m
low_way true bound p q k m way = rw (times-one bound.low) (sym (way_at-below p q bound.low k m way))
low_way false bound p q k m way = rw (times-one bound.low) (sym (way_at-above p q bound.low k m way))

pub high_way : (inside : Bool) (bound : Bound) (p q : ℤ) (k m : ℕ) → k ≤ m → high_line inside bound (way_at p q k m) m ≡ way_at (high_line inside bound p 1) (high_line inside bound q 1) k m
high_way true bound p q k m way = rw (times-one bound.high) (sym (way_at-above p q bound.high k m way))
high_way false bound p q k m way = rw (times-one bound.high) (sym (way_at-below p q bound.high k m way))

-- the lines of the two sides of a named axis
pub low_is : (inside : Bool) (p q : Joints) (bounds : List (Option Bound)) (axis : ℕ) (bound : Bound) (start end : ℤ) (line : Line) → bound_of bounds axis ≡ Some bound
    → start ≡ slice_index_or p.axis (axis - 1) (pos 0) → end ≡ slice_index_or q.axis (axis - 1) (pos 0)
    → line.start ≡ low_line inside bound start 1 → line.end ≡ low_line inside bound end 1 → IsLineOf inside p q bounds (Low axis) (Some line)
low_is inside p q bounds axis bound start end line named from to first last = record {
  at = λ k m way. rw (named, first, last, from, to) (ap Some (low_way inside bound _ _ k m way));
}

pub high_is : (inside : Bool) (p q : Joints) (bounds : List (Option Bound)) (axis : ℕ) (bound : Bound) (start end : ℤ) (line : Line) → bound_of bounds axis ≡ Some bound
    → start ≡ slice_index_or p.axis (axis - 1) (pos 0) → end ≡ slice_index_or q.axis (axis - 1) (pos 0)
    → line.start ≡ high_line inside bound start 1 → line.end ≡ high_line inside bound end 1 → IsLineOf inside p q bounds (High axis) (Some line)
high_is inside p q bounds axis bound start end line named from to first last = record {
  at = λ k m way. rw (named, first, last, from, to) (ap Some (high_way inside bound _ _ k m way));
}

-- an axis that is not named
pub low_none : (inside : Bool) (p q : Joints) (bounds : List (Option Bound)) (axis : ℕ) → bound_of bounds axis ≡ None → IsLineOf inside p q bounds (Low axis) None
low_none inside p q bounds axis none = record { at = λ k m way. rw none refl }

pub high_none : (inside : Bool) (p q : Joints) (bounds : List (Option Bound)) (axis : ℕ) → bound_of bounds axis ≡ None → IsLineOf inside p q bounds (High axis) None
high_none inside p q bounds axis none = record { at = λ k m way. rw none refl }

-- the line of Zero
pub zero_way : (k m : ℕ) → pos 0 ≡ way_at (pos 0) (pos 0) k m
zero_way k m = omega (arith, ints)

pub zero_is : (p q : Joints) (bounds : List (Option Bound)) (line : Line) → line.start ≡ pos 0 → line.end ≡ pos 0 → IsLineOf true p q bounds Zero (Some line)
zero_is p q bounds line start end = record { at = λ k m way. rw (start, end) (ap Some (zero_way k m)) }

pub zero_none : (p q : Joints) (bounds : List (Option Bound)) → IsLineOf false p q bounds Zero None
zero_none p q bounds = record { at = λ k m way. refl }

-- the line of a side that has one somewhere
pub record SomeWay (inside : Bool) (p q : Joints) (bounds : List (Option Bound)) (side : Side) : Type 0 where
  pub start : ℤ
  pub end : ℤ
  pub way : HasWay inside p q bounds side start end

pub low_has : (inside : Bool) (p q : Joints) (bounds : List (Option Bound)) (axis : ℕ) (bound : Bound) → bound_of bounds axis ≡ Some bound
    → HasWay inside p q bounds (Low axis) (low_line inside bound (slice_index_or p.axis (axis - 1) (pos 0)) 1) (low_line inside bound (slice_index_or q.axis (axis - 1) (pos 0)) 1)
low_has inside p q bounds axis bound named = record { at = λ k m way. rw named (ap Some (low_way inside bound _ _ k m way)) }

pub high_has : (inside : Bool) (p q : Joints) (bounds : List (Option Bound)) (axis : ℕ) (bound : Bound) → bound_of bounds axis ≡ Some bound
    → HasWay inside p q bounds (High axis) (high_line inside bound (slice_index_or p.axis (axis - 1) (pos 0)) 1) (high_line inside bound (slice_index_or q.axis (axis - 1) (pos 0)) 1)
high_has inside p q bounds axis bound named = record { at = λ k m way. rw named (ap Some (high_way inside bound _ _ k m way)) }

pub zero_has : (p q : Joints) (bounds : List (Option Bound)) → HasWay true p q bounds Zero (pos 0) (pos 0)
zero_has p q bounds = record { at = λ k m way. ap Some (zero_way k m) }

pub way_of : (inside : Bool) (p q : Joints) (bounds : List (Option Bound)) (side : Side) (k m : ℕ) (x : ℤ) → line_at inside bounds (point_at p q k m) m side ≡ Some x → SomeWay inside p q bounds side
way_of true p q bounds Zero k m x is = record { start = pos 0; end = pos 0; way = zero_has p q bounds }
way_of false p q bounds Zero k m x is = absurd cc
way_of inside p q bounds (Low axis) k m x is = by (bound_of bounds axis) refl
  where
    by : (o : Option Bound) → bound_of bounds axis ≡ o → SomeWay inside p q bounds (Low axis)
    by None none = absurd (let read = rw none at is in cc)
    by (Some bound) named = record { start = _; end = _; way = low_has inside p q bounds axis bound named }
way_of inside p q bounds (High axis) k m x is = by (bound_of bounds axis) refl
  where
    by : (o : Option Bound) → bound_of bounds axis ≡ o → SomeWay inside p q bounds (High axis)
    by None none = absurd (let read = rw none at is in cc)
    by (Some bound) named = record { start = _; end = _; way = high_has inside p q bounds axis bound named }

-- a side has one line
pub same_ways : (inside : Bool) (p q : Joints) (bounds : List (Option Bound)) (side : Side) (s e u v : ℤ) → HasWay inside p q bounds side s e → HasWay inside p q bounds side u v → (s ≡ u) × (e ≡ v)
same_ways inside p q bounds side s e u v one two =
    let first : way_at s e 0 1 ≡ way_at u v 0 1 = same_Some _ _ (sym (one.at 0 1 at_start.whole) ∙ two.at 0 1 at_start.whole) in
    let last : way_at s e 1 1 ≡ way_at u v 1 1 = same_Some _ _ (sym (one.at 1 1 at_end.whole) ∙ two.at 1 1 at_end.whole) in
    (sym (way_at-start s e) ∙ first ∙ way_at-start u v, sym (way_at-end s e) ∙ last ∙ way_at-end u v)
