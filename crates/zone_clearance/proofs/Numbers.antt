-- Sides by their numbers in the order.
use Rattle.std.proofs.Common.{◌≡◌, ◌≤◌, ◌<◌, ◌+◌, ◌-◌, ◌*◌, ◌/◌, ◌%◌, ℕ, zero, suc, Bool, true, false, List, length, get_or, set, Option, Some, None, sym, subst, inl, inr, arith, ℤ, pos, get_or-set_other, get_or-set_same}
use Rattle.std.specs.List.{slice_index_or}
use Rattle.std.proofs.lemmas.Bool.{cases_eq, cases_lt}
use Rattle.std.proofs.lemmas.List.{get_or_past}
use Rattle.rapid_num.specs.declared.joints.Joints.{Joints}
use Rattle.rapid_num.specs.declared.shape.Bound.{Bound}
use Rattle.zone_clearance.specs.declared.line.Line.{Line}
use Rattle.zone_clearance.specs.declared.side.Side.{Side}
use Rattle.zone_clearance.specs.declared.side.Side.TheVariants.{Zero, Low, High}
use Rattle.zone_clearance.specs.Lines.{low_line, high_line}
use Rattle.zone_clearance.specs.SideLines.{IsSide, IsLineOf, AreLinesOf}
use Rattle.zone_clearance.specs.Sides.{order_of}
use Rattle.zone_clearance.proofs.SideWays.{low_is, high_is, low_none, high_none, zero_is, zero_none}

-- the line of the side with a number
abbrev pub IsNumbered : Bool → Joints → Joints → List (Option Bound) → ℕ → Option Line → Type 0
IsNumbered inside p q bounds number line = (side : Side) → IsSide side → order_of side ≡ number → IsLineOf inside p q bounds side line

pub numbered_zero : (p q : Joints) (bounds : List (Option Bound)) (line : Line) → line.start ≡ pos 0 → line.end ≡ pos 0 → IsNumbered true p q bounds 0 (Some line)
numbered_zero p q bounds line start end Zero is same = zero_is p q bounds line start end
numbered_zero p q bounds line start end (Low axis) is same = absurd (omega arith)
numbered_zero p q bounds line start end (High axis) is same = absurd (omega arith)

pub numbered_no_zero : (p q : Joints) (bounds : List (Option Bound)) → IsNumbered false p q bounds 0 None
numbered_no_zero p q bounds Zero is same = zero_none p q bounds
numbered_no_zero p q bounds (Low axis) is same = absurd (omega arith)
numbered_no_zero p q bounds (High axis) is same = absurd (omega arith)

pub numbered_none : (inside : Bool) (p q : Joints) (bounds : List (Option Bound)) (number : ℕ) → 1 ≤ number → slice_index_or bounds ((number - 1) / 2) None ≡ None → IsNumbered inside p q bounds number None
numbered_none inside p q bounds number some none Zero is same = absurd (omega arith)
numbered_none inside p q bounds number some none (Low zero) is same = absurd (omega arith)
numbered_none inside p q bounds number some none (Low (suc axis)) is same =
    let half : (number - 1) / 2 ≡ axis = omega arith in
    low_none inside p q bounds (suc axis) (rw half at none)
numbered_none inside p q bounds number some none (High zero) is same = absurd (omega arith)
numbered_none inside p q bounds number some none (High (suc axis)) is same =
    let half : (number - 1) / 2 ≡ axis = omega arith in
    high_none inside p q bounds (suc axis) (rw half at none)

pub numbered_low : (inside : Bool) (p q : Joints) (bounds : List (Option Bound)) (number : ℕ) (bound : Bound) (start end : ℤ) (line : Line) → 1 ≤ number → number % 2 ≡ 1
    → slice_index_or bounds ((number - 1) / 2) None ≡ Some bound → start ≡ slice_index_or p.axis ((number - 1) / 2) (pos 0) → end ≡ slice_index_or q.axis ((number - 1) / 2) (pos 0)
    → line.start ≡ low_line inside bound start 1 → line.end ≡ low_line inside bound end 1 → IsNumbered inside p q bounds number (Some line)
numbered_low inside p q bounds number bound start end line some odd named from to first last Zero is same = absurd (omega arith)
numbered_low inside p q bounds number bound start end line some odd named from to first last (Low zero) is same = absurd (omega arith)
numbered_low inside p q bounds number bound start end line some odd named from to first last (Low (suc axis)) is same =
    let half : (number - 1) / 2 ≡ axis = omega arith in
    let before : axis ≡ suc axis - 1 = omega arith in
    low_is inside p q bounds (suc axis) bound start end line (rw half at named) (rw (half, before) at from) (rw (half, before) at to) first last
numbered_low inside p q bounds number bound start end line some odd named from to first last (High axis) is same = absurd (omega arith)

pub numbered_high : (inside : Bool) (p q : Joints) (bounds : List (Option Bound)) (number : ℕ) (bound : Bound) (start end : ℤ) (line : Line) → 1 ≤ number → (number % 2 ≡ 1 → ⊥)
    → slice_index_or bounds ((number - 1) / 2) None ≡ Some bound → start ≡ slice_index_or p.axis ((number - 1) / 2) (pos 0) → end ≡ slice_index_or q.axis ((number - 1) / 2) (pos 0)
    → line.start ≡ high_line inside bound start 1 → line.end ≡ high_line inside bound end 1 → IsNumbered inside p q bounds number (Some line)
numbered_high inside p q bounds number bound start end line some even named from to first last Zero is same = absurd (omega arith)
numbered_high inside p q bounds number bound start end line some even named from to first last (Low axis) is same =
    let odd : number % 2 ≡ 1 = omega arith in absurd (even odd)
numbered_high inside p q bounds number bound start end line some even named from to first last (High zero) is same = absurd (omega arith)
numbered_high inside p q bounds number bound start end line some even named from to first last (High (suc axis)) is same =
    let half : (number - 1) / 2 ≡ axis = omega arith in
    let before : axis ≡ suc axis - 1 = omega arith in
    high_is inside p q bounds (suc axis) bound start end line (rw half at named) (rw (half, before) at from) (rw (half, before) at to) first last

-- one line more in the list of lines
abbrev pub AreFirstLines : Bool → Joints → Joints → List (Option Bound) → List (Option Line) → ℕ → Type 0
AreFirstLines inside p q bounds lines number = (side : Side) → IsSide side → order_of side < number → IsLineOf inside p q bounds side (slice_index_or lines (order_of side) None)

pub lines_more : (inside : Bool) (p q : Joints) (bounds : List (Option Bound)) (lines : List (Option Line)) (number : ℕ) (line : Option Line) → number < length lines
    → AreFirstLines inside p q bounds lines number → IsNumbered inside p q bounds number line → AreFirstLines inside p q bounds (set lines number line) (number + 1)
lines_more inside p q bounds lines number line room before here side is below =
    elim (cases_eq (order_of side) number) [
      | inl same ↦
          let read : get_or (set lines number line) (order_of side) None ≡ line = rw same (get_or-set_same lines number line None room) in
          subst (λ (x : Option Line). IsLineOf inside p q bounds side x) (sym read) (here side is same)
      | inr other ↦
          subst (λ (x : Option Line). IsLineOf inside p q bounds side x) (sym (get_or-set_other lines number (order_of side) line None other))
          (before side is (omega arith))
    ]

past_is : (inside : Bool) (p q : Joints) (bounds : List (Option Bound)) (side : Side) → IsSide side → 2 * length bounds + 1 ≤ order_of side → IsLineOf inside p q bounds side None
past_is inside p q bounds Zero is past = absurd (omega arith)
past_is inside p q bounds (Low zero) is past = absurd (omega arith)
past_is inside p q bounds (Low (suc axis)) is past = low_none inside p q bounds (suc axis) (get_or_past bounds axis None (omega arith))
past_is inside p q bounds (High zero) is past = absurd (omega arith)
past_is inside p q bounds (High (suc axis)) is past = high_none inside p q bounds (suc axis) (get_or_past bounds axis None (omega arith))

pub lines_all : (inside : Bool) (p q : Joints) (bounds : List (Option Bound)) (lines : List (Option Line)) (number : ℕ) → length lines ≡ 2 * length bounds + 1 → length lines ≤ number
    → AreFirstLines inside p q bounds lines number → AreLinesOf inside p q bounds lines
lines_all inside p q bounds lines number room all first = record {
  each = λ side is.
      elim (cases_lt (order_of side) (length lines)) [
        | inl below ↦ first side is (omega arith)
        | inr past ↦
            subst (λ (x : Option Line). IsLineOf inside p q bounds side x) (sym (get_or_past lines (order_of side) None past))
            (past_is inside p q bounds side is (omega arith))
      ];
}
