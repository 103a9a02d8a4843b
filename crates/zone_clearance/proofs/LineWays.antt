-- The numbered lines of a zone's sides, and the sides that have them.
use Rattle.std.proofs.Common.{◌≡◌, ◌+◌, ◌/◌, ◌%◌, ℕ, Bool, List, Option, Some, None, refl, ap, sym, ◌∙◌, subst, inl, inr, arith, ℤ}
use Rattle.std.specs.List.{slice_index_or}
use Rattle.std.proofs.lemmas.Bool.{cases_eq}
use Rattle.std.proofs.lemmas.Option.{same_Some}
use Rattle.rapid_num.specs.declared.joints.Joints.{Joints}
use Rattle.rapid_num.specs.declared.shape.Bound.{Bound}
use Rattle.joint_clip.specs.Touches.{point_at, way_at}
use Rattle.zone_clearance.specs.declared.line.Line.{Line}
use Rattle.zone_clearance.specs.declared.search.level.Level.{Level}
use Rattle.zone_clearance.specs.declared.side.Side.{Side}
use Rattle.zone_clearance.specs.declared.side.Side.TheVariants.{Zero, Low, High}
use Rattle.zone_clearance.specs.Levels.{AllUnder, HasLine, IsUnder}
use Rattle.zone_clearance.specs.SideLines.{AreLinesOf, HasWay, IsLineOf, IsSide}
use Rattle.zone_clearance.specs.Sides.{order_of}
use Rattle.zone_clearance.proofs.Distances.{known_side}
use Rattle.zone_clearance.proofs.Ends.{at_start, at_end, way_at-start, way_at-end}
use Rattle.zone_clearance.proofs.Nearness.{WaysUnder}

-- the line of a side, and where it goes
pub record IsLineAlong (line : Line) (start end : ℤ) : Type 0 where
  pub start_is : line.start ≡ start
  pub end_is : line.end ≡ end

pub record SideLine (lines : List (Option Line)) (side : Side) (start end : ℤ) : Type 0 where
  pub line : Line
  pub there : HasLine lines (order_of side) line
  pub along : IsLineAlong line start end

pub line_way : (inside : Bool) (p q : Joints) (bounds : List (Option Bound)) (side : Side) (line : Line) → IsLineOf inside p q bounds side (Some line) → HasWay inside p q bounds side line.start line.end
line_way inside p q bounds side line is = record { at = λ k m way. is.at k m way }

pub line_along : (inside : Bool) (p q : Joints) (bounds : List (Option Bound)) (side : Side) (line : Line) (s e : ℤ) → IsLineOf inside p q bounds side (Some line) → HasWay inside p q bounds side s e → IsLineAlong line s e
line_along inside p q bounds side line s e is way =
    let first : way_at line.start line.end 0 1 ≡ way_at s e 0 1 = same_Some _ _ (sym (is.at 0 1 at_start.whole) ∙ way.at 0 1 at_start.whole) in
    let last : way_at line.start line.end 1 1 ≡ way_at s e 1 1 = same_Some _ _ (sym (is.at 1 1 at_end.whole) ∙ way.at 1 1 at_end.whole) in
    record {
      start_is = sym (way_at-start line.start line.end) ∙ first ∙ way_at-start s e;
      end_is = sym (way_at-end line.start line.end) ∙ last ∙ way_at-end s e;
    }

pub no_way : (inside : Bool) (p q : Joints) (bounds : List (Option Bound)) (side : Side) (s e : ℤ) → IsLineOf inside p q bounds side None → HasWay inside p q bounds side s e → ⊥
no_way inside p q bounds side s e is way = let none = is.at 0 1 at_start.whole in let some = way.at 0 1 at_start.whole in cc

pub way_side : (inside : Bool) (p q : Joints) (bounds : List (Option Bound)) (side : Side) (s e : ℤ) → HasWay inside p q bounds side s e → IsSide side
way_side inside p q bounds side s e way = (known_side inside bounds (point_at p q 0 1) 1 side _ (way.at 0 1 at_start.whole)).is

-- a side with a line has one among the numbered lines
pub side_line : (inside : Bool) (p q : Joints) (bounds : List (Option Bound)) (lines : List (Option Line)) (side : Side) (s e : ℤ) → AreLinesOf inside p q bounds lines → HasWay inside p q bounds side s e → SideLine lines side s e
side_line inside p q bounds lines side s e are way =
    by (slice_index_or lines (order_of side) None) refl (are.each side (way_side inside p q bounds side s e way))
  where
    by : (o : Option Line) → slice_index_or lines (order_of side) None ≡ o → IsLineOf inside p q bounds side (slice_index_or lines (order_of side) None) → SideLine lines side s e
    by None none is = absurd (no_way inside p q bounds side s e (subst (λ (o : Option Line). IsLineOf inside p q bounds side o) none is) way)
    by (Some line) some is = record {
      line = line;
      there = some;
      along = line_along inside p q bounds side line s e (subst (λ (o : Option Line). IsLineOf inside p q bounds side o) some is) way;
    }

-- each number is a side's
pub record IsNumberOf (number : ℕ) : Type 0 where
  pub side : Side
  pub is : IsSide side
  pub order : order_of side ≡ number

pub side_of : (number : ℕ) → IsNumberOf number
side_of number =
    elim (cases_eq number 0) [
      | inl none ↦ record { side = Zero; is = tt; order = sym none }
      | inr some ↦
          elim (cases_eq (number % 2) 1) [
            | inl odd ↦ record { side = Low ((number + 1) / 2); is = omega arith; order = omega arith }
            | inr even ↦ record { side = High (number / 2); is = omega arith; order = omega arith }
          ]
    ]

-- so a numbered line is a side's
pub numbered_way : (inside : Bool) (p q : Joints) (bounds : List (Option Bound)) (lines : List (Option Line)) (side : Side) (number : ℕ) (line : Line) → AreLinesOf inside p q bounds lines → IsSide side → order_of side ≡ number → HasLine lines number line
    → HasWay inside p q bounds side line.start line.end
numbered_way inside p q bounds lines side number line are is order there =
    line_way inside p q bounds side line
    (subst (λ (o : Option Line). IsLineOf inside p q bounds side o) (ap (λ (n : ℕ). slice_index_or lines n None) order ∙ there) (are.each side is))

-- the lines of all sides against a level, both ways
along_under : (line : Line) (s e : ℤ) (t b k m : ℕ) → IsLineAlong line s e → IsUnder line.start line.end t b k m → IsUnder s e t b k m
along_under line s e t b k m along under =
    subst (λ (u : ℤ). IsUnder u e t b k m) along.start_is (subst (λ (v : ℤ). IsUnder line.start v t b k m) along.end_is under)

pub all_ways_under : (inside : Bool) (p q : Joints) (bounds : List (Option Bound)) (lines : List (Option Line)) (level : Level) (k m : ℕ) → AreLinesOf inside p q bounds lines → AllUnder lines level k m → WaysUnder inside p q bounds level.top level.bottom k m
all_ways_under inside p q bounds lines level k m are under side s e way =
    let line = side_line inside p q bounds lines side s e are way in
    along_under line.line s e level.top level.bottom k m line.along (under (order_of side) line.line line.there)

pub ways_all_under : (inside : Bool) (p q : Joints) (bounds : List (Option Bound)) (lines : List (Option Line)) (level : Level) (k m : ℕ) → AreLinesOf inside p q bounds lines → WaysUnder inside p q bounds level.top level.bottom k m → AllUnder lines level k m
ways_all_under inside p q bounds lines level k m are under number line there =
    let side = side_of number in
    under side.side line.start line.end (numbered_way inside p q bounds lines side.side number line are side.is side.order there)
