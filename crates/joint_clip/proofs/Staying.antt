-- A position lies in a zone exactly if a segment that stays there touches it.
use Rattle.std.proofs.Common.{◌≡◌, ◌≤◌, ◌<◌, ◌+◌, inl, inr, ℕ, zero, suc, Bool, true, false, not, List, [], ◌∷◌, length, drop, get_or, Option, Some, None, refl, sym, ap, subst, ◌∙◌, arith, ℤ, pos, ◌≤ℤ◌, ◌<ℤ◌, int_lt}
use Rattle.std.specs.Prelude.{◌&&◌, ◌↔◌, IsTrue}
use Rattle.std.specs.List.{slice_index_or}
use Rattle.std.proofs.Math.Seq.{drop-cons}
use Rattle.std.proofs.lemmas.Bool.{and_from, and_parts, not-true, true≢false}
use Rattle.std.proofs.lemmas.Int.{ints}
use Rattle.std.proofs.lemmas.List.{drop_all, get_or_default}
use Rattle.rapid_num.specs.declared.joints.Joints.{Joints}
use Rattle.rapid_num.specs.declared.shape.Bound.{Bound}
use Rattle.rapid_num.specs.declared.shape.Shape.{Shape}
use Rattle.joint_clip.specs.Beside.{IsBeside}
use Rattle.joint_clip.specs.Lying.{all_within, is_within_bound, lies_in}
use Rattle.joint_clip.specs.Touches.{IsBeyond, IsWithin, LiesInside, LiesOutside, Names, SomeFraction, Touches, point_at, way_at}
use Rattle.joint_clip.proofs.Beyond.{at_start, never_beyond}
use Rattle.joint_clip.proofs.PassingBy.{never_within}

abbrev angle_at : Joints → ℕ → ℤ
angle_at at axis = slice_index_or at.axis axis (pos 0)

-- a loop over the axes ends at one that is not within its bounds, or goes on to the next
here_within : (bounds : List (Option Bound)) (at : Joints) (axis : ℕ) (d : Option Bound) (r : ℤ) → axis < length bounds → axis < length at.axis
    → all_within axis (drop axis bounds) at ≡ (is_within_bound (get_or bounds axis d) (get_or at.axis axis r) && all_within (axis + 1) (drop (axis + 1) bounds) at)
here_within bounds at axis d r few there =
    let next : suc axis ≡ axis + 1 = omega arith in
    ap (λ (rest : List (Option Bound)). all_within axis rest at) (drop-cons bounds axis d few)
    ∙ ap (λ (n : ℕ). is_within_bound (get_or bounds axis d) (angle_at at axis) && all_within (axis + 1) (drop n bounds) at) next
    ∙ ap (λ (a : ℤ). is_within_bound (get_or bounds axis d) a && all_within (axis + 1) (drop (axis + 1) bounds) at) (get_or_default at.axis axis (pos 0) r there)

pub ends_out : (bounds : List (Option Bound)) (at : Joints) (axis : ℕ) (d : Option Bound) (r : ℤ) → axis < length bounds → axis < length at.axis
    → all_within 0 bounds at ≡ all_within axis (drop axis bounds) at → false ≡ is_within_bound (get_or bounds axis d) (get_or at.axis axis r) → false ≡ all_within 0 bounds at
ends_out bounds at axis d r few there so_far out =
    sym (so_far ∙ here_within bounds at axis d r few there ∙ ap (λ (b : Bool). b && all_within (axis + 1) (drop (axis + 1) bounds) at) (sym out))

pub goes_on : (bounds : List (Option Bound)) (at : Joints) (axis : ℕ) (d : Option Bound) (r : ℤ) → axis < length bounds → axis < length at.axis
    → all_within 0 bounds at ≡ all_within axis (drop axis bounds) at → true ≡ is_within_bound (get_or bounds axis d) (get_or at.axis axis r)
    → all_within 0 bounds at ≡ all_within (axis + 1) (drop (axis + 1) bounds) at
goes_on bounds at axis d r few there so_far within =
    so_far ∙ here_within bounds at axis d r few there ∙ ap (λ (b : Bool). b && all_within (axis + 1) (drop (axis + 1) bounds) at) (sym within)

pub ends_in : (bounds : List (Option Bound)) (at : Joints) (axis : ℕ) → length bounds ≤ axis → all_within 0 bounds at ≡ all_within axis (drop axis bounds) at → true ≡ all_within 0 bounds at
ends_in bounds at axis past so_far = sym (so_far ∙ ap (λ (rest : List (Option Bound)). all_within axis rest at) (drop_all axis bounds past))

-- what the tests of an angle say
below_of : (a b : ℤ) → int_lt a b ≡ true → a <ℤ b
below_of a b h = grind (arith, ints)

not_below_of : (a b : ℤ) → int_lt a b ≡ false → b ≤ℤ a
not_below_of a b h = grind (arith, ints)

record Kept (bound : Bound) (a : ℤ) : Type 0 where
  low : bound.low ≤ℤ a
  high : a ≤ℤ bound.high

kept_of : (bound : Bound) (a : ℤ) → is_within_bound (Some bound) a ≡ true → Kept bound a
kept_of bound a is =
    let both = and_parts (not (int_lt a bound.low)) (not (int_lt bound.high a)) is in
    record { low = not_below_of a bound.low (not-true (int_lt a bound.low) both.0); high = not_below_of bound.high a (not-true (int_lt bound.high a) both.1) }

beside_of : (bound : Bound) (a : ℤ) → is_within_bound (Some bound) a ≡ false → IsBeside bound a a
beside_of bound a is = by (int_lt a bound.low) (int_lt bound.high a) refl refl is
  where
    by : (below above : Bool) → int_lt a bound.low ≡ below → int_lt bound.high a ≡ above → (not below && not above) ≡ false → IsBeside bound a a
    by true above p q h = let under = below_of a bound.low p in inl (under, under)
    by false true p q h = let over = below_of bound.high a q in inr (over, over)
    by false false p q h = absurd (true≢false h)

within_at : (bound : Bound) (a : ℤ) → Kept bound a → IsWithin bound (way_at a a 0 1) 1
within_at bound a kept = record { low = omega (arith, ints, kept.low); high = omega (arith, ints, kept.high) }

not_beyond : (bound : Bound) (a : ℤ) → Kept bound a → ¬ IsBeyond bound a 1
not_beyond bound a kept beyond = elim beyond [
  | inl below ↦ absurd (omega (arith, ints, kept.low, below))
  | inr above ↦ absurd (omega (arith, ints, kept.high, above))
]

beyond_of : (bound : Bound) (a : ℤ) → IsBeside bound a a → IsBeyond bound a 1
beyond_of bound a beside = elim beside [
  | inl below ↦ inl (omega (arith, ints, below.0))
  | inr above ↦ inr (omega (arith, ints, above.0))
]

-- the axes from one on are all within their bounds exactly if each of them that is named is
each_within : (axis k : ℕ) (bounds : List (Option Bound)) (at : Joints) (bound : Bound) → all_within axis bounds at ≡ true → Names bounds k bound → is_within_bound (Some bound) (angle_at at (axis + k)) ≡ true
each_within axis k [] at bound all named = absurd cc
each_within axis zero (b ∷ bounds) at bound all named =
    let here : axis + 0 ≡ axis = omega arith in
    let same : b ≡ Some bound = cc in
    ap (λ (n : ℕ). is_within_bound (Some bound) (angle_at at n)) here
    ∙ ap (λ (o : Option Bound). is_within_bound o (angle_at at axis)) (sym same)
    ∙ (and_parts (is_within_bound b (angle_at at axis)) (all_within (axis + 1) bounds at) all).0
each_within axis (suc k) (b ∷ bounds) at bound all named =
    let next : axis + suc k ≡ (axis + 1) + k = omega arith in
    ap (λ (n : ℕ). is_within_bound (Some bound) (angle_at at n)) next
    ∙ each_within (axis + 1) k bounds at bound (and_parts (is_within_bound b (angle_at at axis)) (all_within (axis + 1) bounds at) all).1 named

all_from_each : (axis : ℕ) (bounds : List (Option Bound)) (at : Joints) → ((k : ℕ) (bound : Bound) → Names bounds k bound → is_within_bound (Some bound) (angle_at at (axis + k)) ≡ true) → all_within axis bounds at ≡ true
all_from_each axis [] at each = refl
all_from_each axis (b ∷ bounds) at each =
    and_from (is_within_bound b (angle_at at axis)) (all_within (axis + 1) bounds at) (first b refl)
    (all_from_each (axis + 1) bounds at (λ k bound named.
    let next : (axis + 1) + k ≡ axis + suc k = omega arith in
    ap (λ (n : ℕ). is_within_bound (Some bound) (angle_at at n)) next ∙ each (suc k) bound named))
  where
    first : (o : Option Bound) → b ≡ o → is_within_bound b (angle_at at axis) ≡ true
    first None is = ap (λ (o : Option Bound). is_within_bound o (angle_at at axis)) is
    first (Some bound) is =
        let here : axis ≡ axis + 0 = omega arith in
        ap (λ (o : Option Bound). is_within_bound o (angle_at at axis)) is
        ∙ ap (λ (n : ℕ). is_within_bound (Some bound) (angle_at at n)) here
        ∙ each zero bound (ap (λ (o : Option Bound). Some o) is)

-- otherwise one of them that is named is not
record OneOut (axis : ℕ) (bounds : List (Option Bound)) (at : Joints) : Type 0 where
  k : ℕ
  bound : Bound
  named : Names bounds k bound
  out : is_within_bound (Some bound) (angle_at at (axis + k)) ≡ false

one_out : (axis : ℕ) (bounds : List (Option Bound)) (at : Joints) → all_within axis bounds at ≡ false → OneOut axis bounds at
one_out axis [] at none = absurd (true≢false none)
one_out axis (b ∷ bounds) at none = by b (is_within_bound b (angle_at at axis)) refl refl (λ rest. one_out (axis + 1) bounds at rest)
  where
    by : (o : Option Bound) (inside : Bool) → b ≡ o → is_within_bound b (angle_at at axis) ≡ inside → (all_within (axis + 1) bounds at ≡ false → OneOut (axis + 1) bounds at) → OneOut axis (b ∷ bounds) at
    by o true is within further =
        let later = further (sym (ap (λ (t : Bool). t && all_within (axis + 1) bounds at) within) ∙ none) in
        let next : axis + suc later.k ≡ (axis + 1) + later.k = omega arith in
        record {
          k = suc later.k;
          bound = later.bound;
          named = later.named;
          out = ap (λ (n : ℕ). is_within_bound (Some later.bound) (angle_at at n)) next ∙ later.out;
        }
    by None false is within further = absurd (true≢false (sym (ap (λ (o : Option Bound). is_within_bound o (angle_at at axis)) is) ∙ within))
    by (Some bound) false is within further =
        let here : axis + 0 ≡ axis = omega arith in
        record {
          k = 0;
          bound = bound;
          named = ap (λ (o : Option Bound). Some o) is;
          out = ap (λ (n : ℕ). is_within_bound (Some bound) (angle_at at n)) here ∙ sym (ap (λ (o : Option Bound). is_within_bound o (angle_at at axis)) is) ∙ within;
        }

from_first : (at : Joints) (bound : Bound) (k : ℕ) (b : Bool) → is_within_bound (Some bound) (angle_at at (0 + k)) ≡ b → is_within_bound (Some bound) (angle_at at k) ≡ b
from_first at bound k b is = let same : k ≡ 0 + k = omega arith in ap (λ (n : ℕ). is_within_bound (Some bound) (angle_at at n)) same ∙ is

-- for each kind of zone
inside_touched : (bounds : List (Option Bound)) (at : Joints) → (all_within 0 bounds at ≡ true) ↔ SomeFraction (λ k m. LiesInside bounds (point_at at at k m) m)
inside_touched bounds at = (there, back)
  where
    there : all_within 0 bounds at ≡ true → SomeFraction (λ k m. LiesInside bounds (point_at at at k m) m)
    there all = record {
      k = 0;
      m = 1;
      whole = omega arith;
      on_the_way = omega arith;
      holds = λ axis bound named. within_at bound (angle_at at axis) (kept_of bound (angle_at at axis) (from_first at bound axis true (each_within 0 axis bounds at bound all named)));
    }

    back : SomeFraction (λ k m. LiesInside bounds (point_at at at k m) m) → all_within 0 bounds at ≡ true
    back touched =
        all_from_each 0 bounds at (λ axis bound named.
        let same : 0 + axis ≡ axis = omega arith in
        ap (λ (n : ℕ). is_within_bound (Some bound) (angle_at at n)) same ∙ by axis bound named (is_within_bound (Some bound) (angle_at at axis)) refl)
      where
        by : (axis : ℕ) (bound : Bound) → Names bounds axis bound → (b : Bool) → is_within_bound (Some bound) (angle_at at axis) ≡ b → is_within_bound (Some bound) (angle_at at axis) ≡ true
        by axis bound named true is = is
        by axis bound named false is =
            absurd (never_within bound (angle_at at axis) (angle_at at axis) touched.k touched.m touched.whole touched.on_the_way (beside_of bound (angle_at at axis) is) (touched.holds axis bound named))

outside_touched : (bounds : List (Option Bound)) (at : Joints) → (not (all_within 0 bounds at) ≡ true) ↔ SomeFraction (λ k m. LiesOutside bounds (point_at at at k m) m)
outside_touched bounds at = (there, back)
  where
    there : not (all_within 0 bounds at) ≡ true → SomeFraction (λ k m. LiesOutside bounds (point_at at at k m) m)
    there none =
        let out = one_out 0 bounds at (not-true (all_within 0 bounds at) none) in
        let a = angle_at at out.k in
        let beyond = beyond_of out.bound a (beside_of out.bound a (from_first at out.bound out.k false out.out)) in
        record {
          k = 0;
          m = 1;
          whole = omega arith;
          on_the_way = omega arith;
          holds = record { axis = out.k; bound = out.bound; named = out.named; beyond = subst (λ (x : ℤ). IsBeyond out.bound x 1) (at_start a a) beyond };
        }

    back : SomeFraction (λ k m. LiesOutside bounds (point_at at at k m) m) → not (all_within 0 bounds at) ≡ true
    back touched = by (all_within 0 bounds at) refl
      where
        by : (b : Bool) → all_within 0 bounds at ≡ b → not (all_within 0 bounds at) ≡ true
        by false is = ap not is
        by true is =
            let out = touched.holds in
            let a = angle_at at out.axis in
            let kept = kept_of out.bound a (from_first at out.bound out.axis true (each_within 0 out.axis bounds at out.bound is out.named)) in
            absurd (never_beyond out.bound a a touched.k touched.m touched.on_the_way (not_beyond out.bound a kept) (not_beyond out.bound a kept) out.beyond)

by_kind : (inside : Bool) (bounds : List (Option Bound)) (at : Joints) → let shape : Shape = record { inside = inside; bounds = bounds } in IsTrue (lies_in shape at) ↔ Touches at at shape
by_kind true bounds at = inside_touched bounds at
by_kind false bounds at = outside_touched bounds at

pub lies_touched : (shape : Shape) (at : Joints) → IsTrue (lies_in shape at) ↔ Touches at at shape
lies_touched shape at = by_kind shape.inside shape.bounds at

pub touched_by : (shape : Shape) (at : Joints) (result : Bool) → result ≡ lies_in shape at → IsTrue result ↔ Touches at at shape
touched_by shape at result is = let both = lies_touched shape at in (λ yes. both.0 (sym is ∙ yes), λ touched. is ∙ both.1 touched)
