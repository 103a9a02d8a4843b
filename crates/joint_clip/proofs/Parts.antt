-- Cuts of a part of a segment.
use Rattle.std.proofs.Common.{◌≡◌, ◌≤◌, ◌*◌, ℕ, Bool, false, IsTrue, Option, Some, None, sym, ◌∙◌, arith}
use Rattle.std.proofs.Math.Nat.{le_of_lt, lt_of_not-le}
use Rattle.std.proofs.lemmas.Bool.{false≢true}
use Rattle.std.specs.Prelude.{is_some}
use Rattle.joint_clip.specs.declared.fraction.Fraction.{Fraction}
use Rattle.joint_clip.specs.declared.part.Part.{Part}
use Rattle.joint_clip.specs.Parts.{IsAtMost, IsIn, IsPartWhere}
use Rattle.joint_clip.specs.Touches.{SomeFraction}
use Rattle.joint_clip.proofs.Fractions.{at_most-trans}

-- k/m is from one fraction to another
abbrev pub Between : Fraction → Fraction → ℕ → ℕ → Type 0
Between first last k m = IsAtMost first.top first.bottom k m × IsAtMost k m last.top last.bottom

pub none_between : (first last : Fraction) → ¬ (first.top * last.bottom ≤ last.top * first.bottom) → IsPartWhere None (Between first last)
none_between first last apart = record {
  kept = λ k m some way h. absurd (apart (at_most-trans first.top first.bottom k m last.top last.bottom some h.0 h.1).across);
  only = λ k m some way none. absurd none;
}

-- nothing is cut off if the part starts at or after the cut, or ends at or before it
pub kept_from : (part : Part) (first : Fraction) → first.top * part.first.bottom ≤ part.first.top * first.bottom → IsPartWhere (Some part) (λ k m. IsIn part k m × IsAtMost first.top first.bottom k m)
kept_from part first before = record {
  kept = λ k m some way h. h.0;
  only = λ k m some way within. (within, at_most-trans first.top first.bottom part.first.top part.first.bottom k m part.first.some (record { across = before }) within.first);
}

pub kept_to : (part : Part) (last : Fraction) → part.last.top * last.bottom ≤ last.top * part.last.bottom → IsPartWhere (Some part) (λ k m. IsIn part k m × IsAtMost k m last.top last.bottom)
kept_to part last after = record {
  kept = λ k m some way h. h.0;
  only = λ k m some way within. (within, at_most-trans k m part.last.top part.last.bottom last.top last.bottom part.last.some within.last (record { across = after }));
}

-- otherwise the part starts or ends at the cut
pub cut_from : (part : Part) (first : Fraction) (left : Option Part) → part.first.top * first.bottom ≤ first.top * part.first.bottom → IsPartWhere left (Between first part.last) → IsPartWhere left (λ k m. IsIn part k m × IsAtMost first.top first.bottom k m)
cut_from part first left after cut = record {
  kept = λ k m some way h. cut.kept k m some way (h.1, h.0.last);
  only = λ k m some way within.
      let both = cut.only k m some way within in
      (record { first = at_most-trans part.first.top part.first.bottom first.top first.bottom k m first.some (record { across = after }) both.0; last = both.1 }, both.0);
}

pub cut_to : (part : Part) (last : Fraction) (left : Option Part) → last.top * part.last.bottom ≤ part.last.top * last.bottom → IsPartWhere left (Between part.first last) → IsPartWhere left (λ k m. IsIn part k m × IsAtMost k m last.top last.bottom)
cut_to part last left before cut = record {
  kept = λ k m some way h. cut.kept k m some way (h.0.first, h.1);
  only = λ k m some way within.
      let both = cut.only k m some way within in
      (record { first = both.0; last = at_most-trans k m last.top last.bottom part.last.top part.last.bottom last.some both.1 (record { across = before }) }, both.1);
}

-- another condition that holds at the same fractions
pub same_where : (left : Option Part) (P Q : ℕ → ℕ → Type 0) → ((k m : ℕ) → 1 ≤ m → k ≤ m → P k m → Q k m) → ((k m : ℕ) → 1 ≤ m → k ≤ m → Q k m → P k m) → IsPartWhere left P → IsPartWhere left Q
same_where left P Q to from part = record {
  kept = λ k m some way h. part.kept k m some way (from k m some way h);
  only = λ k m some way within. to k m some way (part.only k m some way within);
}

-- one cut after another
pub cut_twice : (part : Part) (left : Option Part) (P Q : ℕ → ℕ → Type 0) → IsPartWhere (Some part) P → IsPartWhere left (λ k m. IsIn part k m × Q k m) → IsPartWhere left (λ k m. P k m × Q k m)
cut_twice part left P Q one two = record {
  kept = λ k m some way h. two.kept k m some way (one.kept k m some way h.0, h.1);
  only = λ k m some way within.
      let both = two.only k m some way within in
      (one.only k m some way both.0, both.1);
}

-- if a condition holds nowhere, so does one that implies it
pub none_where : (P Q : ℕ → ℕ → Type 0) → ((k m : ℕ) → 1 ≤ m → k ≤ m → Q k m → P k m) → IsPartWhere None P → IsPartWhere None Q
none_where P Q more none = record {
  kept = λ k m some way h. none.kept k m some way (more k m some way h);
  only = λ k m some way within. absurd within;
}

-- what a comparison with a negative result says
pub apart : (answer : Bool) (a b : ℕ) → (IsTrue answer → a ≤ b) × (a ≤ b → IsTrue answer) → answer ≡ false → b ≤ a
apart answer a b is above = le_of_lt (lt_of_not-le (λ most. false≢true (sym above ∙ is.1 most)))

-- a part has a first fraction, so there is one exactly if the condition holds somewhere
pub found_where : (left : Option Part) (Holds : ℕ → ℕ → Type 0) (answer : Bool) → IsPartWhere left Holds → answer ≡ is_some left → (IsTrue answer → SomeFraction Holds) × (SomeFraction Holds → IsTrue answer)
found_where None Holds answer part is =
    (λ found. absurd (false≢true (sym is ∙ found)), λ some. absurd (part.kept some.k some.m some.whole some.on_the_way some.holds))
found_where (Some left) Holds answer part is =
    let first = left.first in
    let at_first : IsIn left first.top first.bottom = record { first = record { across = omega arith }; last = record { across = left.ordered } } in
    (λ found. record { k = first.top; m = first.bottom; whole = first.some; on_the_way = first.on_the_way; holds = part.only first.top first.bottom first.some first.on_the_way at_first }, λ some. is)
