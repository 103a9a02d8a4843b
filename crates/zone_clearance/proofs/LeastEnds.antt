-- The least end of the lines, one line more at a time.
use Rattle.std.proofs.Common.{◌≡◌, ◌≤◌, ◌<◌, ◌+◌, ◌⊎◌, ℕ, List, length, Option, None, ap, sym, ◌∙◌, subst, inl, inr, arith, ℤ, pos, nat_abs, ◌≤ℤ◌, w64, to_z, of_z}
use Rattle.std.specs.Int.{int_max, int_min}
use Rattle.std.specs.List.{slice_index_or}
use Rattle.std.proofs.lemmas.Int.{ints, clamps, by_lt_z}
use Rattle.zone_clearance.specs.declared.line.Line.{Line}
use Rattle.zone_clearance.specs.declared.search.level.Level.{Level}
use Rattle.zone_clearance.specs.Arrivals.{IsLeastEnd, SomeEnd}
use Rattle.zone_clearance.specs.Levels.{HasLine}
use Rattle.zone_clearance.proofs.Arriving.{line_known, next_number, no_line, same_line}
use Rattle.zone_clearance.proofs.Products.{line_value}

-- at most both ends of each of the first lines, this many, and at least an end of some line, or the most that there is
pub record IsLeastSoFar (lines : List (Option Line)) (count : ℕ) (least : ℤ) : Type 0 where
  pub each : (number : ℕ) (line : Line) → number < count → HasLine lines number line → (least ≤ℤ line.start) × (least ≤ℤ line.end)
  pub reached : (least ≡ pos 200_000_000) ⊎ SomeEnd lines least

pub least_at_first : (lines : List (Option Line)) (least : ℤ) → least ≡ pos 200_000_000 → IsLeastSoFar lines 0 least
least_at_first lines least is = record { each = λ number line below there. absurd (omega (arith, below)); reached = inl is }

pub least_skip : (lines : List (Option Line)) (number : ℕ) (least : ℤ) → slice_index_or lines number None ≡ None → IsLeastSoFar lines number least → IsLeastSoFar lines (number + 1) least
least_skip lines number least none is = record {
  each = λ i line below there.
      elim (next_number i number below) [
        | inl before ↦ is.each i line before there
        | inr here ↦ absurd (no_line lines i number line here none there)
      ];
  reached = is.reached;
}

lower : (x y z : ℤ) → x ≤ℤ y → y ≤ℤ z → x ≤ℤ z
lower x y z one two = omega (arith, ints, one, two)

record IsLower (least start end new : ℤ) : Type 0 where
  old : new ≤ℤ least
  first : new ≤ℤ start
  last : new ≤ℤ end
  one : (least ≤ℤ new) ⊎ ((start ≤ℤ new) ⊎ (end ≤ℤ new))

lower_of : (least start end new : ℤ) → new ≡ int_min least (int_min start end) → IsLower least start end new
lower_of least start end new is = record {
  old = omega (arith, ints, clamps, is);
  first = omega (arith, ints, clamps, is);
  last = omega (arith, ints, clamps, is);
  one =
      by_lt_z new least
      (λ below. inr (by_lt_z new start (λ under. inr (omega (arith, ints, clamps, is, below, under))) (λ there. inl there)))
      (λ same. inl same);
}

most : (line : Line) (least : ℤ) → least ≡ pos 200_000_000 → line.start ≤ℤ least
most line least is = omega (arith, ints, is, line.small_start)

pub least_more : (lines : List (Option Line)) (number : ℕ) (line : Line) (least new : ℤ) → HasLine lines number line → new ≡ int_min least (int_min line.start line.end) → IsLeastSoFar lines number least → IsLeastSoFar lines (number + 1) new
least_more lines number line least new there is so_far = record {
  each = λ i other below has.
      elim (next_number i number below) [
        | inl before ↦
            let old = so_far.each i other before has in
            (lower new least other.start low.old old.0, lower new least other.end low.old old.1)
        | inr here ↦
            let same = same_line lines i number other line here has there in
            subst (λ (x : Line). (new ≤ℤ x.start) × (new ≤ℤ x.end)) same (low.first, low.last)
      ];
  reached = elim low.one [
    | inl kept ↦ elim so_far.reached [
      | inl top ↦ inr (record { number = number; line = line; there = there; low = inl (lower line.start least new (most line least top) kept) })
      | inr end ↦ inr (record { number = end.number; line = end.line; there = end.there; low = elim end.low [ inl start ↦ inl (lower _ _ _ start kept) | inr last ↦ inr (lower _ _ _ last kept) ] })
    ]
    | inr ends ↦ inr (record { number = number; line = line; there = there; low = ends })
  ];
}
  where
    low : IsLower least line.start line.end new
    low = lower_of least line.start line.end new is

-- the level is the least end, or 0
record IsRaisedToZero (least : ℤ) (top : ℕ) : Type 0 where
  above : least ≤ℤ pos top
  none : (top ≡ 0) ⊎ (pos top ≤ℤ least)

raised_to_zero : (least : ℤ) (top : ℕ) → pos top ≡ int_max least (pos 0) → IsRaisedToZero least top
raised_to_zero least top is = record {
  above = omega (arith, ints, clamps, is);
  none = by_lt_z (pos 0) least (λ above. inr (omega (arith, ints, clamps, is, above))) (λ below. inl (omega (arith, ints, clamps, is, below)));
}

pub least_all : (lines : List (Option Line)) (count : ℕ) (least : ℤ) (level : Level) → length lines ≤ count → pos level.top ≡ int_max least (pos 0) → level.bottom ≡ 1 → IsLeastSoFar lines count least → IsLeastEnd lines level
least_all lines count least level all top bottom is = record {
  bottom = bottom;
  least = elim raised.none [
    | inl none ↦ inl none
    | inr low ↦ inr (λ number line there.
        let ends = is.each number line (below_end number (line_known lines number line there)) there in
        (lower (pos level.top) least line.start low ends.0, lower (pos level.top) least line.end low ends.1))
  ];
  reached = λ number line there. elim is.reached [
    | inl top ↦ record { number = number; line = line; there = there; low = inl (lower line.start least (pos level.top) (most line least top) raised.above) }
    | inr end ↦ record { number = end.number; line = end.line; there = end.there; low = elim end.low [ inl start ↦ inl (lower _ _ _ start raised.above) | inr last ↦ inr (lower _ _ _ last raised.above) ] }
  ];
}
  where
    raised : IsRaisedToZero least level.top
    raised = raised_to_zero least level.top top

    below_end : (number : ℕ) → number < length lines → number < count
    below_end number below = omega (arith, below, all)

-- as the code reads and compares them
pub record IsRead (least start end read : ℤ) : Type 0 where
  pub is : read ≡ int_min least (int_min start end)
  pub small : nat_abs read ≤ 200_000_000

min_small : (a b : ℤ) → nat_abs a ≤ 200_000_000 → nat_abs b ≤ 200_000_000 → nat_abs (int_min a b) ≤ 200_000_000
min_small a b one two = omega (arith, ints, clamps, one, two)

least_is : (least start end m r : ℤ) → nat_abs least ≤ 200_000_000 → nat_abs start ≤ 200_000_000 → nat_abs end ≤ 200_000_000
    → m ≡ int_min (to_z w64 (of_z w64 start)) (to_z w64 (of_z w64 end)) → r ≡ int_min least (to_z w64 (of_z w64 m)) → r ≡ int_min least (int_min start end)
least_is least start end m r small first last one two =
    let lower : m ≡ int_min start end = one ∙ ap (λ (x : ℤ). int_min x (to_z w64 (of_z w64 end))) (line_value start first) ∙ ap (λ (y : ℤ). int_min start y) (line_value end last) in
    let short : nat_abs m ≤ 200_000_000 = subst (λ (x : ℤ). nat_abs x ≤ 200_000_000) (sym lower) (min_small start end first last) in
    two ∙ ap (λ (x : ℤ). int_min least x) (line_value m short ∙ lower)

pub least_read : (line : Line) (least m r read : ℤ) → nat_abs least ≤ 200_000_000 → m ≡ int_min (to_z w64 (of_z w64 line.start)) (to_z w64 (of_z w64 line.end)) → r ≡ int_min least (to_z w64 (of_z w64 m)) → read ≡ to_z w64 (of_z w64 r)
    → IsRead least line.start line.end read
least_read line least m r read small one two is =
    let same = least_is least line.start line.end m r small line.small_start line.small_end one two in
    let short : nat_abs r ≤ 200_000_000 = subst (λ (x : ℤ). nat_abs x ≤ 200_000_000) (sym same) (min_small least (int_min line.start line.end) small (min_small line.start line.end line.small_start line.small_end)) in
    let whole : read ≡ r = is ∙ line_value r short in
    record { is = whole ∙ same; small = subst (λ (x : ℤ). nat_abs x ≤ 200_000_000) (sym whole) short }

pub zero_small : (least r : ℤ) → nat_abs least ≤ 200_000_000 → r ≡ int_max least (pos 0) → nat_abs r ≤ 200_000_000
zero_small least r small is = omega (arith, ints, clamps, small, is)

pub raised_read : (least r : ℤ) (top : ℕ) → nat_abs least ≤ 200_000_000 → r ≡ int_max least (pos 0) → pos top ≡ to_z w64 (of_z w64 r) → pos top ≡ int_max least (pos 0)
raised_read least r top small is read = read ∙ line_value r (zero_small least r small is) ∙ is
