-- The best pair of lines, one pair more at a time.
use Rattle.std.proofs.Common.{◌≡◌, ◌≤◌, ◌<◌, ◌+◌, ◌*◌, ◌⊎◌, ℕ, List, length, Option, None, ap, sym, ◌∙◌, subst, inl, inr, arith, ℤ, pos}
use Rattle.std.specs.List.{slice_index_or}
use Rattle.std.proofs.lemmas.Bool.{cases_lt}
use Rattle.std.proofs.lemmas.Int.{ints}
use Rattle.std.proofs.lemmas.Option.{same_Some}
use Rattle.zone_clearance.specs.declared.line.Line.{Line}
use Rattle.zone_clearance.specs.declared.search.best.Best.{Best}
use Rattle.zone_clearance.specs.declared.search.level.Level.{Level}
use Rattle.zone_clearance.specs.Levels.{HasLine, IsHigher, IsOver, IsRaisedTo, Meet, StayAbove, StaysUnder}
use Rattle.zone_clearance.specs.Pairs.{Dip, IsBest, IsBestBefore, IsPair, IsTop, IsZero}
use Rattle.zone_clearance.specs.Sides.{ComesBefore}
use Rattle.zone_clearance.proofs.Arriving.{line_known}
use Rattle.zone_clearance.proofs.Levels.{below_higher, under_higher}
use Rattle.zone_clearance.proofs.Raising.{Meet-swap}
use Rattle.zone_clearance.proofs.StayingUnder.{met_with}

-- the order of pairs
next_second : (i j first second : ℕ) → ComesBefore i j first (second + 1) → ComesBefore i j first second ⊎ ((i ≡ first) × (j ≡ second))
next_second i j first second (inl before) = inl (inl before)
next_second i j first second (inr row) =
    elim (cases_lt j second) [
      | inl before ↦ inl (inr (row.0, before))
      | inr here ↦ inr (row.0, omega (arith, here, row.1))
    ]

next_first : (i j first : ℕ) → i ≤ j → ComesBefore i j (first + 1) (first + 1) → (i < first) ⊎ (i ≡ first)
next_first i j first ordered (inl before) = elim (cases_lt i first) [ inl earlier ↦ inl earlier | inr here ↦ inr (omega (arith, before, here)) ]
next_first i j first ordered (inr row) = absurd (omega (arith, row.0, row.1, ordered))

none_before : (i j : ℕ) → ComesBefore i j 0 0 → ⊥
none_before i j (inl before) = omega (arith, before)
none_before i j (inr row) = omega (arith, row.1)

no_line : (lines : List (Option Line)) (number : ℕ) (line : Line) → slice_index_or lines number None ≡ None → HasLine lines number line → ⊥
no_line lines number line none there = let clash = sym none ∙ there in cc

same_line : (lines : List (Option Line)) (i j : ℕ) (one two : Line) → i ≡ j → HasLine lines i one → HasLine lines j two → two ≡ one
same_line lines i j one two same first second = same_Some _ _ (sym second ∙ ap (λ (n : ℕ). slice_index_or lines n None) (sym same) ∙ first)

-- a pair that meets a level meets a higher one, and dips below it
met_higher : (one two : Line) (low high : Level) → IsHigher low high → Meet one two low → Meet one two high
met_higher one two low high higher met = record {
  k = met.k;
  m = met.m;
  whole = met.whole;
  on_the_way = met.on_the_way;
  holds = (
    under_higher one.start one.end low.top low.bottom high.top high.bottom met.k met.m low.some (le_of_lt (low.top * high.bottom) (high.top * low.bottom) higher.higher) met.holds.0,
    under_higher two.start two.end low.top low.bottom high.top high.bottom met.k met.m low.some (le_of_lt (low.top * high.bottom) (high.top * low.bottom) higher.higher) met.holds.1,
  );
}
  where
    le_of_lt : (a b : ℕ) → a < b → a ≤ b
    le_of_lt a b less = omega (arith, less)

met_dips : (one two : Line) (low high : Level) → IsHigher low high → Meet one two low → Dip one two high
met_dips one two low high higher met = record {
  k = met.k;
  m = met.m;
  whole = met.whole;
  on_the_way = met.on_the_way;
  holds = (
    record { below = below_higher one.start one.end low.top low.bottom high.top high.bottom met.k met.m low.some met.whole higher.higher met.holds.0 },
    record { below = below_higher two.start two.end low.top low.bottom high.top high.bottom met.k met.m low.some met.whole higher.higher met.holds.1 },
  );
}

-- the best one of the pairs before i and j is that of these two numbers: it stays above this level, those before it do
-- not, and all of them meet it
pub record Top (lines : List (Option Line)) (level : Level) (first second : ℕ) : Type 0 where
  pub one : Line
  pub two : Line
  pub pair : IsPair lines first second one two
  pub above : StayAbove one two level
  pub none_before : (i j : ℕ) (l r : Line) → ComesBefore i j first second → IsPair lines i j l r → Dip l r level

pub record BestBefore (lines : List (Option Line)) (level : Level) (first second i j : ℕ) : Type 0 where
  pub top : Top lines level first second
  pub met : (k n : ℕ) (l r : Line) → ComesBefore k n i j → IsPair lines k n l r → Meet l r level

pub opened : (lines : List (Option Line)) (best : Best) (i j : ℕ) → IsBestBefore lines best i j → BestBefore lines best.level best.first best.second i j
opened lines best i j is = record {
  top = record { one = is.top.one; two = is.top.two; pair = is.top.pair; above = is.top.above; none_before = is.top.none_before };
  met = is.met;
}

closed_top : (lines : List (Option Line)) (best : Best) → Top lines best.level best.first best.second → IsTop lines best
closed_top lines best is = record { one = is.one; two = is.two; pair = is.pair; above = is.above; none_before = is.none_before }

pub closed : (lines : List (Option Line)) (best : Best) (i j : ℕ) → BestBefore lines best.level best.first best.second i j → IsBestBefore lines best i j
closed lines best i j is = record { top = closed_top lines best is.top; met = is.met }

-- as a loop holds it
abbrev pub Open : Type 0
Open = Level × (ℕ × (ℕ × Unit {0}))

pub record IsOpenBest (lines : List (Option Line)) (best : Open) (i j : ℕ) : Type 0 where
  pub so_far : BestBefore lines best.0 best.1.0 best.1.1.0 i j
  pub known_first : best.1.0 < 25
  pub known_second : best.1.1.0 < 25

-- at first: line 0 with itself, at the level 0
zero_over : (s e : ℤ) (t b k m : ℕ) → s ≡ pos 0 → e ≡ pos 0 → pos t ≡ pos 0 → IsOver s e t b k m
zero_over s e t b k m start end top = let none : t ≡ 0 = omega (arith, ints, top) in record { over = rw (start, end, none) (omega (arith, ints)) }

pub best_at_first : (lines : List (Option Line)) (level : Level) → IsZero lines → pos level.top ≡ pos 0 → BestBefore lines level 0 0 0 0
best_at_first lines level line_zero top = record {
  top = record {
    one = line_zero.line;
    two = line_zero.line;
    pair = record { ordered = omega arith; first_line = line_zero.there; second_line = line_zero.there };
    above = record { above = λ k m some way. inl (zero_over line_zero.line.start line_zero.line.end level.top level.bottom k m line_zero.start line_zero.end top) };
    none_before = λ i j l r before pair. absurd (none_before i j before);
  };
  met = λ i j l r before pair. absurd (none_before i j before);
}

-- a number that has no line
pub no_first : (lines : List (Option Line)) (level : Level) (a b first : ℕ) → slice_index_or lines first None ≡ None → BestBefore lines level a b first first → BestBefore lines level a b (first + 1) (first + 1)
no_first lines level a b first none is = record {
  top = is.top;
  met = λ i j l r before pair.
      elim (next_first i j first pair.ordered before) [
        | inl earlier ↦ is.met i j l r (inl earlier) pair
        | inr here ↦ absurd (no_line lines i l (ap (λ (n : ℕ). slice_index_or lines n None) here ∙ none) pair.first_line)
      ];
}

pub no_second : (lines : List (Option Line)) (level : Level) (a b first second : ℕ) → slice_index_or lines second None ≡ None → BestBefore lines level a b first second → BestBefore lines level a b first (second + 1)
no_second lines level a b first second none is = record {
  top = is.top;
  met = λ i j l r before pair.
      elim (next_second i j first second before) [
        | inl earlier ↦ is.met i j l r earlier pair
        | inr here ↦ absurd (no_line lines j r (ap (λ (n : ℕ). slice_index_or lines n None) here.1 ∙ none) pair.second_line)
      ];
}

-- a line after line 0 that is nowhere above the best level: any line meets the level with line 0, and so with this one
pub low_first : (lines : List (Option Line)) (level : Level) (a b first : ℕ) (line : Line) → IsZero lines → 1 ≤ first → HasLine lines first line → StaysUnder line level → BestBefore lines level a b first first
    → BestBefore lines level a b (first + 1) (first + 1)
low_first lines level a b first line zero after there under is = record {
  top = is.top;
  met = λ i j l r before pair.
      elim (next_first i j first pair.ordered before) [
        | inl earlier ↦ is.met i j l r (inl earlier) pair
        | inr here ↦
            subst (λ (x : Line). Meet x r level) (same_line lines i first l line here pair.first_line there)
            (met_with zero.line line r level under
            (is.met 0 j zero.line r (inl after) (record { ordered = omega arith; first_line = zero.there; second_line = pair.second_line })))
      ];
}

-- the pair of these numbers
meet_same : (lines : List (Option Line)) (first second i j : ℕ) (one two l r : Line) (level : Level) → (i ≡ first) × (j ≡ second) → HasLine lines first one → HasLine lines second two → IsPair lines i j l r → Meet one two level → Meet l r level
meet_same lines first second i j one two l r level here first_line second_line pair met =
    subst (λ (x : Line). Meet x r level) (same_line lines i first l one here.0 pair.first_line first_line)
    (subst (λ (y : Line). Meet one y level) (same_line lines j second r two here.1 pair.second_line second_line) met)

-- it meets the best level
pub best_kept : (lines : List (Option Line)) (level : Level) (a b first second : ℕ) (one two : Line) → HasLine lines first one → HasLine lines second two → Meet one two level → BestBefore lines level a b first second → BestBefore lines level a b first (second + 1)
best_kept lines level a b first second one two first_line second_line met is = record {
  top = is.top;
  met = λ i j l r before pair.
      elim (next_second i j first second before) [
        | inl earlier ↦ is.met i j l r earlier pair
        | inr here ↦ meet_same lines first second i j one two l r level here first_line second_line pair met
      ];
}

-- it is above the best level
pub best_raised : (lines : List (Option Line)) (level new : Level) (a b first second : ℕ) (one two : Line) → first ≤ second → HasLine lines first one → HasLine lines second two → IsRaisedTo one two level new → BestBefore lines level a b first second
    → BestBefore lines new first second first (second + 1)
best_raised lines level new a b first second one two ordered first_line second_line raised is = record {
  top = record {
    one = one;
    two = two;
    pair = record { ordered = ordered; first_line = first_line; second_line = second_line };
    above = raised.above;
    none_before = λ i j l r before pair. met_dips l r level new raised.higher (is.met i j l r before pair);
  };
  met = λ i j l r before pair.
      elim (next_second i j first second before) [
        | inl earlier ↦ met_higher l r level new raised.higher (is.met i j l r earlier pair)
        | inr here ↦ meet_same lines first second i j one two l r new here first_line second_line pair raised.met
      ];
}

-- the end of a row of pairs, and of all rows
pub best_row : (lines : List (Option Line)) (level : Level) (a b first second : ℕ) → length lines ≤ second → BestBefore lines level a b first second → BestBefore lines level a b (first + 1) (first + 1)
best_row lines level a b first second all is = record {
  top = is.top;
  met = λ i j l r before pair.
      elim (next_first i j first pair.ordered before) [
        | inl earlier ↦ is.met i j l r (inl earlier) pair
        | inr here ↦ is.met i j l r (inr (here, below_end j second (line_known lines j r pair.second_line) all)) pair
      ];
}
  where
    below_end : (j second : ℕ) → j < length lines → length lines ≤ second → j < second
    below_end j second below all = omega (arith, below, all)

pub best_all : (lines : List (Option Line)) (best : Best) (first : ℕ) → length lines ≤ first → BestBefore lines best.level best.first best.second first first → IsBest lines best
best_all lines best first all is = record {
  top = closed_top lines best is.top;
  met = λ i j l r one two.
      elim (cases_lt j i) [
        | inl after ↦ Meet-swap r l best.level (is.met j i r l (inl (below_end j (line_known lines j r two))) (record { ordered = le_of_lt j i after; first_line = two; second_line = one }))
        | inr ordered ↦ is.met i j l r (inl (below_end i (line_known lines i l one))) (record { ordered = ordered; first_line = one; second_line = two })
      ];
}
  where
    below_end : (i : ℕ) → i < length lines → i < first
    below_end i below = omega (arith, below, all)

    le_of_lt : (a b : ℕ) → a < b → a ≤ b
    le_of_lt a b less = omega (arith, less)
