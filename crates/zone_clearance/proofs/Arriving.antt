-- Where lines come down to a level, one line more at a time: all of them, or the first one.
use Rattle.std.proofs.Common.{◌≡◌, ◌≤◌, ◌<◌, ◌+◌, ◌*◌, ◌⊎◌, ℕ, List, length, get_or, Option, Some, None, IfSome, ap, sym, ◌∙◌, subst, inl, inr, arith}
use Rattle.std.specs.List.{slice_index_or}
use Rattle.std.proofs.Math.Nat.{mul-le-mul_right}
use Rattle.std.proofs.lemmas.Bool.{cases_lt}
use Rattle.std.proofs.lemmas.List.{get_or_default, get_or_past}
use Rattle.std.proofs.lemmas.Option.{same_Some}
use Rattle.joint_clip.specs.Parts.{IsAtMost}
use Rattle.joint_clip.proofs.Fractions.{at_most-trans}
use Rattle.zone_clearance.specs.declared.line.Line.{Line}
use Rattle.zone_clearance.specs.declared.place.Place.{Place}
use Rattle.zone_clearance.specs.declared.search.arrival.Arrival.{Arrival}
use Rattle.zone_clearance.specs.declared.search.level.Level.{Level}
use Rattle.zone_clearance.specs.Arrivals.{AllMeet, IsArrival, IsArrivalOf, IsFirstAllUnder}
use Rattle.zone_clearance.specs.Levels.{AllUnder, HasLine, IsEntry, Under}
use Rattle.zone_clearance.proofs.Ways.{OnTheWay, under_between}

-- numbers of lines
pub next_number : (i number : ℕ) → i < number + 1 → (i < number) ⊎ (i ≡ number)
next_number i number below = elim (cases_lt i number) [ inl before ↦ inl before | inr here ↦ inr (omega (arith, below, here)) ]

pub no_line : (lines : List (Option Line)) (i number : ℕ) (line : Line) → i ≡ number → slice_index_or lines number None ≡ None → HasLine lines i line → ⊥
no_line lines i number line same none there = let clash = sym none ∙ ap (λ (n : ℕ). slice_index_or lines n None) (sym same) ∙ there in cc

pub same_line : (lines : List (Option Line)) (i number : ℕ) (one two : Line) → i ≡ number → HasLine lines i one → HasLine lines number two → two ≡ one
same_line lines i number one two same first second = same_Some _ _ (sym second ∙ ap (λ (n : ℕ). slice_index_or lines n None) (sym same) ∙ first)

pub line_known : (lines : List (Option Line)) (number : ℕ) (line : Line) → HasLine lines number line → number < length lines
line_known lines number line there =
    elim (cases_lt number (length lines)) [
      | inl below ↦ below
      | inr past ↦ absurd (let none = get_or_past lines number None past in let clash = sym none ∙ there in cc)
    ]

pub line_read : (lines : List (Option Line)) (number : ℕ) (d o : Option Line) → number < length lines → get_or lines number d ≡ o → slice_index_or lines number None ≡ o
line_read lines number d o below read = get_or_default lines number None d below ∙ read

-- a place, and where a line is at most the level no later, or no earlier
pub record UnderBefore (line : Line) (level : Level) (x y : ℕ) : Type 0 where
  pub k : ℕ
  pub m : ℕ
  pub here : OnTheWay k m
  pub before : IsAtMost k m x y
  pub under : Under line level k m

pub record UnderAfter (line : Line) (level : Level) (x y : ℕ) : Type 0 where
  pub k : ℕ
  pub m : ℕ
  pub here : OnTheWay k m
  pub after : IsAtMost x y k m
  pub under : Under line level k m

-- the latest place at which one of the first lines, this many, is first at most the level
pub record IsLatestSoFar (lines : List (Option Line)) (level : Level) (count x y : ℕ) : Type 0 where
  pub here : OnTheWay x y
  pub seen : (number : ℕ) (line : Line) → number < count → HasLine lines number line → UnderBefore line level x y
  pub ahead : (number : ℕ) (line : Line) → HasLine lines number line → UnderAfter line level x y
  pub first : (k m : ℕ) → 1 ≤ m → k ≤ m → AllUnder lines level k m → IsAtMost x y k m

from_start : (k m : ℕ) → IsAtMost 0 1 k m
from_start k m = record { across = omega arith }

pub latest_at_first : (lines : List (Option Line)) (level : Level) (x y : ℕ) → x ≡ 0 → y ≡ 1 → AllMeet lines level → IsLatestSoFar lines level 0 x y
latest_at_first lines level x y none one meet =
    subst (λ (a : ℕ). IsLatestSoFar lines level 0 a y) (sym none) (subst (λ (b : ℕ). IsLatestSoFar lines level 0 0 b) (sym one) start)
  where
    start : IsLatestSoFar lines level 0 0 1
    start = record {
      here = record { some = omega arith; whole = omega arith };
      seen = λ number line below there. absurd (omega (arith, below));
      ahead = λ number line there.
          let met = meet number number line line there there in
          record { k = met.k; m = met.m; here = record { some = met.whole; whole = met.on_the_way }; after = from_start met.k met.m; under = met.holds.0 };
      first = λ k m some way all. from_start k m;
    }

-- a number without a line
pub latest_skip : (lines : List (Option Line)) (level : Level) (number x y : ℕ) → slice_index_or lines number None ≡ None → IsLatestSoFar lines level number x y → IsLatestSoFar lines level (number + 1) x y
latest_skip lines level number x y none is = record {
  here = is.here;
  seen = λ i line below there.
      elim (next_number i number below) [
        | inl before ↦ is.seen i line before there
        | inr here ↦ absurd (no_line lines i number line here none there)
      ];
  ahead = is.ahead;
  first = is.first;
}

-- a line that is at most the level no later
entry_under : (line : Line) (level : Level) (entry : Place) (x y : ℕ) → IsEntry line level entry → entry.top * y ≤ x * entry.bottom → UnderBefore line level x y
entry_under line level entry x y enters le =
    record { k = entry.top; m = entry.bottom; here = record { some = entry.some; whole = entry.on_the_way }; before = record { across = le }; under = enters.under }

not_less : (a b : ℕ) → ¬ (a < b) → b ≤ a
not_less a b not = elim (cases_lt a b) [ inl less ↦ absurd (not less) | inr more ↦ more ]

pub latest_kept : (lines : List (Option Line)) (level : Level) (number x y : ℕ) (entry : Place) (line : Line) → HasLine lines number line → IsEntry line level entry → ¬ (x * entry.bottom < entry.top * y) → IsLatestSoFar lines level number x y
    → IsLatestSoFar lines level (number + 1) x y
latest_kept lines level number x y entry line there enters later is = record {
  here = is.here;
  seen = λ i other below has.
      elim (next_number i number below) [
        | inl before ↦ is.seen i other before has
        | inr here ↦
            subst (λ (l : Line). UnderBefore l level x y) (same_line lines i number other line here has there)
            (entry_under line level entry x y enters (not_less (x * entry.bottom) (entry.top * y) later))
      ];
  ahead = is.ahead;
  first = is.first;
}

-- a line that is at most the level later
le_of_lt : (a b : ℕ) → a < b → a ≤ b
le_of_lt a b less = omega (arith, less)

le_same : (a : ℕ) → a ≤ a
le_same a = omega arith

pub latest_moved : (lines : List (Option Line)) (level : Level) (number x y : ℕ) (entry : Place) (line : Line) → AllMeet lines level → HasLine lines number line → IsEntry line level entry → x * entry.bottom < entry.top * y → IsLatestSoFar lines level number x y
    → IsLatestSoFar lines level (number + 1) entry.top entry.bottom
latest_moved lines level number x y entry line meet there enters later is = record {
  here = record { some = entry.some; whole = entry.on_the_way };
  seen = λ i other below has.
      elim (next_number i number below) [
        | inl before ↦
            let old = is.seen i other before has in
            record { k = old.k; m = old.m; here = old.here; before = at_most-trans old.k old.m x y entry.top entry.bottom is.here.some old.before (record { across = le_of_lt (x * entry.bottom) (entry.top * y) later }); under = old.under }
        | inr here ↦
            subst (λ (l : Line). UnderBefore l level entry.top entry.bottom) (same_line lines i number other line here has there)
            (entry_under line level entry entry.top entry.bottom enters (le_same (entry.top * entry.bottom)))
      ];
  ahead = λ i other has.
      let met = meet number i line other there has in
      record { k = met.k; m = met.m; here = record { some = met.whole; whole = met.on_the_way }; after = enters.first met.k met.m met.whole met.on_the_way met.holds.0; under = met.holds.1 };
  first = λ k m some way all. enters.first k m some way (all number line there);
}

-- a line that nowhere is at most the level does not meet itself
pub always_enters : (lines : List (Option Line)) (level : Level) (number : ℕ) (line : Line) → AllMeet lines level → HasLine lines number line → ((k m : ℕ) → 1 ≤ m → k ≤ m → ¬ Under line level k m) → ⊥
always_enters lines level number line meet there never =
    let met = meet number number line line there there in
    never met.k met.m met.whole met.on_the_way met.holds.0

pub latest_all : (lines : List (Option Line)) (level : Level) (count : ℕ) (place : Place) → length lines ≤ count → IsLatestSoFar lines level count place.top place.bottom → IsFirstAllUnder lines level place
latest_all lines level count place all is = record {
  under = λ number line there.
      let before = is.seen number line (below_end number (line_known lines number line there)) there in
      let after = is.ahead number line there in
      under_between line.start line.end level.top level.bottom before.k before.m after.k after.m place.top place.bottom before.here after.here is.here before.before after.after before.under after.under;
  first = is.first;
}
  where
    below_end : (number : ℕ) → number < length lines → number < count
    below_end number below = omega (arith, below, all)

-- the first arrival
pub arrival_at_first : (lines : List (Option Line)) (level : Level) → IsArrival lines level 0 None
arrival_at_first lines level = λ number k m other below some way there under. absurd (omega (arith, below))

-- a number without a line, or whose line is nowhere at most the level
pub never_there : (lines : List (Option Line)) (level : Level) (number : ℕ) → slice_index_or lines number None ≡ None → (i k m : ℕ) (other : Line) → i ≡ number → 1 ≤ m → k ≤ m → HasLine lines i other → ¬ Under other level k m
never_there lines level number none i k m other same some way there under = absurd (no_line lines i number other same none there)

pub never_enters : (lines : List (Option Line)) (level : Level) (number : ℕ) (line : Line) → HasLine lines number line → ((k m : ℕ) → 1 ≤ m → k ≤ m → ¬ Under line level k m) → (i k m : ℕ) (other : Line) → i ≡ number → 1 ≤ m → k ≤ m → HasLine lines i other → ¬ Under other level k m
never_enters lines level number line has never i k m other same some way there under =
    never k m some way (subst (λ (x : Line). Under x level k m) (sym (same_line lines i number other line same there has)) under)

pub arrival_skip : (lines : List (Option Line)) (level : Level) (number : ℕ) (arrival : Option Arrival) → ((i k m : ℕ) (other : Line) → i ≡ number → 1 ≤ m → k ≤ m → HasLine lines i other → ¬ Under other level k m) → IsArrival lines level number arrival → IsArrival lines level (number + 1) arrival
arrival_skip lines level number None none is = λ i k m other below some way there under.
    elim (next_number i number below) [
      | inl before ↦ is i k m other before some way there under
      | inr here ↦ none i k m other here some way there under
    ]
arrival_skip lines level number (Some arrival) none is = record {
  line = is.line;
  there = is.there;
  counted = more arrival.number number is.counted;
  under = is.under;
  first = λ i k m other below some way there under.
      elim (next_number i number below) [
        | inl before ↦ is.first i k m other before some way there under
        | inr here ↦ absurd (none i k m other here some way there under)
      ];
  none_before = is.none_before;
}
  where
    more : (i number : ℕ) → i < number → i < number + 1
    more i number below = omega (arith, below)

-- a line that is at most the level before all others
before_all : (lines : List (Option Line)) (level : Level) (number : ℕ) (arrival : Option Arrival) (new : Place) → IfSome arrival (λ first. new.top * first.place.bottom < first.place.top * new.bottom) → IsArrival lines level number arrival
    → (i k m : ℕ) (other : Line) → i < number → 1 ≤ m → k ≤ m → HasLine lines i other → Under other level k m → new.top * m < k * new.bottom
before_all lines level number None new sooner is i k m other below some way there under = absurd (is i k m other below some way there under)
before_all lines level number (Some arrival) new sooner is i k m other below some way there under =
    sooner_still new.top new.bottom arrival.place.top arrival.place.bottom k m new.some some sooner (is.first i k m other below some way there under).across
  where
    sooner_still : (a b c d e f : ℕ) → 1 ≤ b → 1 ≤ f → a * d < c * b → c * f ≤ e * d → a * f < e * b
    sooner_still a b c d e f one two less le =
        elim (cases_lt (a * f) (e * b)) [
          | inl before ↦ before
          | inr after ↦
              let step : a * d + 1 ≤ c * b = omega (arith, less) in
              let first : (a * d + 1) * f ≤ c * b * f = mul-le-mul_right f step in
              let second : c * f * b ≤ e * d * b = mul-le-mul_right b le in
              let third : e * b * d ≤ a * f * d = mul-le-mul_right d after in
              absurd (omega (arith, first, second, third))
        ]

pub arrival_new : (lines : List (Option Line)) (level : Level) (number : ℕ) (arrival : Option Arrival) (new : Arrival) (line : Line) → HasLine lines number line → IsEntry line level new.place → new.number ≡ number
    → IfSome arrival (λ first. new.place.top * first.place.bottom < first.place.top * new.place.bottom) → IsArrival lines level number arrival → IsArrivalOf lines level (number + 1) new
arrival_new lines level number arrival new line there enters same sooner is = record {
  line = line;
  there = ap (λ (n : ℕ). slice_index_or lines n None) same ∙ there;
  counted = below_next new.number number same;
  under = enters.under;
  first = λ i k m other below some way has under.
      elim (next_number i number below) [
        | inl before ↦ record { across = le_of_lt _ _ (before_all lines level number arrival new.place sooner is i k m other before some way has under) }
        | inr here ↦ enters.first k m some way (subst (λ (x : Line). Under x level k m) (sym (same_line lines i number other line here has there)) under)
      ];
  none_before = λ i other before has under.
      not_itself (new.place.top * new.place.bottom)
      (before_all lines level number arrival new.place sooner is i new.place.top new.place.bottom other (less_than i new.number number same before) new.place.some new.place.on_the_way has under);
}
  where
    below_next : (a n : ℕ) → a ≡ n → a < n + 1
    below_next a n same = omega (arith, same)

    less_than : (i a n : ℕ) → a ≡ n → i < a → i < n
    less_than i a n same before = omega (arith, same, before)

    not_itself : (a : ℕ) → a < a → ⊥
    not_itself a less = omega (arith, less)

-- a line that is not
pub arrival_kept : (lines : List (Option Line)) (level : Level) (number : ℕ) (arrival : Option Arrival) (entry : Place) (line : Line) → HasLine lines number line → IsEntry line level entry
    → ¬ IfSome arrival (λ first. entry.top * first.place.bottom < first.place.top * entry.bottom) → IsArrival lines level number arrival → IsArrival lines level (number + 1) arrival
arrival_kept lines level number None entry line there enters later is = absurd (later tt)
arrival_kept lines level number (Some arrival) entry line there enters later is = record {
  line = is.line;
  there = is.there;
  counted = more arrival.number number is.counted;
  under = is.under;
  first = λ i k m other below some way has under.
      elim (next_number i number below) [
        | inl before ↦ is.first i k m other before some way has under
        | inr here ↦
            at_most-trans arrival.place.top arrival.place.bottom entry.top entry.bottom k m entry.some
            (record { across = not_less (entry.top * arrival.place.bottom) (arrival.place.top * entry.bottom) later })
            (enters.first k m some way (subst (λ (x : Line). Under x level k m) (sym (same_line lines i number other line here has there)) under))
      ];
  none_before = is.none_before;
}
  where
    more : (i number : ℕ) → i < number → i < number + 1
    more i number below = omega (arith, below)
