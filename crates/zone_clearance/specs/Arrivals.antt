-- Where lines come down to a level: all of them, or the first one; and the least of their ends.
use Rattle.std.specs.Prelude.{◌≡◌, ◌≤◌, ◌<◌, ◌⊎◌, ℕ, ℤ, pos, ◌≤ℤ◌, List, Option, MatchOption}
use Rattle.joint_clip.specs.Parts.{IsAtMost}
use Rattle.zone_clearance.specs.declared.line.Line.{Line}
use Rattle.zone_clearance.specs.declared.place.Place.{Place}
use Rattle.zone_clearance.specs.declared.search.arrival.Arrival.{Arrival}
use Rattle.zone_clearance.specs.declared.search.level.Level.{Level}
use Rattle.zone_clearance.specs.Levels.{AllUnder, HasLine, Meet, Under}

-- any two lines are at most the level at some common point of the way
abbrev pub AllMeet : List (Option Line) → Level → Type 0
AllMeet lines level = (i j : ℕ) (one two : Line) → HasLine lines i one → HasLine lines j two → Meet one two level

-- the first place at which each line is at most the level
pub record IsFirstAllUnder (lines : List (Option Line)) (level : Level) (place : Place) : Type 0 where
  pub under : AllUnder lines level place.top place.bottom
  pub first : (k m : ℕ) → 1 ≤ m → k ≤ m → AllUnder lines level k m → IsAtMost place.top place.bottom k m

-- the first place at which one of the first lines, this many, is at most the level, and the first such line
pub record IsArrivalOf (lines : List (Option Line)) (level : Level) (count : ℕ) (arrival : Arrival) : Type 0 where
  pub line : Line
  pub there : HasLine lines arrival.number line
  pub counted : arrival.number < count
  pub under : Under line level arrival.place.top arrival.place.bottom
  pub first : (number k m : ℕ) (other : Line) → number < count → 1 ≤ m → k ≤ m → HasLine lines number other → Under other level k m → IsAtMost arrival.place.top arrival.place.bottom k m
  pub none_before : (number : ℕ) (other : Line) → number < arrival.number → HasLine lines number other → ¬ Under other level arrival.place.top arrival.place.bottom

-- the same, or none of those lines ever is
abbrev pub IsArrival : List (Option Line) → Level → ℕ → Option Arrival → Type 0
IsArrival lines level count arrival = MatchOption arrival
    ((number k m : ℕ) (other : Line) → number < count → 1 ≤ m → k ≤ m → HasLine lines number other → ¬ Under other level k m)
    (λ some. IsArrivalOf lines level count some)

-- an end of some line is at most this value
pub record SomeEnd (lines : List (Option Line)) (value : ℤ) : Type 0 where
  pub number : ℕ
  pub line : Line
  pub there : HasLine lines number line
  pub low : (line.start ≤ℤ value) ⊎ (line.end ≤ℤ value)

-- an integer level: 0, or at most each end of each line; and an end of some line is at most the level, if there is a line
pub record IsLeastEnd (lines : List (Option Line)) (level : Level) : Type 0 where
  pub bottom : level.bottom ≡ 1
  pub least : (level.top ≡ 0) ⊎ ((number : ℕ) (line : Line) → HasLine lines number line → (pos level.top ≤ℤ line.start) × (pos level.top ≤ℤ line.end))
  pub reached : (number : ℕ) (line : Line) → HasLine lines number line → SomeEnd lines (pos level.top)
