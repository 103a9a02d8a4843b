-- Lines along a segment, by their values at its ends, against a level: a number of thousandths top/bottom.
use Rattle.std.specs.Prelude.{◌≡◌, ◌≤◌, ◌<◌, ◌+◌, ◌*◌, ◌⊎◌, ℕ, ℤ, pos, nat_abs, ◌-ℤ◌, ◌*ℤ◌, ◌≤ℤ◌, List, Option, Some, None, MatchOption}
use Rattle.std.specs.List.{slice_index_or}
use Rattle.joint_clip.specs.Parts.{IsAtMost}
use Rattle.joint_clip.specs.Touches.{SomeFraction, way_at}
use Rattle.zone_clearance.specs.declared.line.Line.{Line}
use Rattle.zone_clearance.specs.declared.search.level.Level.{Level}
use Rattle.zone_clearance.specs.declared.place.Place.{Place}

-- the line is at most, or at least, the level at k/m of the way
pub record IsUnder (start end : ℤ) (top bottom k m : ℕ) : Type 0 where
  pub under : (way_at start end k m *ℤ pos bottom) ≤ℤ pos (top * m)

pub record IsOver (start end : ℤ) (top bottom k m : ℕ) : Type 0 where
  pub over : pos (top * m) ≤ℤ (way_at start end k m *ℤ pos bottom)

abbrev pub Under : Line → Level → ℕ → ℕ → Type 0
Under line level k m = IsUnder line.start line.end level.top level.bottom k m

abbrev pub Over : Line → Level → ℕ → ℕ → Type 0
Over line level k m = IsOver line.start line.end level.top level.bottom k m

-- the line is at most the level at each point of the way
abbrev pub StaysUnder : Line → Level → Type 0
StaysUnder line level = (k m : ℕ) → 1 ≤ m → k ≤ m → Under line level k m

-- both lines are at most the level at some point of the way
abbrev pub Meet : Line → Line → Level → Type 0
Meet one two level = SomeFraction (λ k m. Under one level k m × Under two level k m)

-- at each point of the way one of the lines is at least the level
pub record StayAbove (one two : Line) (level : Level) : Type 0 where
  pub above : (k m : ℕ) → 1 ≤ m → k ≤ m → Over one level k m ⊎ Over two level k m

-- the level is above another one
pub record IsHigher (low high : Level) : Type 0 where
  pub higher : low.top * high.bottom < high.top * low.bottom

-- the least level of the greater of two lines is the new one, which is above the best one
pub record IsRaisedTo (one two : Line) (best level : Level) : Type 0 where
  pub higher : IsHigher best level
  pub above : StayAbove one two level
  pub met : Meet one two level

abbrev pub IsRaised : Line → Line → Level → Option Level → Type 0
IsRaised one two best level = MatchOption level (Meet one two best) (λ new. IsRaisedTo one two best new)

-- where a line that starts no lower than another one, and ends lower, crosses it: at this fraction of the way
abbrev pub crossing_top : Line → Line → ℕ
crossing_top upper lower = nat_abs (upper.start -ℤ lower.start)

abbrev pub crossing_bottom : Line → Line → ℕ
crossing_bottom upper lower = nat_abs (upper.start -ℤ lower.start) + nat_abs (lower.end -ℤ upper.end)

-- the level at which the lines cross, which is above the best one
pub record IsCrossing (upper lower : Line) (best level : Level) : Type 0 where
  pub top : pos level.top ≡ way_at upper.start upper.end (crossing_top upper lower) (crossing_bottom upper lower)
  pub bottom : level.bottom ≡ crossing_bottom upper lower
  pub higher : IsHigher best level

-- the line of this number is there
abbrev pub HasLine : List (Option Line) → ℕ → Line → Type 0
HasLine lines number line = slice_index_or lines number None ≡ Some line

-- each line is at most the level at k/m of the way
abbrev pub AllUnder : List (Option Line) → Level → ℕ → ℕ → Type 0
AllUnder lines level k m = (number : ℕ) (line : Line) → HasLine lines number line → Under line level k m

-- the first place at which a line is at most the level; none if it nowhere is
pub record IsEntry (line : Line) (level : Level) (place : Place) : Type 0 where
  pub under : Under line level place.top place.bottom
  pub first : (k m : ℕ) → 1 ≤ m → k ≤ m → Under line level k m → IsAtMost place.top place.bottom k m

abbrev pub IsEntryOf : Line → Level → Option Place → Type 0
IsEntryOf line level place = MatchOption place ((k m : ℕ) → 1 ≤ m → k ≤ m → ¬ Under line level k m) (λ some. IsEntry line level some)
