-- The best pair of lines: the first one of which the greater line has the greatest least level.
use Rattle.std.specs.Prelude.{◌≡◌, ◌≤◌, ◌*◌, ℕ, pos, ◌*ℤ◌, ◌<ℤ◌, List, Option}
use Rattle.joint_clip.specs.Touches.{SomeFraction, way_at}
use Rattle.zone_clearance.specs.declared.line.Line.{Line}
use Rattle.zone_clearance.specs.declared.search.level.Level.{Level}
use Rattle.zone_clearance.specs.declared.search.best.Best.{Best}
use Rattle.zone_clearance.specs.Sides.{ComesBefore}
use Rattle.zone_clearance.specs.Levels.{HasLine, Meet, StayAbove}

-- a line is below a level at k/m of the way
pub record IsBelow (line : Line) (level : Level) (k m : ℕ) : Type 0 where
  pub below : (way_at line.start line.end k m *ℤ pos level.bottom) <ℤ pos (level.top * m)

-- both lines are below the level at some point of the way
abbrev pub Dip : Line → Line → Level → Type 0
Dip one two level = SomeFraction (λ k m. IsBelow one level k m × IsBelow two level k m)

-- the numbers of two lines, none after the second
pub record IsPair (lines : List (Option Line)) (first second : ℕ) (one two : Line) : Type 0 where
  pub ordered : first ≤ second
  pub first_line : HasLine lines first one
  pub second_line : HasLine lines second two

-- the best pair stays above its level, and the pairs before it do not
pub record IsTop (lines : List (Option Line)) (best : Best) : Type 0 where
  pub one : Line
  pub two : Line
  pub pair : IsPair lines best.first best.second one two
  pub above : StayAbove one two best.level
  pub none_before : (first second : ℕ) (l r : Line) → ComesBefore first second best.first best.second → IsPair lines first second l r → Dip l r best.level

-- it is the best one of the pairs before first and second: each meets the level
pub record IsBestBefore (lines : List (Option Line)) (best : Best) (first second : ℕ) : Type 0 where
  pub top : IsTop lines best
  pub met : (i j : ℕ) (l r : Line) → ComesBefore i j first second → IsPair lines i j l r → Meet l r best.level

-- it is the best one of all: any two lines meet its level
pub record IsBest (lines : List (Option Line)) (best : Best) : Type 0 where
  pub top : IsTop lines best
  pub met : (i j : ℕ) (l r : Line) → HasLine lines i l → HasLine lines j r → Meet l r best.level

-- line 0 is 0 all the way
pub record IsZero (lines : List (Option Line)) : Type 0 where
  pub line : Line
  pub there : HasLine lines 0 line
  pub start : line.start ≡ pos 0
  pub end : line.end ≡ pos 0
