-- Where two lines cross between the ends of a segment.
use Rattle.std.specs.Prelude.{◌≡◌, ◌≤◌, ◌*◌, ◌⊎◌, ℕ, ◌≤ℤ◌}
use Rattle.joint_clip.specs.Touches.{way_at}
use Rattle.zone_clearance.specs.declared.line.Line.{Line}
use Rattle.zone_clearance.specs.declared.place.Place.{Place}

-- one of the lines is at neither end below the other
abbrev pub NeverCross : Line → Line → Type 0
NeverCross one two = ((two.start ≤ℤ one.start) × (two.end ≤ℤ one.end)) ⊎ ((one.start ≤ℤ two.start) × (one.end ≤ℤ two.end))

-- the lines are equal at this place, and nowhere else
pub record IsCrossingPlace (one two : Line) (place : Place) : Type 0 where
  pub same : way_at one.start one.end place.top place.bottom ≡ way_at two.start two.end place.top place.bottom
  pub only : (k m : ℕ) → k ≤ m → way_at one.start one.end k m ≡ way_at two.start two.end k m → k * place.bottom ≡ place.top * m
