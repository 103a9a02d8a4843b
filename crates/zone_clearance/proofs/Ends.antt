-- Lines at the two ends of the way.
use Rattle.std.proofs.Common.{◌≡◌, ℕ, arith, ℤ, pos, ◌*ℤ◌, ◌≤ℤ◌}
use Rattle.std.proofs.lemmas.Int.{ints}
use Rattle.joint_clip.specs.Touches.{way_at}
use Rattle.zone_clearance.specs.Levels.{IsUnder, IsOver}
use Rattle.zone_clearance.proofs.Ways.{OnTheWay}

pub at_start : OnTheWay 0 1
at_start = record { some = omega arith; whole = omega arith }

pub at_end : OnTheWay 1 1
at_end = record { some = omega arith; whole = omega arith }

pub way_at-start : (s e : ℤ) → way_at s e 0 1 ≡ s
way_at-start s e = omega (arith, ints)

pub way_at-end : (s e : ℤ) → way_at s e 1 1 ≡ e
way_at-end s e = omega (arith, ints)

pub under_start : (s e : ℤ) (t b : ℕ) → (s *ℤ pos b) ≤ℤ pos t → IsUnder s e t b 0 1
under_start s e t b le = record { under = rw (way_at-start s e) (omega (arith, ints, le)) }

pub under_end : (s e : ℤ) (t b : ℕ) → (e *ℤ pos b) ≤ℤ pos t → IsUnder s e t b 1 1
under_end s e t b le = record { under = rw (way_at-end s e) (omega (arith, ints, le)) }

pub over_start : (s e : ℤ) (t b : ℕ) → pos t ≤ℤ (s *ℤ pos b) → IsOver s e t b 0 1
over_start s e t b le = record { over = rw (way_at-start s e) (omega (arith, ints, le)) }

pub over_end : (s e : ℤ) (t b : ℕ) → pos t ≤ℤ (e *ℤ pos b) → IsOver s e t b 1 1
over_end s e t b le = record { over = rw (way_at-end s e) (omega (arith, ints, le)) }

pub start_under : (s e : ℤ) (t b : ℕ) → IsUnder s e t b 0 1 → (s *ℤ pos b) ≤ℤ pos t
start_under s e t b h = let le = rw (way_at-start s e) at h.under in omega (arith, ints, le)

pub end_under : (s e : ℤ) (t b : ℕ) → IsUnder s e t b 1 1 → (e *ℤ pos b) ≤ℤ pos t
end_under s e t b h = let le = rw (way_at-end s e) at h.under in omega (arith, ints, le)

pub start_over : (s e : ℤ) (t b : ℕ) → IsOver s e t b 0 1 → pos t ≤ℤ (s *ℤ pos b)
start_over s e t b h = let le = rw (way_at-start s e) at h.over in omega (arith, ints, le)

pub end_over : (s e : ℤ) (t b : ℕ) → IsOver s e t b 1 1 → pos t ≤ℤ (e *ℤ pos b)
end_over s e t b h = let le = rw (way_at-end s e) at h.over in omega (arith, ints, le)
