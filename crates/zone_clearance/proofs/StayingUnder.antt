-- Lines that are nowhere above a level.
use Rattle.std.proofs.Common.{◌≡◌, ◌≤◌, ◌↔◌, ℕ, arith, ℤ, pos, ◌-ℤ◌, ◌*ℤ◌, ◌≤ℤ◌, nat_abs, to_z, of_z, w64}
use Rattle.std.specs.Int.{int_max}
use Rattle.std.proofs.lemmas.Int.{ints, clamps, by_lt_z}
use Rattle.joint_clip.proofs.Ways.{way_at-least}
use Rattle.zone_clearance.specs.declared.line.Line.{Line}
use Rattle.zone_clearance.specs.declared.search.level.Level.{Level}
use Rattle.zone_clearance.specs.Levels.{IsUnder, Meet, StaysUnder}
use Rattle.zone_clearance.proofs.Ends.{end_under, start_under}
use Rattle.zone_clearance.proofs.Products.{line_value}
use Rattle.zone_clearance.proofs.Raising.{scaled_le}
use Rattle.zone_clearance.proofs.Ways.{way-under}

-- a line that is at most the level at both ends is so all the way
under_from_ends : (s e : ℤ) (t b k m : ℕ) → (s *ℤ pos b) ≤ℤ pos t → (e *ℤ pos b) ≤ℤ pos t → k ≤ m → IsUnder s e t b k m
under_from_ends s e t b k m start end way =
    way-under s e t b k m way
    (omega (arith, ints, way_at-least (pos t -ℤ (s *ℤ pos b)) (pos t -ℤ (e *ℤ pos b)) (pos 0) k m way (omega (arith, ints)) (omega (arith, ints))))

-- it is so just if its higher end is at most the level
from_higher_end : (line : Line) (level : Level) → (int_max line.start line.end *ℤ pos level.bottom) ≤ℤ pos level.top → StaysUnder line level
from_higher_end line level le k m some way =
    let higher = int_max line.start line.end in
    under_from_ends line.start line.end level.top level.bottom k m
    (scaled_le line.start higher level.top level.bottom (omega (arith, ints, clamps)) le)
    (scaled_le line.end higher level.top level.bottom (omega (arith, ints, clamps)) le) way

to_higher_end : (line : Line) (level : Level) → StaysUnder line level → (int_max line.start line.end *ℤ pos level.bottom) ≤ℤ pos level.top
to_higher_end line level under =
    let start = start_under line.start line.end level.top level.bottom (under 0 1 (omega arith) (omega arith)) in
    let end = end_under line.start line.end level.top level.bottom (under 1 1 (omega arith) (omega arith)) in
    by_lt_z line.start line.end
    (λ less. let is : int_max line.start line.end ≡ line.end = omega (arith, ints, clamps, less) in rw is end)
    (λ more. let is : int_max line.start line.end ≡ line.start = omega (arith, ints, clamps, more) in rw is start)

-- the same as the code computes it
pub higher_end : (line : Line) (level : Level) (higher : ℤ) → higher ≡ int_max (to_z w64 (of_z w64 line.start)) (to_z w64 (of_z w64 line.end))
    → ((to_z w64 (of_z w64 higher) *ℤ pos level.bottom) ≤ℤ pos level.top) ↔ StaysUnder line level
higher_end line level higher read =
    let is = rw (line_value line.start line.small_start, line_value line.end line.small_end) at read in
    let small : nat_abs higher ≤ 200_000_000 = omega (arith, ints, clamps, is, line.small_start, line.small_end) in
    let same = line_value higher small in
    rw (same, is) (from_higher_end line level, to_higher_end line level)

-- a line that meets the level with any other one does so with a line that is nowhere above it
pub met_with : (any line other : Line) (level : Level) → StaysUnder line level → Meet any other level → Meet line other level
met_with any line other level under met = record {
  k = met.k;
  m = met.m;
  whole = met.whole;
  on_the_way = met.on_the_way;
  holds = (under met.k met.m met.whole met.on_the_way, met.holds.1);
}
