-- The same level and the same place as other fractions.
use Rattle.std.proofs.Common.{◌≡◌, ◌≤◌, ◌*◌, ℕ, arith, ℤ}
use Rattle.joint_clip.specs.Parts.{IsAtMost}
use Rattle.joint_clip.proofs.Fractions.{at_most-trans}
use Rattle.zone_clearance.specs.Levels.{IsUnder, IsOver}
use Rattle.zone_clearance.proofs.Levels.{over_lower, under_higher}
use Rattle.zone_clearance.proofs.Ways.{OnTheWay, under_between}

-- t/b is u/d
pub record IsSameFraction (t b u d : ℕ) : Type 0 where
  pub some : 1 ≤ b
  pub other : 1 ≤ d
  pub same : u * b ≡ t * d

pub same_back : (t b u d : ℕ) → IsSameFraction t b u d → IsSameFraction u d t b
same_back t b u d same = record { some = same.other; other = same.some; same = omega (arith, same.same) }

pub scaled_under : (s e : ℤ) (t b u d k m : ℕ) → IsSameFraction t b u d → IsUnder s e t b k m → IsUnder s e u d k m
scaled_under s e t b u d k m same under = under_higher s e t b u d k m same.some (omega (arith, same.same)) under

pub scaled_over : (s e : ℤ) (t b u d k m : ℕ) → IsSameFraction t b u d → IsOver s e t b k m → IsOver s e u d k m
scaled_over s e t b u d k m same over = over_lower s e u d t b k m same.some (omega (arith, same.same)) over

pub moved_under : (s e : ℤ) (t b k m x y : ℕ) → OnTheWay k m → OnTheWay x y → IsSameFraction k m x y → IsUnder s e t b k m → IsUnder s e t b x y
moved_under s e t b k m x y from to same under =
    under_between s e t b k m k m x y from from to (record { across = omega (arith, same.same) }) (record { across = omega (arith, same.same) }) under under

pub moved_at_most : (k m x y i n : ℕ) → IsSameFraction k m x y → IsAtMost k m i n → IsAtMost x y i n
moved_at_most k m x y i n same before = at_most-trans x y k m i n same.some (record { across = omega (arith, same.same) }) before
