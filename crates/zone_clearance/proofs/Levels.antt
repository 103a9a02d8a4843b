-- One level against another.
use Rattle.std.proofs.Common.{◌≤◌, ◌<◌, ◌+◌, ◌*◌, ℕ, arith, ℤ, pos, ◌+ℤ◌, ◌*ℤ◌, ◌≤ℤ◌, ◌<ℤ◌}
use Rattle.std.proofs.Math.Nat.{mul-le-mul_right}
use Rattle.std.proofs.lemmas.Int.{ints, by_lt_z}
use Rattle.joint_clip.specs.Touches.{way_at}
use Rattle.joint_clip.proofs.Ways.{times-le}
use Rattle.zone_clearance.specs.Levels.{IsUnder, IsOver}
use Rattle.zone_clearance.proofs.Ways.{times-add, times-times}

times-cancel : (a c : ℤ) (n : ℕ) → 1 ≤ n → (a *ℤ pos n) ≤ℤ (c *ℤ pos n) → a ≤ℤ c
times-cancel a c n some le =
    by_lt_z c a
    (λ less. absurd (omega (arith, ints, times-le (c +ℤ pos 1) a n (omega (arith, ints)), times-add c (pos 1) n)))
    (λ more. more)

-- a line under a level is under a higher one, and below one that is higher still
pub under_higher : (s e : ℤ) (t b u d k m : ℕ) → 1 ≤ b → t * d ≤ u * b → IsUnder s e t b k m → IsUnder s e u d k m
under_higher s e t b u d k m some le h =
    let way = way_at s e k m in
    let low : ((way *ℤ pos b) *ℤ pos d) ≤ℤ (pos (t * m) *ℤ pos d) = times-le (way *ℤ pos b) (pos (t * m)) d h.under in
    let high : t * m * d ≤ u * m * b = omega (arith, mul-le-mul_right m le) in
    record { under = times-cancel (way *ℤ pos d) (pos (u * m)) b some (omega (arith, ints, low, high, times-times way b d, times-times way d b)) }

pub over_lower : (s e : ℤ) (t b u d k m : ℕ) → 1 ≤ d → t * d ≤ u * b → IsOver s e u d k m → IsOver s e t b k m
over_lower s e t b u d k m some le h =
    let way = way_at s e k m in
    let high : (pos (u * m) *ℤ pos b) ≤ℤ ((way *ℤ pos d) *ℤ pos b) = times-le (pos (u * m)) (way *ℤ pos d) b h.over in
    let low : t * m * d ≤ u * m * b = omega (arith, mul-le-mul_right m le) in
    record { over = times-cancel (pos (t * m)) (way *ℤ pos b) d some (omega (arith, ints, low, high, times-times way b d, times-times way d b)) }

pub below_higher : (s e : ℤ) (t b u d k m : ℕ) → 1 ≤ b → 1 ≤ m → t * d < u * b → IsUnder s e t b k m → (way_at s e k m *ℤ pos d) <ℤ pos (u * m)
below_higher s e t b u d k m some there less h =
    by_lt_z (way_at s e k m *ℤ pos d) (pos (u * m)) (λ below. below)
    (λ over.
    let way = way_at s e k m in
    let low : ((way *ℤ pos b) *ℤ pos d) ≤ℤ (pos (t * m) *ℤ pos d) = times-le (way *ℤ pos b) (pos (t * m)) d h.under in
    let high : (pos (u * m) *ℤ pos b) ≤ℤ ((way *ℤ pos d) *ℤ pos b) = times-le (pos (u * m)) (way *ℤ pos d) b over in
    let apart : (t * d + 1) * m ≤ u * b * m = mul-le-mul_right m (omega arith) in
    absurd (omega (arith, ints, low, high, apart, times-times way b d, times-times way d b)))

-- a line is under a level or above it
pub above_not_under : (s e : ℤ) (t b k m : ℕ) → ¬ IsUnder s e t b k m → pos (t * m) <ℤ (way_at s e k m *ℤ pos b)
above_not_under s e t b k m not =
    by_lt_z (pos (t * m)) (way_at s e k m *ℤ pos b) (λ above. above) (λ under. absurd (not (record { under = under })))

pub below_not_over : (s e : ℤ) (t b k m : ℕ) → ¬ IsOver s e t b k m → (way_at s e k m *ℤ pos b) <ℤ pos (t * m)
below_not_over s e t b k m not =
    by_lt_z (way_at s e k m *ℤ pos b) (pos (t * m)) (λ below. below) (λ over. absurd (not (record { over = over })))
