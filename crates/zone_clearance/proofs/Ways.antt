-- A line against a level, by the side of 0 on which their difference is.
use Rattle.std.proofs.Common.{◌≡◌, ◌≤◌, ◌+◌, ◌-◌, ◌*◌, ℕ, ap, ◌∙◌, arith, ℤ, pos, negsuc, nat_abs, ◌+ℤ◌, ◌-ℤ◌, ◌*ℤ◌, ◌≤ℤ◌}
use Rattle.std.proofs.lemmas.Int.{ints, by_lt_z}
use borrow.Author.Differences.{up, down}
use Rattle.joint_clip.specs.Parts.{IsAtMost}
use Rattle.joint_clip.specs.Touches.{way_at}
use Rattle.joint_clip.proofs.Fractions.{at_most-trans}
use Rattle.joint_clip.proofs.Ways.{way_at-above, way_at-below, way_at-least, way_at-most, entered, entering, left_by, leaving}
use Rattle.zone_clearance.specs.Levels.{IsUnder, IsOver}

pub times-times : (a : ℤ) (b n : ℕ) → (a *ℤ pos b) *ℤ pos n ≡ a *ℤ pos (b * n)
times-times a b n =
    let balance : up (a *ℤ pos b) + down a * b ≡ down (a *ℤ pos b) + up a * b = omega (arith, ints) in
    omega (arith, ints, ap (λ t. t * n) balance)

pub times-add : (a c : ℤ) (n : ℕ) → (a +ℤ c) *ℤ pos n ≡ (a *ℤ pos n) +ℤ (c *ℤ pos n)
times-add a c n =
    let balance : up (a +ℤ c) + (down a + down c) ≡ down (a +ℤ c) + (up a + up c) = omega (arith, ints) in
    omega (arith, ints, ap (λ t. t * n) balance)

way_at-times : (s e : ℤ) (k m b : ℕ) → way_at (s *ℤ pos b) (e *ℤ pos b) k m ≡ way_at s e k m *ℤ pos b
way_at-times s e k m b =
    omega (arith, ints, times-times s b (m - k), times-times e b k, times-add (s *ℤ pos (m - k)) (e *ℤ pos k) b, times-times s (m - k) b, times-times e k b)

-- how far a line is below a level, and above it
below_level : (s e : ℤ) (t b k m : ℕ) → k ≤ m → way_at (pos t -ℤ (s *ℤ pos b)) (pos t -ℤ (e *ℤ pos b)) k m ≡ pos (t * m) -ℤ (way_at s e k m *ℤ pos b)
below_level s e t b k m way =
    way_at-below (s *ℤ pos b) (e *ℤ pos b) (pos t) k m way ∙ ap (λ (x : ℤ). pos (t * m) -ℤ x) (way_at-times s e k m b)

pub above_level : (s e : ℤ) (t b k m : ℕ) → k ≤ m → way_at ((s *ℤ pos b) -ℤ pos t) ((e *ℤ pos b) -ℤ pos t) k m ≡ (way_at s e k m *ℤ pos b) -ℤ pos (t * m)
above_level s e t b k m way =
    way_at-above (s *ℤ pos b) (e *ℤ pos b) (pos t) k m way ∙ ap (λ (x : ℤ). x -ℤ pos (t * m)) (way_at-times s e k m b)

pub under-way : (s e : ℤ) (t b k m : ℕ) → k ≤ m → IsUnder s e t b k m → pos 0 ≤ℤ way_at (pos t -ℤ (s *ℤ pos b)) (pos t -ℤ (e *ℤ pos b)) k m
under-way s e t b k m way h = omega (arith, ints, below_level s e t b k m way, h.under)

pub way-under : (s e : ℤ) (t b k m : ℕ) → k ≤ m → pos 0 ≤ℤ way_at (pos t -ℤ (s *ℤ pos b)) (pos t -ℤ (e *ℤ pos b)) k m → IsUnder s e t b k m
way-under s e t b k m way h = record { under = omega (arith, ints, below_level s e t b k m way, h) }

pub over-way : (s e : ℤ) (t b k m : ℕ) → k ≤ m → IsOver s e t b k m → pos 0 ≤ℤ way_at ((s *ℤ pos b) -ℤ pos t) ((e *ℤ pos b) -ℤ pos t) k m
over-way s e t b k m way h = omega (arith, ints, above_level s e t b k m way, h.over)

pub way-over : (s e : ℤ) (t b k m : ℕ) → k ≤ m → pos 0 ≤ℤ way_at ((s *ℤ pos b) -ℤ pos t) ((e *ℤ pos b) -ℤ pos t) k m → IsOver s e t b k m
way-over s e t b k m way h = record { over = omega (arith, ints, above_level s e t b k m way, h) }

-- a fraction of the way
pub record OnTheWay (k m : ℕ) : Type 0 where
  pub some : 1 ≤ m
  pub whole : k ≤ m

-- what is not negative at two places of the way is not negative between them
between : (u v : ℤ) (a b c d k m : ℕ) → OnTheWay a b → OnTheWay c d → OnTheWay k m → IsAtMost a b k m → IsAtMost k m c d
    → pos 0 ≤ℤ way_at u v a b → pos 0 ≤ℤ way_at u v c d → pos 0 ≤ℤ way_at u v k m
between u v a b c d k m one two here after before first last =
    by_lt_z u (pos 0)
    (λ below.
    by_lt_z v (pos 0)
    (λ beyond. absurd (omega (arith, ints, one.some, first, way_at-most u v (negsuc 0) a b one.whole (omega (arith, ints)) (omega (arith, ints)))))
    (λ inner.
    let entry : IsAtMost (nat_abs u) (nat_abs u + nat_abs v) a b = record { across = entered u v a b one.whole below inner first } in
    entering u v k m here.whole below inner (at_most-trans (nat_abs u) (nat_abs u + nat_abs v) a b k m one.some entry after).across))
    (λ above.
    by_lt_z v (pos 0)
    (λ beyond.
    let leave : IsAtMost c d (nat_abs u) (nat_abs u + nat_abs v) = record { across = left_by u v c d two.whole above beyond last } in
    leaving u v k m here.whole above beyond (at_most-trans k m c d (nat_abs u) (nat_abs u + nat_abs v) two.some before leave).across)
    (λ inner. omega (arith, ints, way_at-least u v (pos 0) k m here.whole above inner)))

pub under_between : (s e : ℤ) (t n a b c d k m : ℕ) → OnTheWay a b → OnTheWay c d → OnTheWay k m → IsAtMost a b k m → IsAtMost k m c d
    → IsUnder s e t n a b → IsUnder s e t n c d → IsUnder s e t n k m
under_between s e t n a b c d k m one two here after before first last =
    way-under s e t n k m here.whole
    (between _ _ a b c d k m one two here after before (under-way s e t n a b one.whole first) (under-way s e t n c d two.whole last))

pub over_between : (s e : ℤ) (t n a b c d k m : ℕ) → OnTheWay a b → OnTheWay c d → OnTheWay k m → IsAtMost a b k m → IsAtMost k m c d
    → IsOver s e t n a b → IsOver s e t n c d → IsOver s e t n k m
over_between s e t n a b c d k m one two here after before first last =
    way-over s e t n k m here.whole
    (between _ _ a b c d k m one two here after before (over-way s e t n a b one.whole first) (over-way s e t n c d two.whole last))

-- a line that is over at both ends is over all the way
pub over_from_ends : (s e : ℤ) (t n k m : ℕ) → OnTheWay k m → IsOver s e t n 0 1 → IsOver s e t n 1 1 → IsOver s e t n k m
over_from_ends s e t n k m here start end =
    over_between s e t n 0 1 1 1 k m (record { some = omega arith; whole = omega arith }) (record { some = omega arith; whole = omega arith }) here
    (record { across = omega arith }) (record { across = omega (arith, here.whole) }) start end
