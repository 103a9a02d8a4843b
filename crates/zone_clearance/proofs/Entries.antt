-- Where a line comes down to a level.
use Rattle.std.proofs.Common.{◌≡◌, ◌≤◌, ◌<◌, ◌+◌, ◌-◌, ◌*◌, ◌^◌, ℕ, ap, sym, ◌∙◌, subst, arith, ℤ, pos, negsuc, nat_abs, ◌-ℤ◌, ◌*ℤ◌, ◌≤ℤ◌, ◌<ℤ◌, to_z, of_z, w64}
use Rattle.std.proofs.lemmas.Int.{ints, by_lt_z}
use Rattle.std.proofs.lemmas.Nat.{mul-le}
use Rattle.joint_clip.specs.Parts.{IsAtMost}
use Rattle.joint_clip.specs.Touches.{way_at}
use Rattle.joint_clip.proofs.Fractions.{at_most-trans}
use Rattle.joint_clip.proofs.Ways.{entered, entering, times-le, times-sub, way_at-most}
use Rattle.zone_clearance.specs.declared.line.Line.{Line}
use Rattle.zone_clearance.specs.declared.search.level.Level.{Level}
use Rattle.zone_clearance.specs.Levels.{IsUnder, IsOver}
use Rattle.zone_clearance.proofs.Products.{line_value, positive_from_product}
use Rattle.zone_clearance.proofs.Ways.{OnTheWay, above_level, under-way, way-under}

-- a line that is above the level at both ends is nowhere at most the level
pub never_under : (s e : ℤ) (t b k m : ℕ) → pos t <ℤ (s *ℤ pos b) → pos t <ℤ (e *ℤ pos b) → 1 ≤ m → k ≤ m → ¬ IsUnder s e t b k m
never_under s e t b k m start end some way under =
    omega (arith, ints, under-way s e t b k m way under, way_at-most (pos t -ℤ (s *ℤ pos b)) (pos t -ℤ (e *ℤ pos b)) (negsuc 0) k m way (omega (arith, ints)) (omega (arith, ints)))

-- the fraction of the way at which a falling line reaches the level
pub record IsFall (s e : ℤ) (t b k m : ℕ) : Type 0 where
  pub top : pos k ≡ (s *ℤ pos b) -ℤ pos t
  pub bottom : pos m ≡ (s *ℤ pos b) -ℤ (e *ℤ pos b)

pub fall_under : (s e : ℤ) (t b k m : ℕ) → pos t <ℤ (s *ℤ pos b) → (e *ℤ pos b) ≤ℤ pos t → IsFall s e t b k m → IsUnder s e t b k m
fall_under s e t b k m start end fall =
    let u = pos t -ℤ (s *ℤ pos b) in
    let v = pos t -ℤ (e *ℤ pos b) in
    let top : nat_abs u ≡ k = omega (arith, ints, fall.top) in
    let bottom : nat_abs u + nat_abs v ≡ m = omega (arith, ints, fall.bottom) in
    way-under s e t b k m (omega (arith, ints, fall.top, fall.bottom))
    (entering u v k m (omega (arith, ints, fall.top, fall.bottom)) (omega (arith, ints)) (omega (arith, ints)) (rw (bottom, top) (omega arith)))

pub fall_first : (s e : ℤ) (t b k m i n : ℕ) → pos t <ℤ (s *ℤ pos b) → (e *ℤ pos b) ≤ℤ pos t → IsFall s e t b k m → i ≤ n → IsUnder s e t b i n → IsAtMost k m i n
fall_first s e t b k m i n start end fall way under =
    let u = pos t -ℤ (s *ℤ pos b) in
    let v = pos t -ℤ (e *ℤ pos b) in
    let top : nat_abs u ≡ k = omega (arith, ints, fall.top) in
    let bottom : nat_abs u + nat_abs v ≡ m = omega (arith, ints, fall.bottom) in
    record { across = rw (bottom, top) at (entered u v i n way (omega (arith, ints)) (omega (arith, ints)) (under-way s e t b i n way under)) }

-- the same as the code computes it
ends_apart : (s e : ℤ) (t b : ℕ) → pos t <ℤ (s *ℤ pos b) → (e *ℤ pos b) ≤ℤ pos t → e <ℤ s
ends_apart s e t b start end =
    by_lt_z e s (λ less. less) (λ more. absurd (omega (arith, ints, times-le s e b more)))

computed_fall : (s e : ℤ) (t b n d : ℕ) → pos t <ℤ (s *ℤ pos b) → (e *ℤ pos b) ≤ℤ pos t → n ≡ nat_abs s → d ≡ nat_abs (s -ℤ e) → IsFall s e t b (n * b - t) (d * b)
computed_fall s e t b n d start end size is =
    let positive : pos n ≡ s = omega (arith, ints, positive_from_product s t b start) in
    let apart : pos d ≡ s -ℤ e = omega (arith, ints, is, ends_apart s e t b start end) in
    record {
      top = omega (arith, ints, start, ap (λ (x : ℤ). x *ℤ pos b) positive);
      bottom = ap (λ (x : ℤ). x *ℤ pos b) apart ∙ times-sub s e b;
    }

pub line_fall : (line : Line) (level : Level) (n d : ℕ) → pos level.top <ℤ (line.start *ℤ pos level.bottom) → (line.end *ℤ pos level.bottom) ≤ℤ pos level.top
    → n ≡ nat_abs (to_z w64 (of_z w64 line.start)) → d ≡ nat_abs (to_z w64 (of_z w64 line.start) -ℤ to_z w64 (of_z w64 line.end))
    → IsFall line.start line.end level.top level.bottom (n * level.bottom - level.top) (d * level.bottom)
line_fall line level n d start end size apart =
    let first = line_value line.start line.small_start in
    let last = line_value line.end line.small_end in
    computed_fall line.start line.end level.top level.bottom n d start end (rw first at size) (rw (first, last) at apart)

pub fall_on_the_way : (s e : ℤ) (t b k m : ℕ) → pos t <ℤ (s *ℤ pos b) → (e *ℤ pos b) ≤ℤ pos t → IsFall s e t b k m → OnTheWay k m
fall_on_the_way s e t b k m start end fall =
    record { some = omega (arith, ints, fall.top, fall.bottom); whole = omega (arith, ints, fall.top, fall.bottom) }

pub fall_small : (d b : ℕ) → d ≤ 400_000_000 → b ≤ 800_000_000 → d * b < 2 ^ 60
fall_small d b one two = omega (arith, mul-le d b 400_000_000 800_000_000 one two)

-- the way of a falling line, by the fraction at which it reaches the level
falling_way : (x y k m : ℕ) (v : ℤ) → k ≤ m → v ≡ pos x -ℤ pos y → way_at (pos x) v k m ≡ pos (x * m) -ℤ pos (y * k)
falling_way x y k m v way is =
    let parts : m ≡ (m - k) + k = omega arith in
    rw is (omega (arith, ints, times-sub (pos x) (pos y) k, ap (λ n. x * n) parts))

pub fall_along : (s e : ℤ) (t b x y k m : ℕ) → k ≤ m → IsFall s e t b x y → (way_at s e k m *ℤ pos b) -ℤ pos (t * m) ≡ pos (x * m) -ℤ pos (y * k)
fall_along s e t b x y k m way fall =
    sym (above_level s e t b k m way)
    ∙ subst (λ (u : ℤ). way_at u ((e *ℤ pos b) -ℤ pos t) k m ≡ pos (x * m) -ℤ pos (y * k)) fall.top
    (falling_way x y k m ((e *ℤ pos b) -ℤ pos t) way (omega (arith, ints, fall.top, fall.bottom)))

-- it exists where the line starts above the level and is not above it somewhere
pub record SomeFall (s e : ℤ) (t b : ℕ) : Type 0 where
  pub k : ℕ
  pub m : ℕ
  pub here : OnTheWay k m
  pub fall : IsFall s e t b k m

fall_of_ends : (s e : ℤ) (t b : ℕ) → pos t <ℤ (s *ℤ pos b) → (e *ℤ pos b) ≤ℤ pos t → SomeFall s e t b
fall_of_ends s e t b start end = record {
  k = nat_abs ((s *ℤ pos b) -ℤ pos t);
  m = nat_abs ((s *ℤ pos b) -ℤ (e *ℤ pos b));
  here = record { some = omega (arith, ints); whole = omega (arith, ints) };
  fall = record { top = omega (arith, ints); bottom = omega (arith, ints) };
}

pub fall_of : (s e : ℤ) (t b k m : ℕ) → OnTheWay k m → pos t <ℤ (s *ℤ pos b) → IsUnder s e t b k m → SomeFall s e t b
fall_of s e t b k m here start under =
    by_lt_z (pos t) (e *ℤ pos b)
    (λ above. absurd (never_under s e t b k m start above here.some here.whole under))
    (λ below. fall_of_ends s e t b start below)

-- a line that starts above the level, and is at least the level at a place, is nowhere at most the level before that
pub arrives_first : (s e : ℤ) (t b k m i n : ℕ) → k ≤ m → OnTheWay i n → pos t <ℤ (s *ℤ pos b) → IsOver s e t b k m → IsUnder s e t b i n → IsAtMost k m i n
arrives_first s e t b k m i n way there start over under =
    let some = fall_of s e t b i n there start under in
    let at_most : IsAtMost k m some.k some.m = record { across = omega (arith, ints, over.over, fall_along s e t b some.k some.m k m way some.fall) } in
    let after : IsAtMost some.k some.m i n = record { across = omega (arith, ints, under.under, fall_along s e t b some.k some.m i n there.whole some.fall) } in
    at_most-trans k m some.k some.m i n some.here.some at_most after

-- a place at which a line is at most a level, from a place on and before another one at which the line is below it
pub record IsEarlier (s e : ℤ) (t b i n k m : ℕ) : Type 0 where
  pub x : ℕ
  pub y : ℕ
  pub here : OnTheWay x y
  pub after : IsAtMost i n x y
  pub before : x * m < k * y
  pub under : IsUnder s e t b x y

pub fall_before : (s e : ℤ) (t b i n k m : ℕ) → OnTheWay i n → OnTheWay k m → pos t <ℤ (s *ℤ pos b) → pos (t * n) <ℤ (way_at s e i n *ℤ pos b) → (way_at s e k m *ℤ pos b) <ℤ pos (t * m) → IsEarlier s e t b i n k m
fall_before s e t b i n k m first last start above below =
    let some = fall_of s e t b k m last start (record { under = omega (arith, ints, below) }) in
    record {
      x = some.k;
      y = some.m;
      here = some.here;
      after = record { across = omega (arith, ints, above, fall_along s e t b some.k some.m i n first.whole some.fall) };
      before = omega (arith, ints, below, fall_along s e t b some.k some.m k m last.whole some.fall);
      under = record { under = omega (arith, ints, fall_along s e t b some.k some.m some.k some.m some.here.whole some.fall) };
    }
