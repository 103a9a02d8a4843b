-- The way of an axis, and on which side of a bound it is.
use Rattle.std.proofs.Common.{◌≡◌, ◌≤◌, ◌+◌, ◌-◌, ◌*◌, ℕ, suc, ap, arith, ℤ, pos, negsuc, nat_abs, ◌+ℤ◌, ◌-ℤ◌, ◌*ℤ◌, ◌≤ℤ◌, ◌<ℤ◌}
use Rattle.std.proofs.Math.Nat.{mul-le-mul_right}
use Rattle.std.proofs.lemmas.Int.{ints}
use borrow.Author.Differences.{up, down}
use Rattle.joint_clip.specs.Touches.{way_at}

pub times-sub : (a b : ℤ) (n : ℕ) → (a -ℤ b) *ℤ pos n ≡ (a *ℤ pos n) -ℤ (b *ℤ pos n)
times-sub a b n =
    let balance : up (a -ℤ b) + (down a + up b) ≡ down (a -ℤ b) + (up a + down b) = omega (arith, ints) in
    omega (arith, ints, ap (λ t. t * n) balance)

pub times-le : (a b : ℤ) (n : ℕ) → a ≤ℤ b → (a *ℤ pos n) ≤ℤ (b *ℤ pos n)
times-le a b n le =
    let balance : up a + down b ≤ up b + down a = omega (arith, ints) in
    omega (arith, ints, mul-le-mul_right n balance)

-- the rest of the way and the way so far are the whole
times-split : (a : ℤ) (k m : ℕ) → k ≤ m → a *ℤ pos m ≡ (a *ℤ pos (m - k)) +ℤ (a *ℤ pos k)
times-split a k m way =
    let parts : m ≡ (m - k) + k = omega arith in
    omega (arith, ints, ap (λ t. up a * t) parts, ap (λ t. down a * t) parts)

-- how far the way is above a bound, and below one
pub way_at-above : (p q low : ℤ) (k m : ℕ) → k ≤ m → way_at (p -ℤ low) (q -ℤ low) k m ≡ way_at p q k m -ℤ (low *ℤ pos m)
way_at-above p q low k m way =
    omega (arith, ints, times-sub p low (m - k), times-sub q low k, times-split low k m way)

pub way_at-below : (p q high : ℤ) (k m : ℕ) → k ≤ m → way_at (high -ℤ p) (high -ℤ q) k m ≡ (high *ℤ pos m) -ℤ way_at p q k m
way_at-below p q high k m way =
    omega (arith, ints, times-sub high p (m - k), times-sub high q k, times-split high k m way)

-- a way between two angles on the same side of a bound stays on that side
pub way_at-least : (p q low : ℤ) (k m : ℕ) → k ≤ m → low ≤ℤ p → low ≤ℤ q → (low *ℤ pos m) ≤ℤ way_at p q k m
way_at-least p q low k m way from to =
    omega (arith, ints, times-le low p (m - k) from, times-le low q k to, times-split low k m way)

pub way_at-most : (p q high : ℤ) (k m : ℕ) → k ≤ m → p ≤ℤ high → q ≤ℤ high → way_at p q k m ≤ℤ (high *ℤ pos m)
way_at-most p q high k m way from to =
    omega (arith, ints, times-le p high (m - k) from, times-le q high k to, times-split high k m way)

-- a way that starts outside is inside from the crossing on
pub entered : (u v : ℤ) (k m : ℕ) → k ≤ m → u <ℤ pos 0 → pos 0 ≤ℤ v → pos 0 ≤ℤ way_at u v k m → nat_abs u * m ≤ k * (nat_abs u + nat_abs v)
entered (pos a) v k m way beyond here h = absurd (omega (arith, ints))
entered (negsuc a) (negsuc b) k m way beyond here h = absurd (omega (arith, ints))
entered (negsuc a) (pos b) k m way beyond here h =
    let parts : m ≡ (m - k) + k = omega arith in
    let step : suc a * (m - k) ≤ b * k = omega (arith, ints) in
    omega (arith, ap (λ t. suc a * t) parts)

pub entering : (u v : ℤ) (k m : ℕ) → k ≤ m → u <ℤ pos 0 → pos 0 ≤ℤ v → nat_abs u * m ≤ k * (nat_abs u + nat_abs v) → pos 0 ≤ℤ way_at u v k m
entering (pos a) v k m way beyond here h = absurd (omega (arith, ints))
entering (negsuc a) (negsuc b) k m way beyond here h = absurd (omega (arith, ints))
entering (negsuc a) (pos b) k m way beyond here h =
    let parts : m ≡ (m - k) + k = omega arith in
    let step : suc a * (m - k) ≤ b * k = omega (arith, ap (λ t. suc a * t) parts) in
    omega (arith, ints)

-- a way that ends outside is inside up to the crossing
pub left_by : (u v : ℤ) (k m : ℕ) → k ≤ m → pos 0 ≤ℤ u → v <ℤ pos 0 → pos 0 ≤ℤ way_at u v k m → k * (nat_abs u + nat_abs v) ≤ nat_abs u * m
left_by (negsuc a) v k m way here beyond h = absurd (omega (arith, ints))
left_by (pos a) (pos b) k m way here beyond h = absurd (omega (arith, ints))
left_by (pos a) (negsuc b) k m way here beyond h =
    let parts : m ≡ (m - k) + k = omega arith in
    let step : suc b * k ≤ a * (m - k) = omega (arith, ints) in
    omega (arith, ap (λ t. a * t) parts)

pub leaving : (u v : ℤ) (k m : ℕ) → k ≤ m → pos 0 ≤ℤ u → v <ℤ pos 0 → k * (nat_abs u + nat_abs v) ≤ nat_abs u * m → pos 0 ≤ℤ way_at u v k m
leaving (negsuc a) v k m way here beyond h = absurd (omega (arith, ints))
leaving (pos a) (pos b) k m way here beyond h = absurd (omega (arith, ints))
leaving (pos a) (negsuc b) k m way here beyond h =
    let parts : m ≡ (m - k) + k = omega arith in
    let step : suc b * k ≤ a * (m - k) = omega (arith, ap (λ t. a * t) parts) in
    omega (arith, ints)
