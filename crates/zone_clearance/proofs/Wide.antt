-- Products and sums in 128 bits: a line at a place, and its comparison with a fraction.
use Rattle.std.proofs.Common.{◌≡◌, ◌≤◌, ◌<◌, ◌+◌, ◌-◌, ◌*◌, ◌/◌, ◌^◌, ◌↔◌, ℕ, true, leb, ap, sym, ◌∙◌, subst, inl, inr, arith, ℤ, pos, nat_abs, ◌+ℤ◌, ◌*ℤ◌, ◌≤ℤ◌, w64, to_z, of_z, FitsSigned}
use Rattle.std.specs.Int.{div_ceil, w128}
use Rattle.std.proofs.Math.Nat.{le-div_iff_mul-le, mul-le-mul_right}
use Rattle.std.proofs.lemmas.Bool.{cases_lt, le-leb, leb-true}
use Rattle.std.proofs.lemmas.Grind.{div_ceil_times}
use Rattle.std.proofs.lemmas.Int.{ints, fits_signed_from_abs, to_z-of_z}
use Rattle.joint_clip.specs.Touches.{way_at}
use Rattle.zone_clearance.proofs.Products.{line_value, nat_abs-product}

-- at most the sum of two products of a line's value and a number below 2^60
pub wide_fits : (x : ℤ) → nat_abs x ≤ 461168601842738790400000000 → FitsSigned w128 x
wide_fits x small = fits_signed_from_abs w128 x (omega (arith, small))

pub wide : (x : ℤ) → nat_abs x ≤ 461168601842738790400000000 → to_z w128 (of_z w128 x) ≡ x
wide x small = to_z-of_z w128 x (wide_fits x small)

part_small : (a : ℤ) (n : ℕ) → nat_abs a ≤ 200_000_000 → n < 2 ^ 60 → nat_abs (a *ℤ pos n) ≤ 230584300921369395200000000
part_small a n small few = nat_abs-product a (pos n) 200_000_000 1152921504606846976 small (omega (arith, few))

pub part_value : (x y a : ℤ) (n : ℕ) → nat_abs a ≤ 200_000_000 → n < 2 ^ 60 → x ≡ to_z w64 (of_z w64 a) → y ≡ pos n
    → to_z w128 (of_z w128 (to_z w128 (of_z w128 x) *ℤ to_z w128 (of_z w128 y))) ≡ a *ℤ pos n
part_value x y a n small few one two =
    let first : to_z w128 (of_z w128 x) ≡ a = ap (λ (z : ℤ). to_z w128 (of_z w128 z)) (one ∙ line_value a small) ∙ wide a (omega (arith, small)) in
    let second : to_z w128 (of_z w128 y) ≡ pos n = ap (λ (z : ℤ). to_z w128 (of_z w128 z)) two ∙ wide (pos n) (omega (arith, few)) in
    ap (λ (z : ℤ). to_z w128 (of_z w128 (z *ℤ to_z w128 (of_z w128 y)))) first ∙ ap (λ (z : ℤ). to_z w128 (of_z w128 (a *ℤ z))) second
    ∙ wide (a *ℤ pos n) (let short = part_small a n small few in omega (arith, short))

sum_small : (x y : ℤ) → nat_abs x ≤ 230584300921369395200000000 → nat_abs y ≤ 230584300921369395200000000 → nat_abs (x +ℤ y) ≤ 461168601842738790400000000
sum_small x y one two = omega (arith, ints, one, two)

pub sum_fits : (u v a b : ℤ) (m n : ℕ) → nat_abs a ≤ 200_000_000 → m < 2 ^ 60 → nat_abs b ≤ 200_000_000 → n < 2 ^ 60 → u ≡ a *ℤ pos m → v ≡ b *ℤ pos n → FitsSigned w128 (u +ℤ v)
sum_fits u v a b m n one few two less first second =
    subst (λ (x : ℤ). FitsSigned w128 (x +ℤ v)) (sym first)
    (subst (λ (y : ℤ). FitsSigned w128 ((a *ℤ pos m) +ℤ y)) (sym second) (wide_fits _ (sum_small (a *ℤ pos m) (b *ℤ pos n) (part_small a m one few) (part_small b n two less))))

pub way_small : (s e : ℤ) (k m : ℕ) → nat_abs s ≤ 200_000_000 → nat_abs e ≤ 200_000_000 → k ≤ m → m < 2 ^ 60 → nat_abs (way_at s e k m) ≤ 461168601842738790400000000
way_small s e k m one two way few =
    sum_small (s *ℤ pos (m - k)) (e *ℤ pos k) (part_small s (m - k) one (omega (arith, few))) (part_small e k two (omega (arith, way, few)))

pub sum_value : (u v s e : ℤ) (k m : ℕ) → nat_abs s ≤ 200_000_000 → nat_abs e ≤ 200_000_000 → k ≤ m → m < 2 ^ 60 → u ≡ s *ℤ pos (m - k) → v ≡ e *ℤ pos k → to_z w128 (of_z w128 (u +ℤ v)) ≡ way_at s e k m
sum_value u v s e k m one two way few first second =
    ap (λ (x : ℤ). to_z w128 (of_z w128 (x +ℤ v))) first ∙ ap (λ (y : ℤ). to_z w128 (of_z w128 ((s *ℤ pos (m - k)) +ℤ y))) second
    ∙ wide (way_at s e k m) (way_small s e k m one two way few)

-- as the code reads a line at a place
pub way_read : (way s e : ℤ) (k m : ℕ) → nat_abs s ≤ 200_000_000 → nat_abs e ≤ 200_000_000 → k ≤ m → m < 2 ^ 60 → way ≡ way_at s e k m → to_z w128 (of_z w128 way) ≡ way_at s e k m
way_read way s e k m one two on_the_way few is =
    ap (λ (x : ℤ). to_z w128 (of_z w128 x)) is ∙ wide (way_at s e k m) (way_small s e k m one two on_the_way few)

-- a quotient against a number, by the product
size_is : (x : ℤ) → pos 0 ≤ℤ x → pos (nat_abs x) ≡ x
size_is x some = omega (arith, ints)

times_size : (x : ℤ) (b : ℕ) → pos 0 ≤ℤ x → x *ℤ pos b ≡ pos (nat_abs x * b)
times_size x b some = ap (λ (y : ℤ). y *ℤ pos b) (sym (size_is x some))

pub quotient_under : (x : ℤ) (b l : ℕ) → 1 ≤ b → pos 0 ≤ℤ x → (leb (nat_abs x) (l / b) ≡ true) ↔ ((x *ℤ pos b) ≤ℤ pos l)
quotient_under x b l some above = (there, back)
  where
    there : leb (nat_abs x) (l / b) ≡ true → (x *ℤ pos b) ≤ℤ pos l
    there le =
        let product : nat_abs x * b ≤ l = (le-div_iff_mul-le {k = b} {x = nat_abs x} {y = l} some).0 (leb-true (nat_abs x) (l / b) le) in
        omega (arith, ints, times_size x b above, product)

    back : (x *ℤ pos b) ≤ℤ pos l → leb (nat_abs x) (l / b) ≡ true
    back le =
        let product : nat_abs x * b ≤ l = omega (arith, ints, times_size x b above, le) in
        le-leb (nat_abs x) (l / b) ((le-div_iff_mul-le {k = b} {x = nat_abs x} {y = l} some).1 product)

ceil_le : (n b l : ℕ) → 1 ≤ b → (div_ceil l b ≤ n) ↔ (l ≤ n * b)
ceil_le n b l some = (there, back)
  where
    there : div_ceil l b ≤ n → l ≤ n * b
    there le =
        let bounds = div_ceil_times l b some in
        let more : div_ceil l b * b ≤ n * b = mul-le-mul_right b le in
        omega (arith, bounds.0, more)

    back : l ≤ n * b → div_ceil l b ≤ n
    back le =
        elim (cases_lt n (div_ceil l b)) [
          | inl less ↦
              let bounds = div_ceil_times l b some in
              let step : n + 1 ≤ div_ceil l b = omega (arith, less) in
              let more : (n + 1) * b ≤ div_ceil l b * b = mul-le-mul_right b step in
              absurd (omega (arith, bounds.1, more, le))
          | inr more ↦ more
        ]

pub quotient_over : (x : ℤ) (b l : ℕ) → 1 ≤ b → pos 0 ≤ℤ x → (leb (div_ceil l b) (nat_abs x) ≡ true) ↔ (pos l ≤ℤ (x *ℤ pos b))
quotient_over x b l some above = (there, back)
  where
    there : leb (div_ceil l b) (nat_abs x) ≡ true → pos l ≤ℤ (x *ℤ pos b)
    there le =
        let product : l ≤ nat_abs x * b = (ceil_le (nat_abs x) b l some).0 (leb-true (div_ceil l b) (nat_abs x) le) in
        omega (arith, ints, times_size x b above, product)

    back : pos l ≤ℤ (x *ℤ pos b) → leb (div_ceil l b) (nat_abs x) ≡ true
    back le =
        let product : l ≤ nat_abs x * b = omega (arith, ints, times_size x b above, le) in
        le-leb (div_ceil l b) (nat_abs x) ((ceil_le (nat_abs x) b l some).1 product)
