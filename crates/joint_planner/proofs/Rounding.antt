-- A rounded part of a distance lies on the way.
use Rattle.std.proofs.Common.{◌≡◌, ℕ, zero, suc, ◌+◌, ◌*◌, ◌/◌, ◌%◌, ◌-◌, ◌≤◌, ◌<◌, ap, sym, add-one, ◌∙◌, arith, ℤ, pos, negsuc, ◌+ℤ◌, ◌-ℤ◌, ◌*ℤ◌, neg_ℤ, nat_abs, ◌≤ℤ◌, ◌⊎◌, inl, inr}
use Rattle.std.proofs.Math.Nat.{mul-le-mul_left}
use Rattle.std.specs.Int.{div_ceil}
use Rattle.std.proofs.lemmas.Bool.{cases_eq}
use Rattle.std.proofs.lemmas.Nat.{div_below, div-mul-add, div-add-mod', mod_below}
use Rattle.std.proofs.lemmas.Int.{ints}
use Rattle.rapid_num.specs.Arithmetic.{rounded, rounded_ratio}

-- a part of a is at most a
pub rounded-part_le : (a j n : ℕ) → 1 ≤ n → j ≤ n → rounded (a * j) n ≤ a
rounded-part_le a j n some part =
    let below : rounded (a * j) n < a + 1 = div_below (2 * (a * j) + n) (2 * n) (a + 1) (omega arith) (omega (arith, mul-le-mul_left a part)) in
    omega arith

-- the whole of a is a
pub rounded-whole : (a n : ℕ) → 1 ≤ n → rounded (a * n) n ≡ a
rounded-whole a n some =
    let same : 2 * (a * n) + n ≡ a * (2 * n) + n = omega arith in
    ap (λ t. t / (2 * n)) same ∙ div-mul-add a (2 * n) n (omega arith)

-- r lies between zero and z
pub record IsOnWay (z r : ℤ) : Type 0 where
  pub between : ((pos 0 ≤ℤ r) × (r ≤ℤ z)) ⊎ ((z ≤ℤ r) × (r ≤ℤ pos 0))

pub rounded_ratio-neg : (m n : ℕ) → 1 ≤ n → rounded_ratio (neg_ℤ (pos m)) n ≡ neg_ℤ (pos (rounded m n))
rounded_ratio-neg zero n some =
    let below : rounded 0 n < 1 = div_below (2 * 0 + n) (2 * n) 1 (omega arith) (omega arith) in
    let none : rounded 0 n ≡ 0 = omega arith in
    ap (λ t. pos t) none ∙ ap (λ t. neg_ℤ (pos t)) (sym none)
rounded_ratio-neg (suc m) n some = ap (λ t. neg_ℤ (pos (rounded t n))) (add-one m)

-- a rounded part of the way to z lies on the way
pub rounded_ratio-on_way : (z : ℤ) (j n : ℕ) → 1 ≤ n → j ≤ n → IsOnWay z (rounded_ratio (z *ℤ pos j) n)
rounded_ratio-on_way (pos a) j n some part =
    let at_most = rounded-part_le a j n some part in
    record { between = inl (omega (arith, ints), omega (arith, ints)) }
rounded_ratio-on_way (negsuc a) j n some part =
    let at_most = rounded-part_le (suc a) j n some part in
    rw (rounded_ratio-neg (suc a * j) n some) (record { between = inr (omega (arith, ints), omega (arith, ints)) })

-- the whole way to z is z
pub rounded_ratio-whole : (z : ℤ) (n : ℕ) → 1 ≤ n → rounded_ratio (z *ℤ pos n) n ≡ z
rounded_ratio-whole (pos a) n some = ap (λ t. pos t) (rounded-whole a n some)
rounded_ratio-whole (negsuc a) n some = rounded_ratio-neg (suc a * n) n some ∙ ap (λ t. neg_ℤ (pos t)) (rounded-whole (suc a) n some)

-- a number between two others is no larger than they are
pub nat_abs-on_way : (p q r : ℤ) (most : ℕ) → nat_abs p ≤ most → nat_abs q ≤ most → IsOnWay (q -ℤ p) r → nat_abs (p +ℤ r) ≤ most
nat_abs-on_way p q r most from to way =
    elim way.between [ inl up ↦ omega (arith, ints) | inr down ↦ omega (arith, ints) ]

-- a quotient, rounded up
pub div_ceil_is : (x y : ℕ) → 1 ≤ y → div_ceil x y ≡ (x + (y - 1)) / y
div_ceil_is x y some =
    elim (cases_eq (x % y) 0) [
      | inl none ↦
          let parts : x + (y - 1) ≡ x / y * y + (y - 1) = omega (arith, div-add-mod' x y) in
          omega (arith, ap (λ t. t / y) parts ∙ div-mul-add (x / y) y (y - 1) (omega arith))
      | inr more ↦
          let here : 1 ≤ x % y = omega arith in
          let parts : x + (y - 1) ≡ (x / y + 1) * y + (x % y - 1) = omega (arith, div-add-mod' x y) in
          omega (arith, ap (λ t. t / y) parts ∙ div-mul-add (x / y + 1) y (x % y - 1) (omega (arith, mod_below x y some)))
    ]
