-- A fraction over the greatest common divisor of its numbers.
use Rattle.std.proofs.Common.{◌≡◌, ◌≤◌, ◌<◌, ◌*◌, ◌/◌, ℕ, zero, suc, ap, subst, arith}
use Rattle.std.proofs.Math.Nat.{one-dvd, div-mul_cancel, dvd_of_mul-dvd-mul_right, mul-dvd-mul_right, pos_of_dvd_of_pos}
use Rattle.std.specs.Int.{◌∣◌, IsGcd}

divisor_positive : (a b g : ℕ) → IsGcd a b g → 1 ≤ b → 0 < g
divisor_positive a b g gcd some = pos_of_dvd_of_pos gcd.1 (omega arith)

pub quotient_positive : (a b g : ℕ) → IsGcd a b g → 1 ≤ b → 1 ≤ b / g
quotient_positive a b g gcd some =
    let whole : b / g * g ≡ b = div-mul_cancel g gcd.1 in
    pos_of_quotient (b / g) g b whole some
  where
    pos_of_quotient : (y g b : ℕ) → y * g ≡ b → 1 ≤ b → 1 ≤ y
    pos_of_quotient zero g b whole some = absurd (omega arith)
    pos_of_quotient (suc y) g b whole some = omega arith

pub quotients_lowest : (a b g : ℕ) → IsGcd a b g → 1 ≤ b → IsGcd (a / g) (b / g) 1
quotients_lowest a b g gcd some =
    let top : a / g * g ≡ a = div-mul_cancel g gcd.0 in
    let bottom : b / g * g ≡ b = div-mul_cancel g gcd.1 in
    let one : g ≡ 1 * g = omega arith in (
      one-dvd (a / g),
      one-dvd (b / g),
      λ d in_top in_bottom.
          dvd_of_mul-dvd-mul_right d (divisor_positive a b g gcd some)
          (subst (λ (n : ℕ). d * g ∣ n) one
          (gcd.2 (d * g)
          (subst (λ (n : ℕ). d * g ∣ n) top (mul-dvd-mul_right d in_top g))
          (subst (λ (n : ℕ). d * g ∣ n) bottom (mul-dvd-mul_right d in_bottom g)))),
    )

pub quotients_same : (a b g : ℕ) → IsGcd a b g → a / g * b ≡ a * (b / g)
quotients_same a b g gcd =
    let top : a / g * g ≡ a = div-mul_cancel g gcd.0 in
    let bottom : b / g * g ≡ b = div-mul_cancel g gcd.1 in
    same_products (a / g) (b / g) g a b top bottom
  where
    same_products : (x y g a b : ℕ) → x * g ≡ a → y * g ≡ b → x * b ≡ a * y
    same_products x y g a b top bottom = omega (arith, ap (λ n. x * n) bottom, ap (λ n. n * y) top)
