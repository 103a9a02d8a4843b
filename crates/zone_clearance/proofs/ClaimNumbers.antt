-- The numbers of a gap, as the code reads them.
use Rattle.std.proofs.Common.{◌≡◌, ◌<◌, ◌^◌, ℕ, false, ap, sym, ◌∙◌, subst, arith, ℤ, pos, nat_abs, ◌≤ℤ◌, to_z, of_z}
use Rattle.std.specs.Int.{IsGcd, w128}
use Rattle.std.specs.Prelude.{int_lt}
use Rattle.std.proofs.lemmas.Int.{ints}
use Rattle.zone_clearance.proofs.Products.{le_from_not_lt}
use Rattle.zone_clearance.proofs.Wide.{wide}

pub number_read : (x : ℤ) → nat_abs x < 2 ^ 60 → to_z w128 (of_z w128 x) ≡ x
number_read x small = wide x (omega (arith, small))

pub at_least_read : (x least : ℤ) → nat_abs x < 2 ^ 60 → int_lt (to_z w128 (of_z w128 x)) least ≡ false → least ≤ℤ x
at_least_read x least small not = subst (λ (y : ℤ). least ≤ℤ y) (number_read x small) (le_from_not_lt (to_z w128 (of_z w128 x)) least not)

pub not_above_read : (x y : ℤ) → nat_abs x < 2 ^ 60 → nat_abs y < 2 ^ 60 → int_lt (to_z w128 (of_z w128 y)) (to_z w128 (of_z w128 x)) ≡ false → x ≤ℤ y
not_above_read x y small short not = subst (λ (z : ℤ). z ≤ℤ y) (number_read x small) (at_least_read y (to_z w128 (of_z w128 x)) short not)

pub lowest_read : (x y : ℤ) → nat_abs x < 2 ^ 60 → nat_abs y < 2 ^ 60 → IsGcd (nat_abs (to_z w128 (of_z w128 x))) (nat_abs (to_z w128 (of_z w128 y))) 1 → IsGcd (nat_abs x) (nat_abs y) 1
lowest_read x y small short gcd =
    subst (λ (n : ℕ). IsGcd n (nat_abs y) 1) (ap nat_abs (number_read x small))
    (subst (λ (n : ℕ). IsGcd (nat_abs (to_z w128 (of_z w128 x))) n 1) (ap nat_abs (number_read y short)) gcd)

pub read_lowest : (x y : ℤ) → nat_abs x < 2 ^ 60 → nat_abs y < 2 ^ 60 → IsGcd (nat_abs x) (nat_abs y) 1 → IsGcd (nat_abs (to_z w128 (of_z w128 x))) (nat_abs (to_z w128 (of_z w128 y))) 1
read_lowest x y small short gcd =
    subst (λ (n : ℕ). IsGcd n (nat_abs (to_z w128 (of_z w128 y))) 1) (sym (ap nat_abs (number_read x small)))
    (subst (λ (n : ℕ). IsGcd (nat_abs x) n 1) (sym (ap nat_abs (number_read y short))) gcd)

size_is : (x : ℤ) → pos 0 ≤ℤ x → x ≡ pos (nat_abs x)
size_is x some = omega (arith, ints)

pub size_read : (x : ℤ) → nat_abs x < 2 ^ 60 → pos 0 ≤ℤ x → x ≡ pos (nat_abs (to_z w128 (of_z w128 x)))
size_read x small some = size_is x some ∙ ap (λ (y : ℤ). pos (nat_abs y)) (sym (number_read x small))

pub some_read : (x : ℤ) → pos 1 ≤ℤ x → pos 0 ≤ℤ x
some_read x some = omega (arith, ints, some)
