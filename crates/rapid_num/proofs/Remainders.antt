-- The remainder after a whole quotient is what Rust's `%` gives.
use Rattle.std.proofs.Common.{◌≡◌, zero, suc, ◌/◌, refl, sym, ap, ◌∙◌, arith, add-one, ℤ, pos, negsuc, neg_ℤ, nat_abs, ◌+ℤ◌, ◌-ℤ◌, ◌*ℤ◌, int_div, int_rem}
use Rattle.std.proofs.Math.IntN.{*ℤ_comm}
use Rattle.std.proofs.Math.Nat.{zero-div}
use Rattle.std.proofs.lemmas.Int.{ints, quot-rem}
use Rattle.rapid_num.specs.Arithmetic.{signed_by, whole_part, remainder_of}

whole_part_is : (a b : ℤ) → whole_part (signed_by b a) (nat_abs b) ≡ int_div a b
whole_part_is (pos a) (pos b) = refl
whole_part_is (negsuc a) (pos b) = ap (λ n. neg_ℤ (pos (n / b))) (add-one a)
whole_part_is (pos zero) (negsuc b) = let none : 0 / suc b ≡ 0 = zero-div (suc b) in ap (λ n. pos n) none ∙ ap (λ n. neg_ℤ (pos n)) (sym none)
whole_part_is (pos (suc a)) (negsuc b) = ap (λ n. neg_ℤ (pos (n / suc b))) (add-one a)
whole_part_is (negsuc a) (negsuc b) = refl

left_of : (a m r : ℤ) → m +ℤ r ≡ a → r ≡ a -ℤ m
left_of a m r e = omega (arith, ints)

pub remainder_is : (a b : ℤ) → int_rem a b ≡ remainder_of a b
remainder_is a b =
    let whole : int_div a b *ℤ b ≡ b *ℤ whole_part (signed_by b a) (nat_abs b) = *ℤ_comm (int_div a b) b ∙ ap (λ q. b *ℤ q) (sym (whole_part_is a b)) in
    left_of a _ _ (ap (λ m. m +ℤ int_rem a b) (sym whole) ∙ quot-rem a b)
