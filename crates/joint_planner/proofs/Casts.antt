-- The casts in the computation of an axis's setpoint lose nothing.
use Rattle.std.proofs.Common.{◌≡◌, ◌≤◌, ◌<◌, ◌^◌, ℕ, ◌∙◌, arith, ℤ, pos, nat_abs, ◌-ℤ◌, ◌*ℤ◌, FitsSigned, w64, lit<, inl, inr}
use Rattle.std.specs.Int.{w128}
use mir.Val.{to_z, of_z}
use Rattle.std.proofs.lemmas.Int.{ints, to_z-of_z, fits_signed_mul}
use Rattle.rapid_num.specs.Arithmetic.{rounded_ratio}
use Rattle.joint_planner.proofs.Rounding.{rounded_ratio-on_way}

fits_small : (z : ℤ) → nat_abs z ≤ 200_000_000 → FitsSigned w64 z
fits_small z small = grind (arith, ints)

-- the way times j, as the code computes it
way_is : (p q : ℤ) (j : ℕ) → nat_abs p ≤ 100_000_000 → nat_abs q ≤ 100_000_000 → j < 2 ^ 32 → to_z w64 (of_z w64 (to_z w64 (of_z w64 (to_z w64 (of_z w64 q) -ℤ to_z w64 (of_z w64 p))) *ℤ to_z w64 (of_z w64 (pos j)))) ≡ (q -ℤ p) *ℤ pos j
way_is p q j from to small =
    let change : nat_abs (q -ℤ p) ≤ 200_000_000 = omega (arith, ints) in
    let fits_p : FitsSigned w64 p = fits_small p (omega arith) in
    let fits_q : FitsSigned w64 q = fits_small q (omega arith) in
    let fits_change : FitsSigned w64 (q -ℤ p) = fits_small (q -ℤ p) change in
    let fits_j : FitsSigned w64 (pos j) = grind (arith, ints) in
    let fits_way : FitsSigned w64 ((q -ℤ p) *ℤ pos j) = fits_signed_mul w64 (q -ℤ p) (pos j) 200_000_000 (2 ^ 32) change (omega arith) (lit< tt) in
    simp (to_z-of_z, fits_p, fits_q, fits_change, fits_j, fits_way)

-- it fits
pub way_fits : (p q : ℤ) (j : ℕ) {a b i : ℤ} → nat_abs p ≤ 100_000_000 → nat_abs q ≤ 100_000_000 → j < 2 ^ 32 → b ≡ q → a ≡ p → i ≡ pos j
    → FitsSigned w64 (to_z w64 (of_z w64 (to_z w64 (of_z w64 b) -ℤ to_z w64 (of_z w64 a))) *ℤ to_z w64 (of_z w64 i))
way_fits p q j from to small target start part =
    let change : nat_abs (q -ℤ p) ≤ 200_000_000 = omega (arith, ints) in
    let fits_p : FitsSigned w64 p = fits_small p (omega arith) in
    let fits_q : FitsSigned w64 q = fits_small q (omega arith) in
    let fits_change : FitsSigned w64 (q -ℤ p) = fits_small (q -ℤ p) change in
    let fits_j : FitsSigned w64 (pos j) = grind (arith, ints) in
    let fits_way : FitsSigned w64 ((q -ℤ p) *ℤ pos j) = fits_signed_mul w64 (q -ℤ p) (pos j) 200_000_000 (2 ^ 32) change (omega arith) (lit< tt) in
    rw (target, start, part) (simp (to_z-of_z, fits_p, fits_q, fits_change, fits_j) fits_way)

-- the call of `round_ratio` at 128 bits
pub moved_is : (p q : ℤ) (j n : ℕ) {a b i w m k : ℤ} → nat_abs p ≤ 100_000_000 → nat_abs q ≤ 100_000_000 → j < 2 ^ 32 → n < 2 ^ 32 → b ≡ q → a ≡ p → i ≡ pos j → k ≡ pos n → w ≡ to_z w64 (of_z w64 (to_z w64 (of_z w64 (to_z w64 (of_z w64 b) -ℤ to_z w64 (of_z w64 a))) *ℤ to_z w64 (of_z w64 i))) → m ≡ rounded_ratio (to_z w128 (of_z w128 w)) (nat_abs (to_z w128 (of_z w128 k))) → m ≡ rounded_ratio ((q -ℤ p) *ℤ pos j) n
moved_is p q j n {w = w} from to small few target start part count way moved =
    let way_at : w ≡ (q -ℤ p) *ℤ pos j = (rw (target, start, part) at way) ∙ way_is p q j from to small in
    let change : nat_abs (q -ℤ p) ≤ 200_000_000 = omega (arith, ints) in
    let fits_n : FitsSigned w128 (pos n) = grind (arith, ints) in
    let fits_way : FitsSigned w128 ((q -ℤ p) *ℤ pos j) = fits_signed_mul w128 (q -ℤ p) (pos j) 200_000_000 (2 ^ 32) change (omega arith) (lit< tt) in
    simp (to_z-of_z, fits_n, fits_way) at (rw (way_at, count) at moved)

-- the distance so far is at most the whole distance
moved_small : (p q : ℤ) (j n : ℕ) → nat_abs p ≤ 100_000_000 → nat_abs q ≤ 100_000_000 → 1 ≤ n → j ≤ n → nat_abs (rounded_ratio ((q -ℤ p) *ℤ pos j) n) ≤ 200_000_000
moved_small p q j n from to some part =
    elim (rounded_ratio-on_way (q -ℤ p) j n some part).between [ inl up ↦ omega (arith, ints) | inr down ↦ omega (arith, ints) ]

pub moved_fits : (p q : ℤ) (j n : ℕ) {m : ℤ} → nat_abs p ≤ 100_000_000 → nat_abs q ≤ 100_000_000 → 1 ≤ n → j ≤ n → m ≡ rounded_ratio ((q -ℤ p) *ℤ pos j) n → FitsSigned w64 (to_z w128 (of_z w128 m))
moved_fits p q j n {m = m} from to some part moved =
    let small : nat_abs m ≤ 200_000_000 = rw moved (moved_small p q j n from to some part) in
    let fits : FitsSigned w128 m = grind (arith, ints) in
    rw (to_z-of_z w128 m fits) (fits_small m small)

pub narrowed_is : (p q : ℤ) (j n : ℕ) {m : ℤ} → nat_abs p ≤ 100_000_000 → nat_abs q ≤ 100_000_000 → 1 ≤ n → j ≤ n → m ≡ rounded_ratio ((q -ℤ p) *ℤ pos j) n → to_z w64 (of_z w64 (to_z w128 (of_z w128 m))) ≡ rounded_ratio ((q -ℤ p) *ℤ pos j) n
narrowed_is p q j n {m = m} from to some part moved =
    let small : nat_abs m ≤ 200_000_000 = rw moved (moved_small p q j n from to some part) in
    let wide : FitsSigned w128 m = grind (arith, ints) in
    let narrow : FitsSigned w64 m = fits_small m small in
    rw (to_z-of_z w128 m wide, to_z-of_z w64 m narrow) moved
