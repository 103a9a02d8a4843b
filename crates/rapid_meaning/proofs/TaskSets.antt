-- Sets of tasks, bit by bit.
use Rattle.std.proofs.Common.{◌≡◌, refl, sym, ap, ◌∙◌, subst, ℕ, zero, suc, ◌+◌, ◌*◌, ◌-◌, ◌/◌, ◌%◌, ◌^◌, ◌<◌, ◌≤◌, ◌==◌, Bool, true, false, if◌then◌else◌, arith, mul-le-mul_right, lt_of_not-le, mod-lt, mul_assoc}
use Rattle.std.proofs.lemmas.Bool.{eq-eqb}
use Rattle.std.proofs.lemmas.Nat.{div-add-mod', pow-add}
use Rattle.rapid_meaning.specs.Meetings.{with_task}

pub positive : (k : ℕ) → zero < 2 ^ k
positive zero = omega arith
positive (suc k) = omega (arith, positive k)

no_bit : (q : ℕ) → (q % 2 == 1) ≡ false → q % 2 ≡ 1 → ⊥
no_bit q no_one e = let hit : (q % 2 == 1) ≡ true = eq-eqb (q % 2) 1 e in cc

halved : (q : ℕ) → (q % 2 ≡ 1 → ⊥) → q ≡ (q / 2) * 2
halved q not_one =
    let less : q % 2 < 2 = mod-lt q (omega arith) in
    let whole : q / 2 * 2 + q % 2 ≡ q = div-add-mod' q 2 in
    omega (arith, less, whole, not_one)

-- setting a bit that is not set stays below the limit
with_bit_below : (p m set : ℕ) → zero < p → set < 2 * (m * p) → (set / p % 2 == 1) ≡ false → set + p < 2 * (m * p)
with_bit_below p m set some less no_one =
    let q : ℕ = set / p in
    let h : ℕ = q / 2 in
    let whole : q * p + set % p ≡ set = div-add-mod' set p in
    let few : set % p < p = mod-lt set some in
    let even : q ≡ h * 2 = halved q (no_bit q no_one) in
    let twice : q * p ≡ (h * 2) * p = ap (λ (x : ℕ). x * p) even in
    let under : h < m = lt_of_not-le (λ (le : m ≤ h). let over : m * p ≤ h * p = mul-le-mul_right p le in omega (arith, over, whole, twice, less)) in
    let next : suc h * p ≤ m * p = mul-le-mul_right p under in
    omega (arith, next, whole, twice, few)

limit : (n task : ℕ) → task < n → 2 ^ n ≡ 2 * (2 ^ (n - suc task) * 2 ^ task)
limit n task few =
    let k : ℕ = n - suc task in
    let sum : n ≡ suc k + task = omega (arith, few) in
    let double : 2 ^ suc k ≡ 2 * 2 ^ k = omega arith in
    ap (λ (x : ℕ). 2 ^ x) sum ∙ pow-add 2 (suc k) task ∙ ap (λ (x : ℕ). x * 2 ^ task) double ∙ mul_assoc 2 (2 ^ k) (2 ^ task)

with_below : (b : Bool) (n task set : ℕ) → (set / 2 ^ task % 2 == 1) ≡ b → task < n → set < 2 ^ n → (if b then set else set + 2 ^ task) < 2 ^ n
with_below true n task set bit few less = less
with_below false n task set bit few less =
    let same : 2 ^ n ≡ 2 * (2 ^ (n - suc task) * 2 ^ task) = limit n task few in
    let under : set < 2 * (2 ^ (n - suc task) * 2 ^ task) = subst (λ (x : ℕ). set < x) same less in
    subst (λ (x : ℕ). set + 2 ^ task < x) (sym same) (with_bit_below (2 ^ task) (2 ^ (n - suc task)) set (positive task) under bit)

-- a set of tasks with one more task
pub with_task_below : (n task set : ℕ) → task < n → set < 2 ^ n → with_task task set < 2 ^ n
with_task_below n task set few less = with_below (set / 2 ^ task % 2 == 1) n task set refl few less
