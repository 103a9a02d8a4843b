-- One axis more, in a loop over the axes.
use Rattle.std.proofs.Common.{◌≡◌, ◌<◌, ◌≤◌, ◌+◌, ℕ, zero, suc, max, IsTrue, refl, ap, arith, List, [], ◌∷◌, length, take, get_or, ℤ, pos, nat_abs, ◌+ℤ◌, ◌-ℤ◌, ◌*ℤ◌}
use Rattle.std.proofs.Math.ListN.{set}
use Rattle.std.proofs.lemmas.Bool.{and_parts}
use Rattle.rapid_num.specs.Arithmetic.{rounded_ratio}
use Rattle.rapid_num.specs.Reach.{are_in_reach, is_in_reach}
use Rattle.joint_planner.specs.Setpoints.{step_of, greatest_change}
use Rattle.joint_planner.proofs.Setpoints.{reach_small}

pub step_of_more : (k : ℕ) (ps qs : List ℤ) (n j : ℕ) (d e : ℤ) → k < length ps → k < length qs → set (step_of k ps qs n j) k (get_or ps k d +ℤ rounded_ratio ((get_or qs k e -ℤ get_or ps k d) *ℤ pos j) n) ≡ step_of (suc k) ps qs n j
unfolding step_of
step_of_more k [] qs n j d e from to = absurd (omega arith)
step_of_more k (p ∷ ps) [] n j d e from to = absurd (omega arith)
step_of_more zero (p ∷ ps) (q ∷ qs) n j d e from to = refl
step_of_more (suc k) (p ∷ ps) (q ∷ qs) n j d e from to =
    ap (λ axes. (p +ℤ rounded_ratio ((q -ℤ p) *ℤ pos j) n) ∷ axes) (step_of_more k ps qs n j d e (omega arith) (omega arith))

pub greatest_change_more : (k : ℕ) (ps qs : List ℤ) (d e : ℤ) → k < length ps → k < length qs → max (nat_abs (get_or qs k e -ℤ get_or ps k d)) (greatest_change k ps qs) ≡ greatest_change (suc k) ps qs
unfolding greatest_change
greatest_change_more k [] qs d e from to = absurd (omega arith)
greatest_change_more k (p ∷ ps) [] d e from to = absurd (omega arith)
greatest_change_more zero (p ∷ ps) (q ∷ qs) d e from to = refl
greatest_change_more (suc k) (p ∷ ps) (q ∷ qs) d e from to =
    let rest = greatest_change_more k ps qs d e (omega arith) (omega arith) in
    omega arith

-- an axis is within 100,000 degrees if it is one of those that are in reach
pub reach_at : (axis axes k : ℕ) (ps : List ℤ) (d : ℤ) → IsTrue (are_in_reach axis (take axes ps)) → k < axes → k < length ps → nat_abs (get_or ps k d) ≤ 100_000_000
reach_at axis zero k ps d all inside long = absurd (omega arith)
reach_at axis (suc axes) k [] d all inside long = absurd (omega arith)
reach_at axis (suc axes) zero (p ∷ ps) d all inside long =
    reach_small axis p (and_parts (is_in_reach axis p) (are_in_reach (axis + 1) (take axes ps)) all).0
reach_at axis (suc axes) (suc k) (p ∷ ps) d all inside long =
    reach_at (axis + 1) axes k ps d (and_parts (is_in_reach axis p) (are_in_reach (axis + 1) (take axes ps)) all).1 (omega arith) (omega arith)
