-- What holds of every setpoint of a joint move.
use Rattle.std.proofs.Common.{◌≡◌, ◌≤◌, ◌+◌, ◌==◌, ◌&&◌, ℕ, Bool, true, false, lit≤, zero, suc, IsTrue, refl, ap, ◌∙◌, arith, List, [], ◌∷◌, length, take, drop, ℤ, pos, nat_abs, ◌+ℤ◌, ◌-ℤ◌, ◌*ℤ◌}
use Rattle.std.specs.Prelude.{nat_le, nat_lt, if◌then◌else◌}
use Rattle.std.specs.List.{list_all}
use Rattle.rapid_num.specs.Absent.{is_absent}
use Rattle.std.proofs.lemmas.Bool.{and_parts, and_from}
use Rattle.std.proofs.lemmas.Int.{ints}
use Rattle.std.proofs.lemmas.Bool.Decides.{nat_tests}
use Rattle.rapid_num.specs.Arithmetic.{rounded_ratio}
use Rattle.rapid_num.specs.Reach.{reach_of, is_in_reach, are_in_reach, is_reachable, is_position}
use Rattle.rapid_num.specs.declared.joints.Joints.{Joints}
use Rattle.joint_planner.specs.Setpoints.{step_of, setpoint}
use Rattle.joint_planner.proofs.Rounding.{rounded_ratio-on_way, rounded_ratio-whole, nat_abs-on_way}

le-from_test : (m n : ℕ) → IsTrue (nat_le m n) → m ≤ n
le-from_test m n h = grind (arith, nat_tests)

le-to_test : (m n : ℕ) → m ≤ n → IsTrue (nat_le m n)
le-to_test m n h = grind (arith, nat_tests)

reach_of-at_most : (axis : ℕ) → reach_of axis ≤ 100_000_000
reach_of-at_most axis = by_test (nat_lt axis 6)
  where
    by_test : (robot : Bool) → (if robot then 720_000 else 100_000_000) ≤ 100_000_000
    by_test true = lit≤ tt
    by_test false = lit≤ tt

-- an axis in reach is within 100,000 degrees
pub reach_small : (axis : ℕ) (angle : ℤ) → IsTrue (is_in_reach axis angle) → nat_abs angle ≤ 100_000_000
reach_small axis angle reach =
    let size : nat_abs angle ≤ reach_of axis = le-from_test (nat_abs angle) (reach_of axis) reach in
    let most : reach_of axis ≤ 100_000_000 = reach_of-at_most axis in
    least (reach_of axis) size most
  where
    least : (reach : ℕ) → nat_abs angle ≤ reach → reach ≤ 100_000_000 → nat_abs angle ≤ 100_000_000
    least reach size most = omega arith

-- an axis stays in reach between two angles in reach
pub reach_on_way : (axis : ℕ) (p q : ℤ) (j n : ℕ) → IsTrue (is_in_reach axis p) → IsTrue (is_in_reach axis q) → 1 ≤ n → j ≤ n → IsTrue (is_in_reach axis (p +ℤ rounded_ratio ((q -ℤ p) *ℤ pos j) n))
reach_on_way axis p q j n from to some part =
    le-to_test _ (reach_of axis) (nat_abs-on_way p q _ (reach_of axis) (le-from_test (nat_abs p) (reach_of axis) from) (le-from_test (nat_abs q) (reach_of axis) to) (rounded_ratio-on_way (q -ℤ p) j n some part))

pub step_of-reach : (axis axes : ℕ) (ps qs : List ℤ) (n j : ℕ) → IsTrue (are_in_reach axis (take axes ps)) → IsTrue (are_in_reach axis (take axes qs)) → 1 ≤ n → j ≤ n → IsTrue (are_in_reach axis (take axes (step_of axes ps qs n j)))
unfolding step_of
step_of-reach axis zero ps qs n j from to some part = refl
step_of-reach axis (suc axes) [] [] n j from to some part = refl
step_of-reach axis (suc axes) [] (q ∷ qs) n j from to some part = refl
step_of-reach axis (suc axes) (p ∷ ps) [] n j from to some part = from
step_of-reach axis (suc axes) (p ∷ ps) (q ∷ qs) n j from to some part =
    let start = and_parts (is_in_reach axis p) (are_in_reach (axis + 1) (take axes ps)) from in
    let end = and_parts (is_in_reach axis q) (are_in_reach (axis + 1) (take axes qs)) to in
    and_from _ _ (reach_on_way axis p q j n start.0 end.0 some part) (step_of-reach (axis + 1) axes ps qs n j start.1 end.1 some part)

pub length-step_of : (axes : ℕ) (ps qs : List ℤ) (n j : ℕ) → length (step_of axes ps qs n j) ≡ length ps
unfolding step_of
length-step_of zero ps qs n j = refl
length-step_of (suc axes) [] [] n j = refl
length-step_of (suc axes) [] (q ∷ qs) n j = refl
length-step_of (suc axes) (p ∷ ps) [] n j = refl
length-step_of (suc axes) (p ∷ ps) (q ∷ qs) n j = ap suc (length-step_of axes ps qs n j)

-- the other axes do not move
pub drop-step_of : (axes : ℕ) (ps qs : List ℤ) (n j : ℕ) → drop axes (step_of axes ps qs n j) ≡ drop axes ps
unfolding step_of
drop-step_of zero ps qs n j = refl
drop-step_of (suc axes) [] [] n j = refl
drop-step_of (suc axes) [] (q ∷ qs) n j = refl
drop-step_of (suc axes) (p ∷ ps) [] n j = refl
drop-step_of (suc axes) (p ∷ ps) (q ∷ qs) n j = drop-step_of axes ps qs n j

whole_way : (p q : ℤ) (n : ℕ) → 1 ≤ n → p +ℤ rounded_ratio ((q -ℤ p) *ℤ pos n) n ≡ q
whole_way p q n some = rw (rounded_ratio-whole (q -ℤ p) n some) (omega (arith, ints))

-- the last step is the target
pub take-step_of_last : (axes : ℕ) (ps qs : List ℤ) (n : ℕ) → axes ≤ length ps → axes ≤ length qs → 1 ≤ n → take axes (step_of axes ps qs n n) ≡ take axes qs
unfolding step_of
take-step_of_last zero ps qs n from to some = refl
take-step_of_last (suc axes) [] qs n from to some = absurd (omega arith)
take-step_of_last (suc axes) (p ∷ ps) [] n from to some = absurd (omega arith)
take-step_of_last (suc axes) (p ∷ ps) (q ∷ qs) n from to some =
    let here : p +ℤ rounded_ratio ((q -ℤ p) *ℤ pos n) n ≡ q = whole_way p q n some in
    let rest : take axes (step_of axes ps qs n n) ≡ take axes qs = take-step_of_last axes ps qs n (omega arith) (omega arith) some in
    cc

-- each setpoint is in reach
pub setpoint_reach : (axes : ℕ) (p q : Joints) (n j : ℕ) → IsTrue (is_reachable axes p) → IsTrue (is_reachable axes q) → 1 ≤ j → j ≤ n → IsTrue (is_reachable axes (setpoint axes p q n j))
setpoint_reach axes p q n j from to first last = step_of-reach 0 axes p.axis q.axis n j from to (omega arith) last

-- from a position, each setpoint is a position
pub setpoint_position : (axes : ℕ) (p q : Joints) (n j : ℕ) → IsTrue (is_position axes p) → IsTrue (is_reachable axes q) → 1 ≤ j → j ≤ n → IsTrue (is_position axes (setpoint axes p q n j))
setpoint_position axes p q n j from to first last =
    let start = and_parts (length p.axis == 12 && is_reachable axes p) (list_all is_absent (drop axes p.axis)) from in
    let front = and_parts (length p.axis == 12) (is_reachable axes p) start.0 in
    let s : Joints = setpoint axes p q n j in
    and_from (length s.axis == 12 && is_reachable axes s) (list_all is_absent (drop axes s.axis))
    (and_from (length s.axis == 12) (is_reachable axes s) (ap (λ k. k == 12) (length-step_of axes p.axis q.axis n j) ∙ front.0) (setpoint_reach axes p q n j front.1 to first last))
    (ap (list_all is_absent) (drop-step_of axes p.axis q.axis n j) ∙ start.1)

-- the last setpoint is the target
pub take-setpoint_last : (axes : ℕ) (p q : Joints) (n : ℕ) → axes ≤ length p.axis → axes ≤ length q.axis → 1 ≤ n → take axes (setpoint axes p q n n).axis ≡ take axes q.axis
take-setpoint_last axes p q n from to some = take-step_of_last axes p.axis q.axis n from to some
