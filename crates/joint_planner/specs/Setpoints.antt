-- The setpoints of a joint move from a position to a target.
use Rattle.std.specs.Prelude.{◌≤◌, IsTrue, ℕ, zero, suc, ◌+◌, ◌-◌, ◌/◌, max, ℤ, pos, ◌+ℤ◌, ◌-ℤ◌, ◌*ℤ◌, nat_abs, List, ◌∷◌}
use Rattle.rapid_limits.specs.declared.TheConstants.{MOST_AXES}
use Rattle.rapid_num.specs.Arithmetic.{rounded_ratio}
use Rattle.rapid_num.specs.Reach.{is_reachable}
use Rattle.rapid_num.specs.declared.joints.Joints.{Joints}

-- the greatest change among the first axes, in thousandths of a degree
unfoldable pub greatest_change : ℕ → List ℤ → List ℤ → ℕ
greatest_change zero ps qs = 0
greatest_change (suc axes) (p ∷ ps) (q ∷ qs) = max (nat_abs (q -ℤ p)) (greatest_change axes ps qs)
greatest_change (suc axes) _ _ = 0

-- the number of setpoints: the greatest change divided by the cap, rounded up, and at least one
abbrev pub setpoint_count : ℕ → Joints → Joints → ℕ → ℕ
setpoint_count axes start target cap = max 1 ((greatest_change axes start.axis target.axis + (cap - 1)) / cap)

-- step j of n on each of the first axes; the others do not move
unfoldable pub step_of : ℕ → List ℤ → List ℤ → ℕ → ℕ → List ℤ
step_of zero ps qs n j = ps
step_of (suc axes) (p ∷ ps) (q ∷ qs) n j = (p +ℤ rounded_ratio ((q -ℤ p) *ℤ pos j) n) ∷ step_of axes ps qs n j
step_of (suc axes) ps _ n j = ps

-- setpoint j of n, counted from 1, of an arm with that many axes
abbrev pub setpoint : ℕ → Joints → Joints → ℕ → ℕ → Joints
setpoint axes start target n j = record { axis = step_of axes start.axis target.axis n j }

-- a planned move, as contracts see it
pub record PlanData : Type 0 where
  pub start : Joints
  pub target : Joints
  pub count : ℕ
  pub axes : ℕ

-- the arm's axes are in reach at both ends, and there is at least one setpoint
pub record IsPlan (p : PlanData) : Type 0 where
  pub axes : p.axes ≤ MOST_AXES
  pub start : IsTrue (is_reachable p.axes p.start)
  pub target : IsTrue (is_reachable p.axes p.target)
  pub some : 1 ≤ p.count
