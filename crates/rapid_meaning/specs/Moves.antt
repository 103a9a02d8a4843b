-- Moves of the arm (RAPID Instructions: MoveAbsJ).
use Rattle.std.specs.Prelude.{ℕ, ◌+◌, ◌/◌, max, nat_lt, Bool, not, ℤ, pos, int_lt, nat_abs, if◌then◌else◌}
use Rattle.rapid_num.specs.Reach.{is_reachable}
use Rattle.rapid_num.specs.declared.joints.Joints.{Joints}
use Rattle.joint_planner.specs.Setpoints.{setpoint, setpoint_count}
use Rattle.rapid_model.specs.declared.answer.Answer.{Answer}
use Rattle.rapid_model.specs.declared.answer.Answer.TheVariants as answers
use Rattle.rapid_model.specs.declared.fate.Fault.TheVariants.{JointRange, MoveInTrap, Speed, ZoneStop}
use Rattle.rapid_model.specs.declared.request.Request.TheVariants.{Position, Setpoint}
use Rattle.rapid_meaning.specs.Doings.{Doing, Gives, Misfit, Asks, Reads, Act, done, fault}
use Rattle.rapid_meaning.specs.Flows.{Way}

-- a trap must not move the arm
abbrev pub still : Act
still = Reads (λ d. if d.trapped then fault MoveInTrap else done)

-- the most that an axis moves in one setpoint, in thousandths of a degree: the whole part of the speed, at least 1
abbrev pub cap_of : ℤ → ℕ
cap_of speed = max 1 (nat_abs speed / 1_000)

-- a move of an arm with this many axes that has not begun
abbrev pub way_from : ℕ → Joints → Joints → ℕ → Way
way_from axes start target cap = record {
  plan = record { start = start; target = target; count = setpoint_count axes start target cap; axes = axes };
  given = 0;
}

abbrev pub when_located : ℕ → Joints → ℕ → Answer → Doing Way
when_located axes target cap (answers.At start) = Gives (way_from axes start target cap)
when_located axes target cap _ = Misfit

-- the move of an arm with this many axes from its position to a target, at a speed of the tool
abbrev pub aim : ℕ → Joints → ℤ → Doing Way
aim axes target speed =
    if not (is_reachable axes target) then fault JointRange
    else if not (int_lt (pos 0) speed) then fault Speed
    else Asks Position (when_located axes target (cap_of speed))

abbrev pub next_setpoint : Way → Joints
next_setpoint way = setpoint way.plan.axes way.plan.start way.plan.target way.plan.count (way.given + 1)

-- the move once its next setpoint is given
abbrev pub further : Way → Way
further way = record way { given = way.given + 1 }

-- whether a setpoint is left
abbrev pub has_next : Way → Bool
has_next way = nat_lt way.given way.plan.count

abbrev pub when_given : {A : Type 0} → Doing A → Answer → Doing A
when_given next answers.Given = next
when_given next (answers.Stopped zone) = fault ZoneStop
when_given next _ = Misfit

-- asks for the next setpoint, and what follows once it is given
abbrev pub point : {A : Type 0} → Way → Doing A → Doing A
point way next = Asks (Setpoint (next_setpoint way)) (when_given next)
