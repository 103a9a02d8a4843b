-- Where an arm is after a history, and how many setpoints it was given.
use Rattle.std.specs.Prelude.{ℕ, Bool, true, false, List, [], ◌∷◌, Option, Some, None, count_by, slice_get}
use Rattle.std.specs.Option.{option_and_then}
use Rattle.rapid_num.specs.declared.joints.Joints.{Joints}
use Rattle.rapid_model.specs.CellData.{CellData}
use Rattle.rapid_model.specs.Own.{part_of}
use Rattle.rapid_model.specs.declared.answer.Answer.{Answer}
use Rattle.rapid_model.specs.declared.answer.Answer.TheVariants as answers
use Rattle.rapid_model.specs.declared.event.Event.{Event}
use Rattle.rapid_model.specs.declared.request.Request.{Request}
use Rattle.rapid_model.specs.declared.request.Request.TheVariants.{Setpoint}

-- where an event takes the arm of its task, from its position before
abbrev pub moved : Joints → Request → Answer → Joints
moved position (Setpoint to) answers.Given = to
moved position _ _ = position

-- the last setpoint given in a task's own events, otherwise where the arm was
abbrev pub arm_along : Joints → List Event → Joints
arm_along position [] = position
arm_along position (e ∷ es) = arm_along (moved position e.request e.answer) es

-- the position of a task's arm after a history; none if the task has no arm
abbrev pub arm_after : CellData → List Event → ℕ → Option Joints
arm_after cell history task = arm_from (option_and_then (λ row. row.arm) (slice_get cell.tasks task))
  where
    arm_from : Option Joints → Option Joints
    arm_from None = None
    arm_from (Some start) = Some (arm_along start (part_of task history))

abbrev pub is_given : Request → Answer → Bool
is_given (Setpoint to) answers.Given = true
is_given _ _ = false

-- how many setpoints a task's arm was given
abbrev pub setpoints_given : List Event → ℕ → ℕ
setpoints_given history task = count_by (λ e. is_given e.request e.answer) (part_of task history)
