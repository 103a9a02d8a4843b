-- The path of an arm in a history: each setpoint that it was given, from where it was before.
use Rattle.std.specs.Prelude.{ℕ, ◌==◌, List, [], ◌∷◌, Option, Some, None, filter_map, option_map, slice_get, if◌then◌else◌}
use Rattle.std.specs.List.{enumerate_from}
use Rattle.std.specs.Option.{option_and_then}
use Rattle.rapid_num.specs.declared.joints.Joints.{Joints}
use Rattle.rapid_model.specs.CellData.{CellData}
use Rattle.rapid_model.specs.declared.answer.Answer.{Answer}
use Rattle.rapid_model.specs.declared.answer.Answer.TheVariants as answers
use Rattle.rapid_model.specs.declared.event.Event.{Event}
use Rattle.rapid_model.specs.declared.request.Request.{Request}
use Rattle.rapid_model.specs.declared.request.Request.TheVariants.{Setpoint}

-- a straight move of an arm in joint space, and the number of the event that gave it, from 0; none for an arm that stays
-- at its start
pub record Segment : Type 0 where
  pub event : Option ℕ
  pub start : Joints
  pub end : Joints

-- the setpoint of an event that was given
abbrev pub setpoint_given : Request → Answer → Option Joints
setpoint_given (Setpoint to) answers.Given = Some to
setpoint_given _ _ = None

-- the same, if this task asked for it
abbrev pub given_by : ℕ → Event → Option Joints
given_by task e = if e.actor == task then setpoint_given e.request e.answer else None

-- a setpoint that an arm was given, and the number of the event that gave it, from 0
pub record Waypoint : Type 0 where
  pub event : ℕ
  pub at : Joints

-- the one of a numbered event
abbrev pub waypoint_of : ℕ → ℕ × Event → Option Waypoint
waypoint_of task e = option_map (λ to. record { event = e.0; at = to }) (given_by task e.1)

-- those of a task's arm in a history
abbrev pub waypoints_of : ℕ → List Event → List Waypoint
waypoints_of task history = filter_map (waypoint_of task) (enumerate_from 0 history)

-- each one joined to the one before
abbrev pub joined : Joints → List Waypoint → List Segment
joined start [] = []
joined start (waypoint ∷ waypoints) = record { event = Some waypoint.event; start = start; end = waypoint.at } ∷ joined waypoint.at waypoints

-- without any, the arm stays at its start
abbrev pub or_start : Joints → List Segment → List Segment
or_start start [] = record { event = None; start = start; end = start } ∷ []
or_start start (segment ∷ segments) = segment ∷ segments

-- the path of an arm from its start; none if the task has no arm
abbrev pub path_from : Option Joints → ℕ → List Event → List Segment
path_from None task history = []
path_from (Some start) task history = or_start start (joined start (waypoints_of task history))

abbrev pub path_of : CellData → List Event → ℕ → List Segment
path_of cell history task = path_from (option_and_then (λ row. row.arm) (slice_get cell.tasks task)) task history
