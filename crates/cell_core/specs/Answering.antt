-- What the boards answer.
use Rattle.std.specs.Prelude.{◌≡◌, ℕ, ◌-◌, Bool, false, List, Option, None, Some, slice_index_or, if◌then◌else◌}
use Rattle.rapid_num.specs.declared.joints.Joints.{Joints}
use Rattle.rapid_model.specs.CellData.{CellData}
use Rattle.rapid_model.specs.declared.answer.Answer.{Answer}
use Rattle.rapid_model.specs.declared.answer.Answer.TheVariants as answers
use Rattle.rapid_model.specs.declared.request.Request.{Request}
use Rattle.rapid_model.specs.declared.request.Request.TheVariants as requests
use Rattle.rapid_model.specs.declared.zone_name.ZoneName.{ZoneName}
use Rattle.trap_dispatch.specs.Firing.{connected_at}
use Rattle.trap_dispatch.specs.Tasks.{connect_answer, look_answer}
use Rattle.trap_dispatch.specs.Traps.{task_at}
use Rattle.world_zones.specs.Outputs.{is_tied, tie_answer}
use Rattle.world_zones.specs.Touched.{IsTouched, IsFirstTouched}
use Rattle.world_zones.specs.Zones.{ZonesData, arm_at, zone_at, set_answer, is_temporary}
use Rattle.cell_meaning.specs.Answers.{look_of, value_of, is_false, position_of, number_of, order_of, known_of, zone_number_of, tie_number_of, written_of, temporary_of}
use Rattle.cell_meaning.specs.Meetings.{meets}
use Rattle.cell_meaning.specs.Stored.{value_at}
use Rattle.cell_core.specs.Actors.{actor_at}
use Rattle.cell_core.specs.Boards.{BoardData, elements_at, asked_on, change_on}
use Rattle.cell_core.specs.declared.outcome.Outcome.{Outcome}

-- how many changes others made
abbrev pub made_by_others : BoardData → ℕ → ℕ
made_by_others boards actor = boards.changes - (actor_at boards.actors actor).made

-- the answer to a request other than a setpoint
abbrev pub answer_on : BoardData → ℕ → Request → Answer
answer_on boards actor requests.Look = look_of (look_answer (task_at boards.traps actor)) (made_by_others boards actor)
answer_on boards actor (requests.ReadP pers path) = value_of (value_at (elements_at boards.store pers) path)
answer_on boards actor (requests.TestSet pers path) = answers.Yes (is_false (value_at (elements_at boards.store pers) path))
answer_on boards actor (requests.ReadS signal) = answers.Bit (slice_index_or boards.signals signal false)
answer_on boards actor (requests.WriteS signal value) = written_of (is_tied boards.zones signal)
answer_on boards actor requests.Position = position_of (actor_at boards.actors actor).arm
answer_on boards actor (requests.Connect old trap) = number_of (connect_answer (task_at boards.traps actor) old)
answer_on boards actor (requests.Order number on single) = order_of (connected_at (task_at boards.traps actor).numbers number)
answer_on boards actor (requests.Sleep number) = known_of (connected_at (task_at boards.traps actor).numbers number)
answer_on boards actor (requests.Watch number) = known_of (connected_at (task_at boards.traps actor).numbers number)
answer_on boards actor (requests.Delete number) = known_of (connected_at (task_at boards.traps actor).numbers number)
answer_on boards actor (requests.ZoneSet old temporary shape) = zone_number_of (set_answer (arm_at boards.zones actor) old)
answer_on boards actor (requests.ZoneTie old temporary shape signal value) = tie_number_of (tie_answer boards.zones actor old signal)
answer_on boards actor (requests.ZoneOn zone) = temporary_of (is_temporary (zone_at (arm_at boards.zones actor) zone))
answer_on boards actor (requests.ZoneOff zone) = temporary_of (is_temporary (zone_at (arm_at boards.zones actor) zone))
answer_on boards actor (requests.ZoneFree zone) = temporary_of (is_temporary (zone_at (arm_at boards.zones actor) zone))
answer_on boards actor (requests.Arrive meeting tasks) = if meets boards.meetings actor meeting tasks then answers.Met else answers.Apart
answer_on boards actor _ = answers.Ok

-- the answer to a setpoint, from where the arm is
abbrev pub IsMoveAnswerOn : ZonesData → List Bool → ℕ → Joints → Option Joints → Answer → Type 0
IsMoveAnswerOn zones signals task to None answer = answer ≡ answers.Ok
IsMoveAnswerOn zones signals task to (Some from) answers.Given = (name : ZoneName) → ¬ IsTouched zones task signals from to name
IsMoveAnswerOn zones signals task to (Some from) (answers.Stopped name) = IsFirstTouched zones task signals from to name
IsMoveAnswerOn zones signals task to (Some from) _ = ⊥

abbrev pub IsAnswerOn : BoardData → ℕ → Request → Answer → Type 0
IsAnswerOn boards actor (requests.Setpoint to) answer = IsMoveAnswerOn boards.zones boards.signals actor to (actor_at boards.actors actor).arm answer
IsAnswerOn boards actor request answer = answer ≡ answer_on boards actor request

-- the boards' answer to a request, what it changes that tasks wait for, and the boards afterwards
pub record Answers (cell : CellData) (old : BoardData) (actor : ℕ) (request : Request) (outcome : Outcome) (new : BoardData) : Type 0 where
  pub answer : IsAnswerOn old actor request outcome.answer
  pub change : outcome.change ≡ change_on cell old actor request outcome.answer
  pub boards : new ≡ asked_on cell old actor request outcome.answer
