-- What one shared cell answers after a history, and when a request can be answered.
use Rattle.std.specs.Prelude.{◌≡◌, ℕ, Bool, true, false, List, Option, Some, None, Result, Ok, Err, is_some, if◌then◌else◌}
use Rattle.rapid_num.specs.declared.joints.Joints.{Joints}
use Rattle.rapid_model.specs.CellData.{CellData}
use Rattle.rapid_model.specs.declared.answer.Answer.{Answer}
use Rattle.rapid_model.specs.declared.answer.Answer.TheVariants as answers
use Rattle.rapid_model.specs.declared.event.Event.{Event}
use Rattle.rapid_model.specs.declared.request.Request.{Request}
use Rattle.rapid_model.specs.declared.request.Request.TheVariants as requests
use Rattle.rapid_model.specs.declared.value.Value.{Value}
use Rattle.rapid_model.specs.declared.value.Value.TheVariants as values
use Rattle.rapid_model.specs.declared.zone_name.ZoneName.{ZoneName}
use Rattle.trap_dispatch.specs.declared.connect_fault.ConnectFault.{ConnectFault}
use Rattle.trap_dispatch.specs.declared.connect_fault.ConnectFault.TheVariants as connect_faults
use Rattle.trap_dispatch.specs.declared.connected.Connected.{Connected}
use Rattle.trap_dispatch.specs.declared.due.Due.{Due}
use Rattle.trap_dispatch.specs.declared.due.Due.TheVariants as dues
use Rattle.trap_dispatch.specs.Firing.{connected_at}
use Rattle.trap_dispatch.specs.Tasks.{connect_answer}
use Rattle.world_zones.specs.declared.tie_fault.TieFault.{TieFault}
use Rattle.world_zones.specs.declared.tie_fault.TieFault.TheVariants as tie_faults
use Rattle.world_zones.specs.declared.zone_fault.ZoneFault.{ZoneFault}
use Rattle.world_zones.specs.declared.zone_fault.ZoneFault.TheVariants as zone_faults
use Rattle.world_zones.specs.Outputs.{is_tied, tie_answer}
use Rattle.world_zones.specs.Touched.{IsTouched, IsFirstTouched}
use Rattle.world_zones.specs.Zones.{arm_at, zone_at, set_answer, is_temporary}
use Rattle.cell_meaning.specs.Changes.{changes_by_others}
use Rattle.cell_meaning.specs.Inputs.{is_open}
use Rattle.cell_meaning.specs.Interrupts.{interrupts_of, due_after}
use Rattle.cell_meaning.specs.Meetings.{is_met}
use Rattle.cell_meaning.specs.Motion.{arm_after}
use Rattle.cell_meaning.specs.Rising.{can_rise}
use Rattle.cell_meaning.specs.Stored.{signal_after, signals_after, persistent_after, value_at}
use Rattle.cell_meaning.specs.Zones.{zones_after}

-- the request can be answered now: only Rise and Input ever wait
abbrev pub is_enabled : CellData → List Event → ℕ → Request → Bool
is_enabled cell history actor requests.Rise = can_rise cell history actor
is_enabled cell history actor (requests.Input index) = is_open cell history index
is_enabled cell history actor _ = true

-- the marked flood, else the trap that is to run, else how many changes others made
abbrev pub look_of : Due → ℕ → Answer
look_of dues.Flood seen = answers.Flood
look_of (dues.Trap number trap) seen = answers.Trap number trap
look_of dues.None seen = answers.Go seen

-- the value of a part; a path that names no part is never asked for
abbrev pub value_of : Option Value → Answer
value_of (Some value) = answers.Val value
value_of None = answers.Ok

abbrev pub is_false : Option Value → Bool
is_false (Some (values.Bool false)) = true
is_false _ = false

-- the arm's position; a task without an arm does not ask
abbrev pub position_of : Option Joints → Answer
position_of (Some position) = answers.At position
position_of None = answers.Ok

abbrev pub number_of : Result ℕ ConnectFault → Answer
number_of (Ok number) = answers.Number number
number_of (Err connect_faults.Already) = answers.Already
number_of (Err connect_faults.NoMore) = answers.NoMore

-- an interrupt has at most one order
abbrev pub order_of : Option Connected → Answer
order_of None = answers.Unknown
order_of (Some connected) = if is_some connected.order then answers.Already else answers.Ok

abbrev pub known_of : Option Connected → Answer
known_of None = answers.Unknown
known_of (Some connected) = answers.Ok

abbrev pub zone_number_of : Result ℕ ZoneFault → Answer
zone_number_of (Ok number) = answers.Number number
zone_number_of (Err zone_faults.ZoneUsed) = answers.ZoneUsed
zone_number_of (Err zone_faults.ZoneFull) = answers.ZoneFull

abbrev pub tie_number_of : Result ℕ TieFault → Answer
tie_number_of (Ok number) = answers.Number number
tie_number_of (Err tie_faults.ZoneUsed) = answers.ZoneUsed
tie_number_of (Err tie_faults.ZoneFull) = answers.ZoneFull
tie_number_of (Err tie_faults.Tied) = answers.Tied

-- a signal that a zone sets is not written, not even by the zone's own task
abbrev pub written_of : Bool → Answer
written_of true = answers.Tied
written_of false = answers.Ok

-- a stationary zone stays
abbrev pub temporary_of : Bool → Answer
temporary_of true = answers.Ok
temporary_of false = answers.NoZone

-- the cell's answer to a request after a history
abbrev pub answer_after : CellData → List Event → ℕ → Request → Answer
answer_after cell history actor requests.Look = look_of (due_after cell history actor) (changes_by_others cell history actor)
-- persistents and signals
answer_after cell history actor (requests.ReadP pers path) = value_of (value_at (persistent_after cell history pers) path)
answer_after cell history actor (requests.WriteP pers path value) = answers.Ok
answer_after cell history actor (requests.TestSet pers path) = answers.Yes (is_false (value_at (persistent_after cell history pers) path))
answer_after cell history actor (requests.ReadS signal) = answers.Bit (signal_after cell history signal)
answer_after cell history actor (requests.WriteS signal value) = written_of (is_tied (zones_after cell history) signal)
-- the arm; IsMoveAnswer has the answer to a setpoint
answer_after cell history actor requests.Position = position_of (arm_after cell history actor)
answer_after cell history actor (requests.Setpoint to) = answers.Ok
-- interrupts
answer_after cell history actor (requests.Connect old trap) = number_of (connect_answer (interrupts_of cell history actor) old)
answer_after cell history actor (requests.Order number on single) = order_of (connected_at (interrupts_of cell history actor).numbers number)
answer_after cell history actor (requests.Sleep number) = known_of (connected_at (interrupts_of cell history actor).numbers number)
answer_after cell history actor (requests.Watch number) = known_of (connected_at (interrupts_of cell history actor).numbers number)
answer_after cell history actor (requests.Delete number) = known_of (connected_at (interrupts_of cell history actor).numbers number)
answer_after cell history actor requests.Disable = answers.Ok
answer_after cell history actor requests.Enable = answers.Ok
answer_after cell history actor requests.Leave = answers.Ok
-- zones
answer_after cell history actor (requests.ZoneSet old temporary shape) = zone_number_of (set_answer (arm_at (zones_after cell history) actor) old)
answer_after cell history actor (requests.ZoneTie old temporary shape signal value) = tie_number_of (tie_answer (zones_after cell history) actor old signal)
answer_after cell history actor (requests.ZoneOn zone) = temporary_of (is_temporary (zone_at (arm_at (zones_after cell history) actor) zone))
answer_after cell history actor (requests.ZoneOff zone) = temporary_of (is_temporary (zone_at (arm_at (zones_after cell history) actor) zone))
answer_after cell history actor (requests.ZoneFree zone) = temporary_of (is_temporary (zone_at (arm_at (zones_after cell history) actor) zone))
-- meetings and waits; is_enabled says when Rise and Input are answered
answer_after cell history actor (requests.Arrive meeting tasks) = if is_met cell history actor meeting tasks then answers.Met else answers.Apart
answer_after cell history actor (requests.Hold seen) = answers.Ok
answer_after cell history actor requests.Rise = answers.Ok
answer_after cell history actor (requests.Input index) = answers.Ok
-- texts, and the end
answer_after cell history actor (requests.Say text tail) = answers.Ok
answer_after cell history actor (requests.End fate) = answers.Ok

-- The answer to a setpoint, from the arm's position: given exactly if the way there touches no zone, otherwise stopped
-- by the first zone that it touches. A task without an arm does not ask.
abbrev pub IsMoveAnswer : CellData → List Event → ℕ → Joints → Option Joints → Answer → Type 0
IsMoveAnswer cell history task to None answer = answer ≡ answers.Ok
IsMoveAnswer cell history task to (Some from) answers.Given = (name : ZoneName) → ¬ IsTouched (zones_after cell history) task (signals_after cell history) from to name
IsMoveAnswer cell history task to (Some from) (answers.Stopped name) = IsFirstTouched (zones_after cell history) task (signals_after cell history) from to name
IsMoveAnswer cell history task to (Some from) _ = ⊥

-- the answer is the cell's
abbrev pub IsAnswer : CellData → List Event → ℕ → Request → Answer → Type 0
IsAnswer cell history actor (requests.Setpoint to) answer = IsMoveAnswer cell history actor to (arm_after cell history actor) answer
IsAnswer cell history actor request answer = answer ≡ answer_after cell history actor request
