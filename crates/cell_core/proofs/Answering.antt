-- The boards' answers are the cell's.
use Rattle.std.proofs.Common.{◌≡◌, ℕ, ◌≤◌, Bool, false, List, [], length, get_or, Option, None, Some, refl, ◌∙◌, ap, subst, arith}
use Rattle.std.specs.Prelude.{if◌then◌else◌}
use Rattle.rapid_num.specs.declared.joints.Joints.{Joints}
use Rattle.rapid_model.specs.CellData.{CellData}
use Rattle.rapid_model.specs.declared.answer.Answer.{Answer}
use Rattle.rapid_model.specs.declared.answer.Answer.TheVariants as answers
use Rattle.rapid_model.specs.declared.event.Event.{Event}
use Rattle.rapid_model.specs.declared.request.Request.{Request}
use Rattle.rapid_model.specs.declared.request.Request.TheVariants as requests
use Rattle.rapid_model.specs.declared.value.Value.{Value}
use Rattle.sync_tasks.specs.Meetings.{MeetingsData}
use Rattle.trap_dispatch.specs.Firing.{connected_at}
use Rattle.trap_dispatch.specs.Tasks.{TaskData, connect_answer, look_answer}
use Rattle.trap_dispatch.specs.Traps.{task_at}
use Rattle.world_zones.specs.Outputs.{is_tied, tie_answer}
use Rattle.world_zones.specs.Zones.{ZonesData, arm_at, zone_at, set_answer, is_temporary}
use Rattle.cell_meaning.specs.Answers.{look_of, value_of, is_false, position_of, number_of, order_of, known_of, zone_number_of, tie_number_of, written_of, temporary_of, answer_after, IsMoveAnswer, IsAnswer}
use Rattle.cell_meaning.specs.Changes.{changes_by_others}
use Rattle.cell_meaning.specs.Interrupts.{due_after}
use Rattle.cell_meaning.specs.Meetings.{meets}
use Rattle.cell_meaning.specs.Motion.{arm_after}
use Rattle.cell_meaning.specs.Stored.{signals_after, value_at}
use Rattle.cell_meaning.specs.Zones.{zones_after}
use Rattle.cell_core.specs.Actors.{actor_at}
use Rattle.cell_core.specs.Boards.{BoardData}
use Rattle.cell_core.specs.Keeping.{Keeps}
use Rattle.cell_core.specs.Answering.{made_by_others, answer_on, IsMoveAnswerOn, IsAnswerOn}

-- the changes that an actor did not make were made by others
pub others_made : (cell : CellData) (history : List Event) (boards : BoardData) (steps actor : ℕ) → Keeps cell history boards steps → actor ≤ length cell.tasks
    → made_by_others boards actor ≡ changes_by_others cell history actor
others_made cell history boards steps actor keeps within = omega (arith, (keeps.actors actor within).made)

answer_on_is : (cell : CellData) (history : List Event) (boards : BoardData) (steps actor : ℕ) (request : Request) → Keeps cell history boards steps → actor ≤ length cell.tasks
    → answer_on boards actor request ≡ answer_after cell history actor request
answer_on_is cell history boards steps actor requests.Look keeps within =
    ap (λ (ts : List TaskData). look_of (look_answer (task_at ts actor)) (made_by_others boards actor)) keeps.traps
    ∙ ap (λ (n : ℕ). look_of (due_after cell history actor) n) (others_made cell history boards steps actor keeps within)
answer_on_is cell history boards steps actor (requests.ReadP pers path) keeps within = ap (λ (rows : List (List Value)). value_of (value_at (get_or rows pers []) path)) keeps.store
answer_on_is cell history boards steps actor (requests.TestSet pers path) keeps within = ap (λ (rows : List (List Value)). answers.Yes (is_false (value_at (get_or rows pers []) path))) keeps.store
answer_on_is cell history boards steps actor (requests.ReadS signal) keeps within = ap (λ (ss : List Bool). answers.Bit (get_or ss signal false)) keeps.signals
answer_on_is cell history boards steps actor (requests.WriteS signal value) keeps within = ap (λ (zs : ZonesData). written_of (is_tied zs signal)) keeps.zones
answer_on_is cell history boards steps actor requests.Position keeps within = ap (λ (arm : Option Joints). position_of arm) (keeps.actors actor within).arm
answer_on_is cell history boards steps actor (requests.Connect old trap) keeps within = ap (λ (ts : List TaskData). number_of (connect_answer (task_at ts actor) old)) keeps.traps
answer_on_is cell history boards steps actor (requests.Order number on single) keeps within = ap (λ (ts : List TaskData). order_of (connected_at (task_at ts actor).numbers number)) keeps.traps
answer_on_is cell history boards steps actor (requests.Sleep number) keeps within = ap (λ (ts : List TaskData). known_of (connected_at (task_at ts actor).numbers number)) keeps.traps
answer_on_is cell history boards steps actor (requests.Watch number) keeps within = ap (λ (ts : List TaskData). known_of (connected_at (task_at ts actor).numbers number)) keeps.traps
answer_on_is cell history boards steps actor (requests.Delete number) keeps within = ap (λ (ts : List TaskData). known_of (connected_at (task_at ts actor).numbers number)) keeps.traps
answer_on_is cell history boards steps actor (requests.ZoneSet old temporary shape) keeps within = ap (λ (zs : ZonesData). zone_number_of (set_answer (arm_at zs actor) old)) keeps.zones
answer_on_is cell history boards steps actor (requests.ZoneTie old temporary shape signal value) keeps within = ap (λ (zs : ZonesData). tie_number_of (tie_answer zs actor old signal)) keeps.zones
answer_on_is cell history boards steps actor (requests.ZoneOn zone) keeps within = ap (λ (zs : ZonesData). temporary_of (is_temporary (zone_at (arm_at zs actor) zone))) keeps.zones
answer_on_is cell history boards steps actor (requests.ZoneOff zone) keeps within = ap (λ (zs : ZonesData). temporary_of (is_temporary (zone_at (arm_at zs actor) zone))) keeps.zones
answer_on_is cell history boards steps actor (requests.ZoneFree zone) keeps within = ap (λ (zs : ZonesData). temporary_of (is_temporary (zone_at (arm_at zs actor) zone))) keeps.zones
answer_on_is cell history boards steps actor (requests.Arrive meeting tasks) keeps within = ap (λ (m : MeetingsData). if meets m actor meeting tasks then answers.Met else answers.Apart) keeps.meetings
answer_on_is cell history boards steps actor _ keeps within = refl

same_move : (cell : CellData) (history : List Event) (actor : ℕ) (to : Joints) (from : Option Joints) (answer : Answer)
    → IsMoveAnswerOn (zones_after cell history) (signals_after cell history) actor to from answer → IsMoveAnswer cell history actor to from answer
same_move cell history actor to None answer is = is
same_move cell history actor to (Some from) answers.Given is = is
same_move cell history actor to (Some from) (answers.Stopped name) is = is
same_move cell history actor to (Some from) _ is = absurd is

move_is : (cell : CellData) (history : List Event) (zones : ZonesData) (signals : List Bool) (actor : ℕ) (to : Joints) (arm : Option Joints) (answer : Answer)
    → zones ≡ zones_after cell history → signals ≡ signals_after cell history → arm ≡ arm_after cell history actor → IsMoveAnswerOn zones signals actor to arm answer
    → IsMoveAnswer cell history actor to (arm_after cell history actor) answer
move_is cell history zones signals actor to arm answer zs ss at is =
    same_move cell history actor to (arm_after cell history actor) answer
    (subst (λ (a : Option Joints). IsMoveAnswerOn (zones_after cell history) (signals_after cell history) actor to a answer) at
    (subst (λ (s : List Bool). IsMoveAnswerOn (zones_after cell history) s actor to arm answer) ss (subst (λ (z : ZonesData). IsMoveAnswerOn z signals actor to arm answer) zs is)))

pub answer_is : (cell : CellData) (history : List Event) (boards : BoardData) (steps actor : ℕ) (request : Request) (answer : Answer) → Keeps cell history boards steps → actor ≤ length cell.tasks
    → IsAnswerOn boards actor request answer → IsAnswer cell history actor request answer
answer_is cell history boards steps actor (requests.Setpoint to) answer keeps within is =
    move_is cell history boards.zones boards.signals actor to (actor_at boards.actors actor).arm answer keeps.zones keeps.signals (keeps.actors actor within).arm is
answer_is cell history boards steps actor request answer keeps within is = is ∙ answer_on_is cell history boards steps actor request keeps within
