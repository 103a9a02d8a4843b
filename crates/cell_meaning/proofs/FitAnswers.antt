-- The cell's answer to an actor that may ask fits the request.
use Rattle.std.proofs.Common.{◌≡◌, ◌⊎◌, inl, inr, ℕ, ◌-◌, ◌≤◌, Bool, true, false, not, List, length, Option, None, Some, is_some, nat_le, refl, sym, ◌∙◌, ap, subst, arith}
use Rattle.std.specs.Prelude.{◌&&◌, IsTrue, Result, Ok, Err, count_by, slice_get, if◌then◌else◌}
use Rattle.std.specs.List.{list_all}
use Rattle.std.specs.Option.{option_map}
use Rattle.std.proofs.lemmas.Bool.{and_parts, eq-eqb, le-leb, false≢true, and_from}
use Rattle.rapid_num.specs.declared.joints.Joints.{Joints}
use Rattle.rapid_num.specs.declared.shape.Shape.{Shape}
use Rattle.rapid_num.specs.Reach.{is_position}
use Rattle.rapid_model.specs.CellData.{CellData, IsCell}
use Rattle.rapid_model.specs.Fits.{fits_pers, fits_request, fitting_in}
use Rattle.rapid_model.specs.Limits.{is_within}
use Rattle.rapid_model.specs.Own.{part_of, is_trap, is_leave, is_trapped, has_connected}
use Rattle.rapid_model.specs.Paths.{has_path}
use Rattle.rapid_model.specs.Requests.{of_pers}
use Rattle.rapid_model.specs.declared.answer.Answer.{Answer}
use Rattle.rapid_model.specs.declared.answer.Answer.TheVariants as answers
use Rattle.rapid_model.specs.declared.event.Event.{Event}
use Rattle.rapid_model.specs.declared.path.Path.{Path}
use Rattle.rapid_model.specs.declared.pers_cell.PersCell.{PersCell}
use Rattle.rapid_model.specs.declared.request.Request.{Request}
use Rattle.rapid_model.specs.declared.request.Request.TheVariants as requests
use Rattle.rapid_model.specs.Truths.{one_if}
use Rattle.trap_dispatch.specs.declared.connect_fault.ConnectFault.{ConnectFault}
use Rattle.trap_dispatch.specs.declared.connect_fault.ConnectFault.TheVariants as connect_faults
use Rattle.trap_dispatch.specs.declared.connected.Connected.{Connected}
use Rattle.trap_dispatch.specs.declared.due.Due.{Due}
use Rattle.trap_dispatch.specs.declared.due.Due.TheVariants as dues
use Rattle.trap_dispatch.specs.Firing.{connected_at}
use Rattle.trap_dispatch.specs.Tasks.{TaskData, connect_answer, look_answer, trap_of}
use Rattle.world_zones.specs.declared.tie_fault.TieFault.{TieFault}
use Rattle.world_zones.specs.declared.tie_fault.TieFault.TheVariants as tie_faults
use Rattle.world_zones.specs.declared.zone_fault.ZoneFault.{ZoneFault}
use Rattle.world_zones.specs.declared.zone_fault.ZoneFault.TheVariants as zone_faults
use Rattle.world_zones.specs.Outputs.{is_tied, tie_answer}
use Rattle.world_zones.specs.Zones.{arm_at, zone_at, set_answer, is_temporary}
use Rattle.cell_meaning.specs.Answers.{IsAnswer, IsMoveAnswer, look_of, value_of, position_of, number_of, order_of, known_of, zone_number_of, tie_number_of, written_of, temporary_of}
use Rattle.cell_meaning.specs.Changes.{changes_by_others}
use Rattle.cell_meaning.specs.Interrupts.{interrupts_of}
use Rattle.cell_meaning.specs.MayAsk.{may_ask}
use Rattle.cell_meaning.specs.Meetings.{is_met}
use Rattle.cell_meaning.specs.Premises.{AllAnswered, StartsFull}
use Rattle.cell_meaning.specs.Stored.{persistent_after, value_at}
use Rattle.cell_meaning.specs.Zones.{zones_after}
use Rattle.cell_meaning.proofs.Asked.{TaskMay, ScriptMay, who_may}
use Rattle.cell_meaning.proofs.InterruptsKept.{first_is_due, free_number, tasks_kept}
use Rattle.cell_meaning.proofs.TaskKept.{KeptTask, has_entry}
use Rattle.cell_meaning.proofs.Positions.{arm_well, row_axes}
use Rattle.cell_meaning.proofs.ValuesKept.{test_of, value_there, values_kept}
use Rattle.cell_meaning.proofs.ZonesKept.{free_zone, tie_given, zones_kept}

-- the answer fits the request of an actor with these own events
abbrev Fits : CellData → ℕ → List Event → Request → Answer → Type 0
Fits cell actor mine request answer = fits_request (fitting_in cell actor mine) request answer ≡ true

-- a trap that is to run is one that the task named, and the task is in none
first_fits : (mine : List Event) (t : TaskData) (number trap : ℕ) → look_answer t ≡ dues.Trap number trap → KeptTask mine t → (has_connected mine trap && not (is_trapped mine)) ≡ true
first_fits mine t number trap is kept =
    let first = first_is_due t number trap is in
    let connected : is_some (connected_at t.numbers number) ≡ true =
    (and_parts (is_some (connected_at t.numbers number)) (list_all (λ n. is_some (connected_at t.numbers n)) first.rest)
    (subst (λ (queue : List ℕ). list_all (λ n. is_some (connected_at t.numbers n)) queue ≡ true) first.queue kept.sound.connected)).0 in
    let none_under_way : one_if t.in_trap ≡ 0 = ap one_if first.free in
    let begun = kept.begun in
    let even : count_by (λ e. is_trap e.answer) mine ≡ count_by (λ e. is_leave e.request) mine = omega (arith, begun, none_under_way) in
    let free : not (is_trapped mine) ≡ true = ap (λ (b : Bool). not (not b)) (eq-eqb (count_by (λ e. is_trap e.answer) mine) (count_by (λ e. is_leave e.request) mine) even) in
    and_from (has_connected mine trap) (not (is_trapped mine)) (named (connected_at t.numbers number) refl connected first.its) free
  where
    named : (entry : Option Connected) → connected_at t.numbers number ≡ entry → is_some entry ≡ true → trap ≡ trap_of (connected_at t.numbers number) → has_connected mine trap ≡ true
    named None at h its = absurd (false≢true h)
    named (Some c) at h its = ap (has_connected mine) (its ∙ ap trap_of at) ∙ kept.traps (number - 1) c (has_entry t.numbers number c at).there

look_fits : (cell : CellData) (actor : ℕ) (mine : List Event) (t : TaskData) (seen : ℕ) (due : Due) → look_answer t ≡ due → KeptTask mine t → Fits cell actor mine requests.Look (look_of due seen)
look_fits cell actor mine t seen dues.None is kept = refl
look_fits cell actor mine t seen dues.Flood is kept = refl
look_fits cell actor mine t seen (dues.Trap number trap) is kept = first_fits mine t number trap is kept

within_so : (low high n : ℕ) → low ≤ n → n ≤ high → is_within low high n ≡ true
within_so low high n from to = and_from (nat_le low n) (nat_le n high) (le-leb low n from) (le-leb n high to)

number_fits : (cell : CellData) (actor : ℕ) (mine : List Event) (t : TaskData) (old trap : ℕ) (result : Result ℕ ConnectFault) → connect_answer t old ≡ result → length t.numbers ≡ 64
    → Fits cell actor mine (requests.Connect old trap) (number_of result)
number_fits cell actor mine t old trap (Ok number) is entries = let bounds = free_number t old number entries is in within_so 1 64 number bounds.0 bounds.1
number_fits cell actor mine t old trap (Err connect_faults.Already) is entries = refl
number_fits cell actor mine t old trap (Err connect_faults.NoMore) is entries = refl

-- the value of the persistent's part that the path names
value_fits : (cell : CellData) (history : List Event) (pers : ℕ) (path : Path) (actor : ℕ) (mine : List Event) → IsCell cell → StartsFull cell → AllAnswered cell history
    → of_pers cell pers (λ p. has_path p path) ≡ true → Fits cell actor mine (requests.ReadP pers path) (value_of (value_at (persistent_after cell history pers) path))
value_fits cell history pers path actor mine limits full asked suits = by (slice_get cell.pers pers) refl
  where
    by : (row : Option PersCell) → slice_get cell.pers pers ≡ row → Fits cell actor mine (requests.ReadP pers path) (value_of (value_at (persistent_after cell history pers) path))
    by None at = absurd (false≢true (sym (ap (test_of (λ p. has_path p path)) at) ∙ suits))
    by (Some row) at =
        let path_there : has_path row path ≡ true = sym (ap (test_of (λ p. has_path p path)) at) ∙ suits in
        let found = value_there row (persistent_after cell history pers) path (values_kept cell history limits full asked pers row at) path_there in
        subst (λ (a : Answer). Fits cell actor mine (requests.ReadP pers path) a) (sym (ap value_of found.there)) (ap (λ (o : Option PersCell). fits_pers (option_map (λ (r : PersCell). r.sort) o) path.part found.value) at ∙ found.fits)

order_fits : (cell : CellData) (actor : ℕ) (mine : List Event) (request : Request) (entry : Option Connected) → Fits cell actor mine request answers.Unknown → Fits cell actor mine request answers.Already → Fits cell actor mine request answers.Ok
    → Fits cell actor mine request (order_of entry)
order_fits cell actor mine request None unknown already ok = unknown
order_fits cell actor mine request (Some c) unknown already ok = by (is_some c.order)
  where
    by : (b : Bool) → Fits cell actor mine request (if b then answers.Already else answers.Ok)
    by true = already
    by false = ok

known_fits : (cell : CellData) (actor : ℕ) (mine : List Event) (request : Request) (entry : Option Connected) → Fits cell actor mine request answers.Unknown → Fits cell actor mine request answers.Ok → Fits cell actor mine request (known_of entry)
known_fits cell actor mine request None unknown ok = unknown
known_fits cell actor mine request (Some c) unknown ok = ok

temporary_fits : (cell : CellData) (actor : ℕ) (mine : List Event) (request : Request) (b : Bool) → Fits cell actor mine request answers.NoZone → Fits cell actor mine request answers.Ok → Fits cell actor mine request (temporary_of b)
temporary_fits cell actor mine request true none ok = ok
temporary_fits cell actor mine request false none ok = none

met_fits : (cell : CellData) (actor : ℕ) (mine : List Event) (meeting tasks : ℕ) (b : Bool) → Fits cell actor mine (requests.Arrive meeting tasks) (if b then answers.Met else answers.Apart)
met_fits cell actor mine meeting tasks true = refl
met_fits cell actor mine meeting tasks false = refl

move_fits : (cell : CellData) (history : List Event) (actor : ℕ) (mine : List Event) (task : ℕ) (to from : Joints) (answer : Answer) → IsMoveAnswer cell history task to (Some from) answer → Fits cell actor mine (requests.Setpoint to) answer
move_fits cell history actor mine task to from answers.Given is = refl
move_fits cell history actor mine task to from (answers.Stopped name) is = refl
move_fits cell history actor mine task to from _ is = absurd is

-- the zones' answers
zone_fits : (cell : CellData) (history : List Event) (actor : ℕ) (mine : List Event) (task old : ℕ) (request : Request) (result : Result ℕ ZoneFault) → set_answer (arm_at (zones_after cell history) task) old ≡ result
    → Fits cell actor mine request answers.ZoneUsed → Fits cell actor mine request answers.ZoneFull → ((n : ℕ) → is_within 1 10 n ≡ true → Fits cell actor mine request (answers.Number n))
    → Fits cell actor mine request (zone_number_of result)
zone_fits cell history actor mine task old request (Ok number) is used full new =
    let bounds = free_zone (arm_at (zones_after cell history) task) old number (zones_kept cell history task) is in
    new number (within_so 1 10 number bounds.0 bounds.1)
zone_fits cell history actor mine task old request (Err zone_faults.ZoneUsed) is used full new = used
zone_fits cell history actor mine task old request (Err zone_faults.ZoneFull) is used full new = full

tie_fits : (cell : CellData) (history : List Event) (actor : ℕ) (mine : List Event) (task old : ℕ) (temporary : Bool) (shape : Shape) (signal : ℕ) (value : Bool) (result : Result ℕ TieFault)
    → tie_answer (zones_after cell history) task old signal ≡ result → Fits cell actor mine (requests.ZoneTie old temporary shape signal value) (tie_number_of result)
tie_fits cell history actor mine task old temporary shape signal value (Ok number) is =
    let arm = arm_at (zones_after cell history) task in
    let new = tie_given (is_tied (zones_after cell history) signal) (set_answer arm old) number is in
    let bounds = free_zone arm old number (zones_kept cell history task) new.1 in
    within_so 1 10 number bounds.0 bounds.1
tie_fits cell history actor mine task old temporary shape signal value (Err tie_faults.ZoneUsed) is = refl
tie_fits cell history actor mine task old temporary shape signal value (Err tie_faults.ZoneFull) is = refl
tie_fits cell history actor mine task old temporary shape signal value (Err tie_faults.Tied) is = refl

written_fits : (cell : CellData) (actor : ℕ) (mine : List Event) (signal : ℕ) (value b : Bool) → Fits cell actor mine (requests.WriteS signal value) (written_of b)
written_fits cell actor mine signal value true = refl
written_fits cell actor mine signal value false = refl

-- what is known of a task and its cell
record Known (cell : CellData) (history : List Event) (actor : ℕ) (request : Request) : Type 0 where
  limits : IsCell cell
  full : StartsFull cell
  asked : AllAnswered cell history
  may : TaskMay cell actor (part_of actor history) request

task_fits : (cell : CellData) (history : List Event) (actor : ℕ) (request : Request) (answer : Answer) → Known cell history actor request → IsAnswer cell history actor request answer
    → Fits cell actor (part_of actor history) request answer
task_fits cell history actor requests.Look answer known is =
    subst (λ (a : Answer). Fits cell actor (part_of actor history) requests.Look a) (sym is)
    (look_fits cell actor (part_of actor history) (interrupts_of cell history actor) (changes_by_others cell history actor) (look_answer (interrupts_of cell history actor)) refl ((tasks_kept cell history known.asked).each actor known.may.within))
task_fits cell history actor (requests.ReadP pers path) answer known is =
    subst (λ (a : Answer). Fits cell actor (part_of actor history) (requests.ReadP pers path) a) (sym is) (value_fits cell history pers path actor (part_of actor history) known.limits known.full known.asked known.may.suits)
task_fits cell history actor requests.Position answer known is =
    let stands = arm_well cell history actor known.may.row known.limits known.asked known.may.at known.may.suits in
    subst (λ (a : Answer). Fits cell actor (part_of actor history) requests.Position a) (sym (is ∙ ap position_of stands.there))
    (subst (λ (axes : ℕ). is_position axes stands.position ≡ true) (sym (row_axes cell actor known.may.row known.may.at)) stands.well)
task_fits cell history actor (requests.WriteS signal value) answer known is =
    subst (λ (a : Answer). Fits cell actor (part_of actor history) (requests.WriteS signal value) a) (sym is) (written_fits cell actor (part_of actor history) signal value (is_tied (zones_after cell history) signal))
task_fits cell history actor (requests.Setpoint to) answer known is =
    let stands = arm_well cell history actor known.may.row known.limits known.asked known.may.at (and_parts (is_some known.may.row.arm) (is_position known.may.row.axes to) known.may.suits).0 in
    move_fits cell history actor (part_of actor history) actor to stands.position answer (subst (λ (o : Option Joints). IsMoveAnswer cell history actor to o answer) stands.there is)
task_fits cell history actor (requests.Connect old trap) answer known is =
    subst (λ (a : Answer). Fits cell actor (part_of actor history) (requests.Connect old trap) a) (sym is)
    (number_fits cell actor (part_of actor history) (interrupts_of cell history actor) old trap (connect_answer (interrupts_of cell history actor) old) refl ((tasks_kept cell history known.asked).each actor known.may.within).sound.count)
task_fits cell history actor (requests.Order number on single) answer known is =
    subst (λ (a : Answer). Fits cell actor (part_of actor history) (requests.Order number on single) a) (sym is) (order_fits cell actor (part_of actor history) (requests.Order number on single) (connected_at (interrupts_of cell history actor).numbers number) refl refl refl)
task_fits cell history actor (requests.Sleep number) answer known is =
    subst (λ (a : Answer). Fits cell actor (part_of actor history) (requests.Sleep number) a) (sym is) (known_fits cell actor (part_of actor history) (requests.Sleep number) (connected_at (interrupts_of cell history actor).numbers number) refl refl)
task_fits cell history actor (requests.Watch number) answer known is =
    subst (λ (a : Answer). Fits cell actor (part_of actor history) (requests.Watch number) a) (sym is) (known_fits cell actor (part_of actor history) (requests.Watch number) (connected_at (interrupts_of cell history actor).numbers number) refl refl)
task_fits cell history actor (requests.Delete number) answer known is =
    subst (λ (a : Answer). Fits cell actor (part_of actor history) (requests.Delete number) a) (sym is) (known_fits cell actor (part_of actor history) (requests.Delete number) (connected_at (interrupts_of cell history actor).numbers number) refl refl)
task_fits cell history actor (requests.ZoneSet old temporary shape) answer known is =
    subst (λ (a : Answer). Fits cell actor (part_of actor history) (requests.ZoneSet old temporary shape) a) (sym is)
    (zone_fits cell history actor (part_of actor history) actor old (requests.ZoneSet old temporary shape) (set_answer (arm_at (zones_after cell history) actor) old) refl refl refl (λ n within. within))
task_fits cell history actor (requests.ZoneTie old temporary shape signal value) answer known is =
    subst (λ (a : Answer). Fits cell actor (part_of actor history) (requests.ZoneTie old temporary shape signal value) a) (sym is)
    (tie_fits cell history actor (part_of actor history) actor old temporary shape signal value (tie_answer (zones_after cell history) actor old signal) refl)
task_fits cell history actor (requests.ZoneOn zone) answer known is =
    subst (λ (a : Answer). Fits cell actor (part_of actor history) (requests.ZoneOn zone) a) (sym is) (temporary_fits cell actor (part_of actor history) (requests.ZoneOn zone) (is_temporary (zone_at (arm_at (zones_after cell history) actor) zone)) refl refl)
task_fits cell history actor (requests.ZoneOff zone) answer known is =
    subst (λ (a : Answer). Fits cell actor (part_of actor history) (requests.ZoneOff zone) a) (sym is) (temporary_fits cell actor (part_of actor history) (requests.ZoneOff zone) (is_temporary (zone_at (arm_at (zones_after cell history) actor) zone)) refl refl)
task_fits cell history actor (requests.ZoneFree zone) answer known is =
    subst (λ (a : Answer). Fits cell actor (part_of actor history) (requests.ZoneFree zone) a) (sym is) (temporary_fits cell actor (part_of actor history) (requests.ZoneFree zone) (is_temporary (zone_at (arm_at (zones_after cell history) actor) zone)) refl refl)
task_fits cell history actor (requests.Arrive meeting tasks) answer known is =
    subst (λ (a : Answer). Fits cell actor (part_of actor history) (requests.Arrive meeting tasks) a) (sym is) (met_fits cell actor (part_of actor history) meeting tasks (is_met cell history actor meeting tasks))
task_fits cell history actor request answer known is = subst (λ (a : Answer). Fits cell actor (part_of actor history) request a) (sym is) refl

script_fits : (cell : CellData) (history : List Event) (actor index : ℕ) (request : Request) (answer : Answer) → request ≡ requests.Input index → IsAnswer cell history actor request answer
    → Fits cell actor (part_of actor history) request answer
script_fits cell history actor index request answer next is =
    let ok : answer ≡ answers.Ok = subst (λ (r : Request). IsAnswer cell history actor r answer) next is in
    subst (λ (r : Request). Fits cell actor (part_of actor history) r answer) (sym next) (subst (λ (a : Answer). Fits cell actor (part_of actor history) (requests.Input index) a) (sym ok) refl)

-- the cell's answer fits the request of an actor that may make it
pub answer_fits : (cell : CellData) (history : List Event) (actor : ℕ) (request : Request) (answer : Answer) → IsCell cell → StartsFull cell → AllAnswered cell history
    → IsTrue (may_ask cell actor (part_of actor history) request) → IsAnswer cell history actor request answer → IsTrue (fits_request (fitting_in cell actor (part_of actor history)) request answer)
answer_fits cell history actor request answer limits full asked may is = by (who_may cell actor (part_of actor history) request may)
  where
    by : TaskMay cell actor (part_of actor history) request ⊎ ScriptMay cell actor (part_of actor history) request → Fits cell actor (part_of actor history) request answer
    by (inl task) =
        task_fits cell history actor request answer (record { limits = limits; full = full; asked = asked; may = task }) is
    by (inr script) = script_fits cell history actor (length (part_of actor history)) request answer script.next is
