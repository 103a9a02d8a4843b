-- An event whose actor may ask its request, and whose answer fits, fits the names of the cell.
use Rattle.std.proofs.Common.{◌≡◌, ◌⊎◌, inl, inr, ℕ, true, List, length, is_some, refl, sym, ◌∙◌, ap, arith}
use Rattle.std.specs.Prelude.{◌&&◌, IsTrue, nat_lt}
use Rattle.std.proofs.lemmas.Bool.{and_from, and_parts, le-leb}
use Rattle.rapid_num.specs.Reach.{is_position}
use Rattle.rapid_num.specs.declared.joints.Joints.{Joints}
use Rattle.rapid_model.specs.CellData.{CellData, IsCell}
use Rattle.rapid_model.specs.Fits.{fits_request, fitting_in}
use Rattle.rapid_model.specs.Requests.{suits_task}
use Rattle.rapid_model.specs.declared.answer.Answer.{Answer}
use Rattle.rapid_model.specs.declared.answer.Answer.TheVariants as answers
use Rattle.rapid_model.specs.declared.event.Event.{Event}
use Rattle.rapid_model.specs.declared.request.Request.{Request}
use Rattle.rapid_model.specs.declared.request.Request.TheVariants as requests
use Rattle.rapid_model.specs.declared.task_row.TaskRow.{TaskRow}
use Rattle.rapid_model.specs.declared.watched.Watched.TheVariants as watched
use Rattle.cell_meaning.specs.MayAsk.{may_ask}
use Rattle.cell_meaning.proofs.Asked.{ScriptMay, TaskMay, who_may}
use Rattle.cell_meaning.proofs.Positions.{row_axes}
use Rattle.history_text.specs.Named.{answer_fits, axes_of, event_fits, fitting_by, has_actor, has_arm, request_fits}
use Rattle.history_laws.specs.Shown.{names_in}
use Rattle.history_laws.proofs.Asked.{read_named, some_axes, tested_named, written_named}
use Rattle.rapid_model.proofs.TaskRows.{starts_at}

-- an answer with a number may have any number
number_named : (cell : CellData) (actor : ℕ) (mine : List Event) (request : Request) (number : ℕ) → fits_request (fitting_in cell actor mine) request (answers.Number number) ≡ true
    → fits_request (fitting_by (names_in cell) actor) request (answers.Number 1) ≡ true
number_named cell actor mine (requests.Connect old trap) number fits = refl
number_named cell actor mine (requests.ZoneSet old temporary shape) number fits = refl
number_named cell actor mine (requests.ZoneTie old temporary shape signal value) number fits = refl
number_named cell actor mine request number fits = fits

-- any other answer that fits in the cell fits the names; only Look, ReadP and Position have answers that depend on more than
-- their form
plain_named : (cell : CellData) (actor : ℕ) (mine : List Event) (request : Request) (answer : Answer) → fits_request (fitting_in cell actor mine) request answer ≡ true
    → fits_request (fitting_by (names_in cell) actor) request answer ≡ true
plain_named cell actor mine requests.Look (answers.Trap number trap) fits = refl
plain_named cell actor mine (requests.ReadP pers path) (answers.Val value) fits = fits
plain_named cell actor mine requests.Position (answers.At position) fits = fits
plain_named cell actor mine (requests.WriteP pers path value) answers.Ok fits = fits
plain_named cell actor mine (requests.TestSet pers path) answers.Ok fits = fits
plain_named cell actor mine (requests.ReadS signal) answers.Ok fits = fits
plain_named cell actor mine (requests.WriteS signal value) answers.Ok fits = fits
plain_named cell actor mine (requests.Setpoint to) answers.Ok fits = fits
plain_named cell actor mine (requests.Connect old trap) answers.Ok fits = fits
plain_named cell actor mine (requests.Order number on single) answers.Ok fits = fits
plain_named cell actor mine (requests.Sleep number) answers.Ok fits = fits
plain_named cell actor mine (requests.Watch number) answers.Ok fits = fits
plain_named cell actor mine (requests.Delete number) answers.Ok fits = fits
plain_named cell actor mine requests.Disable answers.Ok fits = fits
plain_named cell actor mine requests.Enable answers.Ok fits = fits
plain_named cell actor mine requests.Leave answers.Ok fits = fits
plain_named cell actor mine (requests.ZoneSet old temporary shape) answers.Ok fits = fits
plain_named cell actor mine (requests.ZoneTie old temporary shape signal value) answers.Ok fits = fits
plain_named cell actor mine (requests.ZoneOn zone) answers.Ok fits = fits
plain_named cell actor mine (requests.ZoneOff zone) answers.Ok fits = fits
plain_named cell actor mine (requests.ZoneFree zone) answers.Ok fits = fits
plain_named cell actor mine (requests.Arrive meeting tasks) answers.Ok fits = fits
plain_named cell actor mine (requests.Hold seen) answers.Ok fits = fits
plain_named cell actor mine requests.Rise answers.Ok fits = fits
plain_named cell actor mine (requests.Input index) answers.Ok fits = fits
plain_named cell actor mine (requests.Say text tail) answers.Ok fits = fits
plain_named cell actor mine (requests.End fate) answers.Ok fits = fits
plain_named cell actor mine request answer fits = fits

answer_named : (cell : CellData) (actor : ℕ) (mine : List Event) (request : Request) (answer : Answer) → fits_request (fitting_in cell actor mine) request answer ≡ true
    → answer_fits (names_in cell) actor request answer ≡ true
answer_named cell actor mine request (answers.Number number) fits = number_named cell actor mine request number fits
answer_named cell actor mine request answer fits = plain_named cell actor mine request answer fits

-- what is known of a task that asks: the axes of its row, of which an arm has some
record Asks (cell : CellData) (actor : ℕ) (row : TaskRow) : Type 0 where
  axes : axes_of (names_in cell) actor ≡ row.axes
  some : is_some row.arm ≡ true → nat_lt 0 row.axes ≡ true

armed_named : (cell : CellData) (actor : ℕ) (row : TaskRow) → Asks cell actor row → is_some row.arm ≡ true → has_arm (names_in cell) actor ≡ true
armed_named cell actor row asks armed = ap (nat_lt 0) asks.axes ∙ asks.some armed

moved_named : (cell : CellData) (actor : ℕ) (row : TaskRow) (to : Joints) → Asks cell actor row → (is_some row.arm && is_position row.axes to) ≡ true
    → (has_arm (names_in cell) actor && is_position (axes_of (names_in cell) actor) to) ≡ true
moved_named cell actor row to asks suits =
    let both = and_parts (is_some row.arm) (is_position row.axes to) suits in
    and_from (has_arm (names_in cell) actor) (is_position (axes_of (names_in cell) actor) to) (armed_named cell actor row asks both.0)
    (ap (λ (axes : ℕ). is_position axes to) asks.axes ∙ both.1)

request_named : (cell : CellData) (actor : ℕ) (row : TaskRow) (mine : List Event) (request : Request) → Asks cell actor row → suits_task cell row mine request ≡ true
    → request_fits (names_in cell) actor request ≡ true
request_named cell actor row mine (requests.ReadP pers path) asks suits = read_named cell pers path suits
request_named cell actor row mine (requests.WriteP pers path value) asks suits = written_named cell pers path value suits
request_named cell actor row mine (requests.TestSet pers path) asks suits = tested_named cell pers path suits
request_named cell actor row mine (requests.ReadS signal) asks suits = suits
request_named cell actor row mine (requests.WriteS signal value) asks suits = suits
request_named cell actor row mine requests.Position asks suits = armed_named cell actor row asks suits
request_named cell actor row mine (requests.Setpoint to) asks suits = moved_named cell actor row to asks suits
request_named cell actor row mine (requests.Order number (watched.Signal signal value) single) asks suits = suits
request_named cell actor row mine (requests.Order number (watched.Pers pers) single) asks suits = suits
request_named cell actor row mine (requests.ZoneTie old temporary shape signal value) asks suits = (and_parts (is_some row.arm) (nat_lt signal (length cell.signals)) suits).1
request_named cell actor row mine (requests.End fate) asks suits = suits
request_named cell actor row mine request asks suits = refl

task_named : (cell : CellData) (mine : List Event) (e : Event) → IsCell cell → TaskMay cell e.actor mine e.request
    → fits_request (fitting_in cell e.actor mine) e.request e.answer ≡ true → event_fits (names_in cell) e ≡ true
task_named cell mine e limits may fits =
    and_from (has_actor (names_in cell) e.actor) (request_fits (names_in cell) e.actor e.request && answer_fits (names_in cell) e.actor e.request e.answer)
    (le-leb e.actor (length cell.tasks) (omega (arith, may.within)))
    (and_from (request_fits (names_in cell) e.actor e.request) (answer_fits (names_in cell) e.actor e.request e.answer)
    (request_named cell e.actor may.row mine e.request
    (record { axes = row_axes cell e.actor may.row may.at; some = some_axes may.row.axes may.row.arm (starts_at cell.tasks e.actor may.row limits.starts may.at) }) may.suits)
    (answer_named cell e.actor mine e.request e.answer fits))

script_named : (cell : CellData) (mine : List Event) (e : Event) → ScriptMay cell e.actor mine e.request → fits_request (fitting_in cell e.actor mine) e.request e.answer ≡ true
    → event_fits (names_in cell) e ≡ true
script_named cell mine e may fits =
    and_from (has_actor (names_in cell) e.actor) (request_fits (names_in cell) e.actor e.request && answer_fits (names_in cell) e.actor e.request e.answer)
    (le-leb e.actor (length cell.tasks) (let script : e.actor ≡ length cell.tasks = may.script in omega (arith, script)))
    (and_from (request_fits (names_in cell) e.actor e.request) (answer_fits (names_in cell) e.actor e.request e.answer)
    (ap (request_fits (names_in cell) e.actor) may.next) (answer_named cell e.actor mine e.request e.answer fits))

-- the event fits the names
pub event_named : (cell : CellData) (mine : List Event) (e : Event) → IsCell cell → IsTrue (may_ask cell e.actor mine e.request)
    → IsTrue (fits_request (fitting_in cell e.actor mine) e.request e.answer) → IsTrue (event_fits (names_in cell) e)
event_named cell mine e limits may fits = by (who_may cell e.actor mine e.request may)
  where
    by : TaskMay cell e.actor mine e.request ⊎ ScriptMay cell e.actor mine e.request → event_fits (names_in cell) e ≡ true
    by (inl task) = task_named cell mine e limits task fits
    by (inr script) = script_named cell mine e script fits
