-- What an actor may ask whose number is no task's.
use Rattle.std.proofs.Common.{◌≡◌, ℕ, ◌≤◌, Bool, true, false, List, length, Option, None, sym, ◌∙◌, ap, arith}
use Rattle.std.specs.Prelude.{◌&&◌, ◌==◌, slice_get}
use Rattle.std.proofs.lemmas.Bool.{eq-eqb, ne_eqb}
use Rattle.rapid_model.specs.CellData.{CellData}
use Rattle.rapid_model.specs.Own.{part_of}
use Rattle.rapid_model.specs.Requests.{suits_inputs}
use Rattle.rapid_model.specs.declared.event.Event.{Event}
use Rattle.rapid_model.specs.declared.request.Request.{Request}
use Rattle.rapid_model.specs.declared.task_row.TaskRow.{TaskRow}
use Rattle.cell_meaning.specs.MayAsk.{may_ask}
use Rattle.cell_meaning.proofs.Asked.{suits_by}
use Rattle.cell_core.specs.Actors.{actor_at}
use Rattle.cell_core.specs.Boards.{BoardData}
use Rattle.cell_core.specs.Keeping.{Keeps}

-- the number after the last task's is the input script's, which asks its steps; any other asks nothing
asked_by : (cell : CellData) (actor tasks : ℕ) (mine : List Event) (request : Request) (is : Bool) → tasks ≡ length cell.tasks → slice_get cell.tasks actor ≡ None
    → (actor == tasks) ≡ is → (is && suits_inputs cell mine request) ≡ may_ask cell actor mine request
asked_by cell actor tasks mine request is last none same =
    ap (λ (b : Bool). b && suits_inputs cell mine request) (sym same)
    ∙ ap (λ (n : ℕ). (actor == n) && suits_inputs cell mine request) last
    ∙ sym (ap (λ (row : Option TaskRow). suits_by cell actor mine request row) none)

pub script_asks : (cell : CellData) (history : List Event) (boards : BoardData) (steps actor tasks done : ℕ) (request : Request) (feeds : Bool) → Keeps cell history boards steps
    → tasks ≡ length cell.tasks → slice_get cell.tasks actor ≡ None → actor ≡ tasks → done ≡ (actor_at boards.actors tasks).events
    → ((mine : List Event) → done ≡ length mine → feeds ≡ suits_inputs cell mine request) → feeds ≡ may_ask cell actor (part_of actor history) request
script_asks cell history boards steps actor tasks done request feeds keeps last none is count fed =
    let mine = part_of actor history in
    let few : actor ≤ length cell.tasks = omega (arith, is, last) in
    let told : (actor_at boards.actors actor).events ≡ length mine = (keeps.actors actor few).events in
    fed mine (count ∙ ap (λ (k : ℕ). (actor_at boards.actors k).events) (sym is) ∙ told) ∙ asked_by cell actor tasks mine request true last none (eq-eqb actor tasks is)

pub nobody_asks : (cell : CellData) (actor tasks : ℕ) (mine : List Event) (request : Request) → tasks ≡ length cell.tasks → slice_get cell.tasks actor ≡ None → (actor ≡ tasks → ⊥)
    → (actor == tasks) ≡ may_ask cell actor mine request
nobody_asks cell actor tasks mine request last none differs =
    let no : (actor == tasks) ≡ false = ne_eqb actor tasks differs in
    no ∙ asked_by cell actor tasks mine request false last none no
