-- What is known of an actor that may make a request, and of the request.
use Rattle.std.proofs.Common.{◌≡◌, ◌⊎◌, inl, inr, ℕ, ◌<◌, Bool, true, false, List, length, Option, Some, None, refl, ap, arith}
use Rattle.std.specs.Prelude.{IsTrue, not, ◌&&◌, ◌==◌, nat_lt, slice_get}
use Rattle.std.proofs.lemmas.Bool.{and_parts, eqb-true, ltb-true, false≢true, not-true}
use Rattle.std.proofs.lemmas.Option.{slice_get_within}
use Rattle.rapid_model.specs.CellData.{CellData}
use Rattle.rapid_model.specs.Own.{has_ended, is_held, is_rise}
use Rattle.rapid_model.specs.Requests.{suits_inputs, suits_task, goes_with}
use Rattle.rapid_model.specs.declared.event.Event.{Event}
use Rattle.rapid_model.specs.declared.request.Request.{Request}
use Rattle.rapid_model.specs.declared.request.Request.TheVariants as requests
use Rattle.rapid_model.specs.declared.task_row.TaskRow.{TaskRow}
use Rattle.cell_meaning.specs.MayAsk.{may_ask}

-- a task of the cell that has not ended makes a request that suits it: Rise if it is held, and nothing else
pub record TaskMay (cell : CellData) (actor : ℕ) (mine : List Event) (request : Request) : Type 0 where
  pub row : TaskRow
  pub at : slice_get cell.tasks actor ≡ Some row
  pub within : actor < length cell.tasks
  pub alive : has_ended mine ≡ false
  pub goes : IsTrue (goes_with (is_held mine) (is_rise request))
  pub suits : IsTrue (suits_task cell row mine request)

-- the input script asks its next step
pub record ScriptMay (cell : CellData) (actor : ℕ) (mine : List Event) (request : Request) : Type 0 where
  pub script : actor ≡ length cell.tasks
  pub next : request ≡ requests.Input (length mine)
  pub left : length mine < length cell.inputs

abbrev pub suits_by : CellData → ℕ → List Event → Request → Option TaskRow → Bool
suits_by cell actor mine request (Some row) = not (has_ended mine) && goes_with (is_held mine) (is_rise request) && suits_task cell row mine request
suits_by cell actor mine request None = actor == length cell.tasks && suits_inputs cell mine request

next_input : (cell : CellData) (actor : ℕ) (mine : List Event) (request : Request) → actor ≡ length cell.tasks → suits_inputs cell mine request ≡ true → ScriptMay cell actor mine request
next_input cell actor mine (requests.Input index) script suits =
    let w = and_parts (index == length mine) (nat_lt index (length cell.inputs)) suits in
    let same : index ≡ length mine = eqb-true index (length mine) w.0 in
    record { script = script; next = ap (λ (k : ℕ). requests.Input k) same; left = omega (arith, same, ltb-true index (length cell.inputs) w.1) }
next_input cell actor mine _ script suits = absurd (false≢true suits)

who : (cell : CellData) (actor : ℕ) (mine : List Event) (request : Request) (row : Option TaskRow) → slice_get cell.tasks actor ≡ row
    → suits_by cell actor mine request row ≡ true → TaskMay cell actor mine request ⊎ ScriptMay cell actor mine request
who cell actor mine request (Some row) at suits =
    let w = and_parts (not (has_ended mine) && goes_with (is_held mine) (is_rise request)) (suits_task cell row mine request) suits in
    let v = and_parts (not (has_ended mine)) (goes_with (is_held mine) (is_rise request)) w.0 in
    inl (record {
      row = row;
      at = at;
      within = slice_get_within cell.tasks actor row at;
      alive = not-true (has_ended mine) v.0;
      goes = v.1;
      suits = w.1;
    })
who cell actor mine request None at suits =
    let w = and_parts (actor == length cell.tasks) (suits_inputs cell mine request) suits in
    inr (next_input cell actor mine request (eqb-true actor (length cell.tasks) w.0) w.1)

pub who_may : (cell : CellData) (actor : ℕ) (mine : List Event) (request : Request) → IsTrue (may_ask cell actor mine request) → TaskMay cell actor mine request ⊎ ScriptMay cell actor mine request
who_may cell actor mine request may = who cell actor mine request (slice_get cell.tasks actor) refl may
