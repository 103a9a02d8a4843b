-- What is enabled, read off the boards.
use Rattle.std.proofs.Common.{◌≡◌, ◌⊎◌, inl, inr, ℕ, ◌<◌, Bool, false, List, length, Option, None, Some, refl, sym, ◌∙◌, ap, subst}
use Rattle.std.specs.Prelude.{IsTrue, not, ◌&&◌, nat_lt, slice_get}
use Rattle.std.proofs.lemmas.Bool.{eq-eqb, false≢true}
use Rattle.rapid_model.specs.CellData.{CellData}
use Rattle.rapid_model.specs.Own.{part_of}
use Rattle.rapid_model.specs.declared.event.Event.{Event}
use Rattle.rapid_model.specs.declared.input_row.InputRow.{InputRow}
use Rattle.rapid_model.specs.declared.request.Request.{Request}
use Rattle.rapid_model.specs.declared.request.Request.TheVariants as requests
use Rattle.cell_meaning.specs.Answers.{is_enabled}
use Rattle.cell_meaning.specs.Counted.{counted}
use Rattle.cell_meaning.specs.Fates.{all_ended}
use Rattle.cell_meaning.specs.Inputs.{inputs_done, gate_holds, is_gate_open, is_open}
use Rattle.cell_meaning.specs.MayAsk.{may_ask}
use Rattle.cell_meaning.proofs.Asked.{TaskMay, ScriptMay, who_may}
use Rattle.cell_core.specs.Boards.{BoardData}
use Rattle.cell_core.specs.Keeping.{Keeps}
use Rattle.cell_core.specs.Reading.{is_passed}
use Rattle.cell_core.specs.Ready.{CanPass}
use Rattle.cell_core.proofs.Reading.{gate_is}

-- only a task rises
pub rises : (cell : CellData) (actor : ℕ) (mine : List Event) (request : Request) → request ≡ requests.Rise → IsTrue (may_ask cell actor mine request) → actor < length cell.tasks
rises cell actor mine request is may = by (who_may cell actor mine request may)
  where
    by : TaskMay cell actor mine request ⊎ ScriptMay cell actor mine request → actor < length cell.tasks
    by (inl task) = task.within
    by (inr script) = (let no : requests.Rise ≡ requests.Input (length mine) = sym is ∙ script.next in cc)

-- only the input script does a step of it, and only the next one
next_step : (cell : CellData) (history : List Event) (actor index : ℕ) → IsTrue (may_ask cell actor (part_of actor history) (requests.Input index)) → index ≡ inputs_done cell history
next_step cell history actor index may = by (who_may cell actor (part_of actor history) (requests.Input index) may)
  where
    by : TaskMay cell actor (part_of actor history) (requests.Input index) ⊎ ScriptMay cell actor (part_of actor history) (requests.Input index) → index ≡ inputs_done cell history
    by (inl task) = absurd (false≢true task.suits)
    by (inr script) =
        (let same : index ≡ length (part_of actor history) = (let whole : requests.Input index ≡ requests.Input (length (part_of actor history)) = script.next in cc) in
        same ∙ ap (λ (k : ℕ). length (part_of k history)) script.script)

pub input_enabled : (cell : CellData) (history : List Event) (actor : ℕ) (request : Request) (index : ℕ) → request ≡ requests.Input index → IsTrue (may_ask cell actor (part_of actor history) request)
    → is_open cell history (inputs_done cell history) ≡ is_enabled cell history actor request
input_enabled cell history actor request index is may =
    let next = next_step cell history actor index (subst (λ (r : Request). IsTrue (may_ask cell actor (part_of actor history) r)) is may) in
    ap (λ (k : ℕ). is_open cell history k) (sym next) ∙ sym (ap (λ (r : Request). is_enabled cell history actor r) is)

-- the next step is open if its gate holds, a task has not ended, and steps are left
pub open_is : (cell : CellData) (history : List Event) (boards : BoardData) (steps : ℕ) (row : InputRow) → Keeps cell history boards steps → slice_get cell.inputs (inputs_done cell history) ≡ Some row → CanPass boards row
    → (is_passed boards row && not (all_ended (length cell.tasks) history) && nat_lt boards.counted steps) ≡ is_open cell history (inputs_done cell history)
open_is cell history boards steps row keeps at can =
    let done = inputs_done cell history in
    let over = all_ended (length cell.tasks) history in
    ap (λ (b : Bool). b && not over && nat_lt boards.counted steps) (gate_is cell history boards steps row keeps can)
    ∙ ap (λ (n : ℕ). gate_holds cell history row && not over && nat_lt n steps) keeps.counted_same
    ∙ ap (λ (n : ℕ). gate_holds cell history row && not over && nat_lt (counted history) n) keeps.steps_same
    ∙ sym (ap (λ (o : Option InputRow). is_gate_open cell history o && not over && nat_lt (counted history) cell.steps) at)
    ∙ sym (ap (λ (b : Bool). b && is_gate_open cell history (slice_get cell.inputs done) && not over && nat_lt (counted history) cell.steps) (eq-eqb done done refl))

-- after the last step, none is open
pub closed_is : (cell : CellData) (history : List Event) → slice_get cell.inputs (inputs_done cell history) ≡ None → false ≡ is_open cell history (inputs_done cell history)
closed_is cell history at =
    let done = inputs_done cell history in
    let over = all_ended (length cell.tasks) history in
    sym (ap (λ (b : Bool). b && is_gate_open cell history (slice_get cell.inputs done) && not over && nat_lt (counted history) cell.steps) (eq-eqb done done refl)
    ∙ ap (λ (o : Option InputRow). is_gate_open cell history o && not over && nat_lt (counted history) cell.steps) at)
