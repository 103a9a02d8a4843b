-- When a call adds no event, and what its answer says then.
use Rattle.std.specs.Prelude.{◌≡◌, ℕ, Bool, true, false, ◌||◌, nat_le, List, length}
use Rattle.rapid_model.specs.CellData.{CellData}
use Rattle.rapid_model.specs.declared.event.Event.{Event}
use Rattle.rapid_model.specs.declared.request.Request.{Request}
use Rattle.rapid_model.specs.declared.request.Request.TheVariants as requests
use Rattle.cell_meaning.specs.Fates.{all_ended, is_spent}
use Rattle.cell_meaning.specs.Inputs.{inputs_done, is_open}
use Rattle.cell_meaning.specs.Rising.{can_rise}
use Rattle.cell_meaning.specs.Stalled.{is_stalled}
use Rattle.cell_gate.specs.declared.fed.Fed.{Fed}
use Rattle.cell_gate.specs.declared.fed.Fed.TheVariants as fed
use Rattle.cell_gate.specs.declared.now.Now.{Now}
use Rattle.cell_gate.specs.declared.now.Now.TheVariants as now

-- a Rise and an Input may not be enabled; any other request always is
abbrev pub may_wait : Request → Bool
may_wait requests.Rise = true
may_wait (requests.Input index) = true
may_wait _ = false

-- steps of the run are left, and the task, which is held, cannot go on
pub record Sleeps (cell : CellData) (history : List Event) (task : ℕ) : Type 0 where
  pub steps_left : is_spent cell history ≡ false
  pub asleep : can_rise cell history task ≡ false

-- The held task does not go on after this history, and the answer says why: Spent if no steps of the run are left;
-- otherwise it cannot go on, and the cell is stalled or not.
abbrev pub StaysHeld : CellData → List Event → ℕ → Now → Type 0
StaysHeld cell history task now.Woken = ⊥
StaysHeld cell history task now.NotYet = Sleeps cell history task × (is_stalled cell history ≡ false)
StaysHeld cell history task now.Stalled = Sleeps cell history task × (is_stalled cell history ≡ true)
StaysHeld cell history task now.Spent = is_spent cell history ≡ true

-- no step of the input script is left, all tasks have ended, some task has not ended and no steps of the run are left,
-- or the cell is stalled
abbrev pub is_over : CellData → List Event → Bool
is_over cell history =
    nat_le (length cell.inputs) (inputs_done cell history) || all_ended (length cell.tasks) history || is_spent cell history || is_stalled cell history

-- The input script does not do the step with this number after this history, and the answer says why: Over if it does
-- no more steps, otherwise NotYet if this one is not open.
abbrev pub FeedsNone : CellData → List Event → ℕ → Fed → Type 0
FeedsNone cell history index fed.Given = ⊥
FeedsNone cell history index fed.NotYet = (is_over cell history ≡ false) × (is_open cell history index ≡ false)
FeedsNone cell history index fed.Over = is_over cell history ≡ true
