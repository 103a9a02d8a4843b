-- How the tasks stand after a complete history.
use Rattle.std.specs.Prelude.{◌≡◌, ℕ, ◌⊎◌, false, List, IsTrue}
use Rattle.rapid_model.specs.CellData.{CellData}
use Rattle.rapid_model.specs.Own.{part_of, answers_of, has_ended}
use Rattle.rapid_model.specs.declared.event.Event.{Event}
use Rattle.rapid_model.specs.declared.request.Request.{Request}
use Rattle.cell_meaning.specs.Answers.{is_enabled}
use Rattle.cell_meaning.specs.Asking.{Asking}
use Rattle.cell_meaning.specs.Fates.{is_spent}

-- the task makes a request that is not enabled
pub record Waits (asks : Asking) (cell : CellData) (history : List Event) (task : ℕ) : Type 0 where
  pub request : Request
  pub asked : asks task (answers_of task history) request
  pub not_enabled : is_enabled cell history task request ≡ false

-- the task has ended, or waits for something that is not enabled, or the steps are used up
abbrev pub IsOver : Asking → CellData → List Event → ℕ → Type 0
IsOver asks cell history task = IsTrue (has_ended (part_of task history)) ⊎ Waits asks cell history task ⊎ IsTrue (is_spent cell history)
