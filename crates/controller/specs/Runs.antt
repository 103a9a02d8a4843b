-- The run theorem: what the report of a run promises.
use Rattle.std.specs.Prelude.{◌≡◌, ℕ, ◌<◌, false, List, length}
use Rattle.rapid_model.specs.CellData.{CellData}
use Rattle.rapid_model.specs.Own.{part_of, has_ended}
use Rattle.rapid_model.specs.declared.event.Event.{Event}
use Rattle.typed_trees.specs.Plain.{TypedTree}
use Rattle.rapid_meaning.specs.Asking.{tree_asks}
use Rattle.cell_meaning.specs.Asking.{with_inputs}
use Rattle.cell_meaning.specs.Fates.{fates_after}
use Rattle.cell_meaning.specs.Histories.{IsLegal, IsWhole}
use Rattle.cell_meaning.specs.OutputsFollow.{OutputsFollow}
use Rattle.cell_meaning.specs.Turns.{IsByTurns}
use Rattle.controller.specs.declared.report.Report.{Report}
use Rattle.cell_runs.specs.Outcomes.{MissesZones, WaitsToRise, run_status}

-- the report has this history of the cell, and the fates that follow from it
pub record TellsRun (cell : CellData) (history : List Event) (report : Report) : Type 0 where
  pub history_is : report.history.items ≡ history
  pub fates_is : report.fates.items ≡ fates_after cell history (length cell.tasks)

-- What holds of any run. The history interleaves complete traces of the tasks' trees and of the input script, and each
-- answer is the one that one shared cell gives at that point. The fates follow from it, no arm passed through a zone that
-- watched it, and each output that a zone sets has the zone's value exactly while the arm is in the zone. If the status is
-- 8, each task that has not ended waits and cannot resume.
pub record IsRun (cell : CellData) (trees : List TypedTree) (report : Report) : Type 0 where
  pub legal : IsLegal (with_inputs (tree_asks trees) cell) cell report.history.items
  pub whole : IsWhole (with_inputs (tree_asks trees) cell) cell report.history.items
  pub fates : report.fates.items ≡ fates_after cell report.history.items (length cell.tasks)
  pub clear : MissesZones cell report.history.items
  pub outputs : OutputsFollow cell report.history.items
  pub stalled : run_status cell report.history.items ≡ 8 → (task : ℕ) → task < length cell.tasks → has_ended (part_of task report.history.items) ≡ false
      → WaitsToRise cell trees report.history.items task

-- What holds of a round-robin run: what holds of any run, and the history is the round-robin run, which is unique for
-- the cell and the trees.
pub record IsRunByTurns (cell : CellData) (trees : List TypedTree) (report : Report) : Type 0 where
  pub run : IsRun cell trees report
  pub by_turns : IsByTurns (with_inputs (tree_asks trees) cell) cell report.history.items
