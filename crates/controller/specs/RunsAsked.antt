-- What the report of a round-robin run says, whoever asks.
use Rattle.std.specs.Prelude.{◌≡◌, length}
use Rattle.rapid_model.specs.CellData.{CellData}
use Rattle.cell_meaning.specs.Asking.{Asking, with_inputs}
use Rattle.cell_meaning.specs.Fates.{fates_after}
use Rattle.cell_meaning.specs.Histories.{IsLegal, IsWhole}
use Rattle.cell_meaning.specs.Turns.{IsByTurns}
use Rattle.controller.specs.declared.report.Report.{Report}

-- its history is the run by turns of tasks that ask this, and its fates follow from that
pub record IsRunAsking (asks : Asking) (cell : CellData) (report : Report) : Type 0 where
  pub fates : report.fates.items ≡ fates_after cell report.history.items (length cell.tasks)
  pub by_turns : IsByTurns (with_inputs asks cell) cell report.history.items
  pub legal : IsLegal (with_inputs asks cell) cell report.history.items
  pub whole : IsWhole (with_inputs asks cell) cell report.history.items
