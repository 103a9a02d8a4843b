use Rattle.std.proofs.Common.{◌≡◌, ◌≤◌, length}
use Rattle.std.specs.Vec.{vec_capacity}
use Rattle.cell_core.specs.Reading.{fates_of}
use Rattle.cell_core.proofs.report.tell.Given as goal

abbrev pub invariant-loop-task : goal.invariant-loop-task
invariant-loop-task l =
    record { told : l.fates.items ≡ fates_of l.spent l.task l.boards.actors; count : length l.fates.items ≡ l.task; room : l.tasks ≤ vec_capacity l.fates }
