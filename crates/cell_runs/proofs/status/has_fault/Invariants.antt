use Rattle.std.proofs.Common.{◌≡◌}
use Rattle.std.specs.List.{list_any}
use Rattle.cell_meaning.specs.Fates.{fates_after}
use Rattle.cell_runs.specs.Outcomes.{is_fault}
use Rattle.cell_runs.proofs.status.has_fault.Given as goal

abbrev pub invariant-loop-task : goal.invariant-loop-task
invariant-loop-task l = l.found ≡ list_any is_fault (fates_after l.core.cell l.core.history l.task)
