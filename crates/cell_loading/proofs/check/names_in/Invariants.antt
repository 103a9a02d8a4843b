use Rattle.std.proofs.Common.{◌≡◌, take}
use Rattle.cell_loading.specs.ReadModules.{names_in}
use Rattle.cell_loading.proofs.check.names_in.Given as goal

abbrev pub invariant-loop-task : goal.invariant-loop-task
invariant-loop-task l = l.names.items ≡ names_in (take l.task-index l.tasks)
