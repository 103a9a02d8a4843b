use Rattle.cell_loading.specs.Loaded.{reads_in}
use Rattle.cell_loading.proofs.Checking.{Checking}
use Rattle.cell_loading.proofs.check.check_tasks.Given as goal

abbrev pub invariant-loop-task : goal.invariant-loop-task
invariant-loop-task l = Checking l.script (reads_in l.modules) l.task-index l.trees.items l.rest
