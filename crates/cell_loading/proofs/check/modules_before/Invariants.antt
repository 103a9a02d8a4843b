use Rattle.cell_loading.proofs.Checking.{Counting}
use Rattle.cell_loading.proofs.check.modules_before.Given as goal

abbrev pub invariant-loop-k : goal.invariant-loop-k
invariant-loop-k l = Counting l.tasks l.k l.before
