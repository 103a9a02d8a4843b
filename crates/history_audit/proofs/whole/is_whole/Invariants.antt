-- No event of an earlier task can follow.
use Rattle.cell_meaning.specs.Asking.{with_inputs}
use Rattle.history_audit.proofs.Rests.{EarlierRest}
use Rattle.history_audit.proofs.whole.is_whole.Given as goal

abbrev pub invariant-loop-task : goal.invariant-loop-task
invariant-loop-task g l = EarlierRest (with_inputs g.A.Askers.asks l.core.cell) l.core.cell l.core.history l.task
