-- The fates of earlier tasks are right.
use Rattle.cell_meaning.specs.Asking.{with_inputs}
use Rattle.history_audit.proofs.GivenFates.{EarlierRight}
use Rattle.history_audit.proofs.fates.wrong_fate.Given as goal

abbrev pub invariant-loop-task : goal.invariant-loop-task
invariant-loop-task g l = EarlierRight (with_inputs g.A.Askers.asks l.core.cell) l.core.cell l.core.history l.fates l.task
