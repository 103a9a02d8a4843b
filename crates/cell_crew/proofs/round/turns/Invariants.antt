-- The tasks before this one have taken their turns.
use Rattle.cell_crew.proofs.Rounds.{HaveTurned}
use Rattle.cell_crew.proofs.round.turns.Given as goal

abbrev pub invariant-loop-task : goal.invariant-loop-task
invariant-loop-task g l =
    HaveTurned g.M.TaskMachine.program g.M.TaskMachine.stands_for g.M.TaskMachine.due g.A.Askers.asks l.initial.machines l.machines l.initial.core.cell l.core.cell l.initial.core.history l.core.history l.task
