-- The crew is under way after some rounds.
use Rattle.std.proofs.Common.{◌+◌, ◌-◌, length}
use Rattle.cell_crew.proofs.Rounds.{AmidRounds}
use Rattle.cell_crew.proofs.round.run.Given as goal

abbrev pub invariant-rounds : goal.invariant-rounds
invariant-rounds g l =
    AmidRounds g.M.TaskMachine.program g.M.TaskMachine.stands_for g.M.TaskMachine.due g.A.Askers.asks l.fn.machines l.machines l.fn.core.cell l.core.cell l.core.history

-- each round but the last adds an event
abbrev pub decreases-rounds : goal.decreases-rounds
decreases-rounds g l = l.core.cell.steps + length l.core.cell.tasks + length l.core.cell.inputs - length l.core.history
