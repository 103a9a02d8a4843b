-- The earlier events are done again.
use Rattle.history_audit.proofs.Doing.{AmidEvents}
use Rattle.history_audit.proofs.auditing.first_wrong.Given as goal

abbrev pub invariant-loop-event : goal.invariant-loop-event
invariant-loop-event g l =
    AmidEvents g.M.TaskMachine.program g.M.TaskMachine.stands_for g.M.TaskMachine.due g.A.Askers.asks l.initial.machines l.machines l.initial.core.cell l.core.cell l.events l.core.history l.event-index
