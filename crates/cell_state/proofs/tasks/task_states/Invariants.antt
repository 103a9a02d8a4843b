-- The states of the earlier tasks.
use Rattle.cell_state.proofs.TaskStates.{AmidTasks}
use Rattle.cell_state.proofs.tasks.task_states.Given as goal

abbrev pub invariant-loop-task : goal.invariant-loop-task
invariant-loop-task g l = AmidTasks l.machines l.core.history l.states.items l.task
