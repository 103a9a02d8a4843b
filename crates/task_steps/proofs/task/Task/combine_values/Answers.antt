use Rattle.std.proofs.Common.{sym}
use Rattle.task_steps.proofs.InPlace.{there_value}
use Rattle.task_steps.proofs.task.Task.combine_values.Goals as goal

pub combine-requires-clause-right : goal.combine-requires-clause-right
combine-requires-clause-right c = there_value _ _ (sym c.in_ok-right.ensures)

pub combine-requires-clause-left : goal.combine-requires-clause-left
combine-requires-clause-left c = there_value _ _ (sym c.in_ok-left.ensures)
