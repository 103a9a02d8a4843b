use Rattle.std.proofs.Common.{arith}
use Rattle.rapid_meaning.proofs.TaskSets.{with_task_below}
use Rattle.task_steps.proofs.operations.syncing.with_task.Goals as goal

pub overflow_cast-result-else-set-bit-eq1 : goal.overflow_cast-result-else-set-bit-eq1
overflow_cast-result-else-set-bit-eq1 c = search (arith, with_task_below 16 c.args.task c.args.set (omega arith) (omega arith))
