use Rattle.task_steps.proofs.Popped.{value_on}
use Rattle.task_steps.proofs.operands.pops.value_in.Goals as goal

pub returns : goal.returns
returns c = λ rest next. rw c.into_value.ensures (value_on c.args.held rest next)
