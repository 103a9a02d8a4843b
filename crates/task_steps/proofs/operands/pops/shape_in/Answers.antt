use Rattle.task_steps.proofs.Popped.{shape_on}
use Rattle.task_steps.proofs.operands.pops.shape_in.Goals as goal

pub returns : goal.returns
returns c = λ rest next. rw c.shape.ensures (shape_on c.args.held.now rest next)
