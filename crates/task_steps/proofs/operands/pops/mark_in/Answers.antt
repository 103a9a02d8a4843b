use Rattle.task_steps.proofs.Popped.{mark_on}
use Rattle.task_steps.proofs.operands.pops.mark_in.Goals as goal

pub returns : goal.returns
returns c = λ rest next. rw c.mark.ensures (mark_on c.args.held.now rest next)
