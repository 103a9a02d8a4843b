use Rattle.std.proofs.Common.{refl}
use Rattle.rapid_meaning.specs.Doings.{after}
use Rattle.task_steps.proofs.task.Task.put_number.Goals as goal

pub returns-in-Some-clause-on : goal.returns-in-Some-clause-on
unfolding after
returns-in-Some-clause-on c = λ code. rw (c.in-Some.is, c.set_top_num.ensures, c.drop_operand.ensures) refl

pub returns-in-None-clause-on : goal.returns-in-None-clause-on
unfolding after
returns-in-None-clause-on c = λ code. rw c.in-None.is refl
