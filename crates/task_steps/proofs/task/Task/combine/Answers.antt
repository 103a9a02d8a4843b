use Rattle.std.proofs.Common.{ap, sym}
use Rattle.std.specs.Option.{option_and_then}
use Rattle.machine_stacks.specs.Forms.{as_value}
use Rattle.rapid_meaning.specs.Doings.{after}
use Rattle.task_steps.specs.Doing.{here_of}
use Rattle.task_steps.proofs.InPlace.{binary_is}
use Rattle.task_steps.proofs.task.Task.combine.Goals as goal

pub returns-in-Gives-clause-on : goal.returns-in-Gives-clause-on
unfolding after
returns-in-Gives-clause-on c = λ code. rw (c.set_top_value.ensures, c.drop_operand.ensures) (binary_is (here_of code c.args.self.now.conf) c.args.operator c.args.left.now c.args.right.now c.apply.result _
    (sym (ap (option_and_then as_value) c.requires.right)) (sym (ap (option_and_then as_value) c.requires.left)) c.apply.ensures c.in-Gives.is)

pub returns-in-Raises-clause-on : goal.returns-in-Raises-clause-on
unfolding after
returns-in-Raises-clause-on c = λ code. (binary_is (here_of code c.args.self.now.conf) c.args.operator c.args.left.now c.args.right.now c.apply.result _
    (sym (ap (option_and_then as_value) c.requires.right)) (sym (ap (option_and_then as_value) c.requires.left)) c.apply.ensures c.in-Raises.is)

pub returns-in-OutOfRange-clause-on : goal.returns-in-OutOfRange-clause-on
unfolding after
returns-in-OutOfRange-clause-on c = λ code. (binary_is (here_of code c.args.self.now.conf) c.args.operator c.args.left.now c.args.right.now c.apply.result _
    (sym (ap (option_and_then as_value) c.requires.right)) (sym (ap (option_and_then as_value) c.requires.left)) c.apply.ensures c.in-OutOfRange.is)

pub returns-in-Unfit-clause-on : goal.returns-in-Unfit-clause-on
unfolding after
returns-in-Unfit-clause-on c = λ code. (binary_is (here_of code c.args.self.now.conf) c.args.operator c.args.left.now c.args.right.now c.apply.result _
    (sym (ap (option_and_then as_value) c.requires.right)) (sym (ap (option_and_then as_value) c.requires.left)) c.apply.ensures c.in-Unfit.is)
