use Rattle.std.proofs.Common.{◌∙◌}
use Rattle.task_steps.specs.Doing.{here_of}
use Rattle.task_steps.proofs.Picks.{takes_one}
use Rattle.task_steps.proofs.task.Task.call_function.Goals as goal

pub returns-in_default-clause-on : goal.returns-in_default-clause-on
returns-in_default-clause-on c = λ code. takes_one (here_of code c.args.self.now.conf) c.args.function c.in_default.not-NumToStr ∙ c.function.ensures.on code
