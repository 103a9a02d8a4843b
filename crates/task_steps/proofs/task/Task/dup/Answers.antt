use Rattle.std.proofs.Common.{sym, ◌∙◌, Some, None}
use Rattle.task_steps.specs.Doing.{here_of}
use Rattle.task_steps.proofs.Readings.{dup_of}
use Rattle.task_steps.proofs.task.Task.dup.Goals as goal

pub returns-in-Some : goal.returns-in-Some
returns-in-Some c = λ code. dup_of (here_of code c.args.self.now.conf) (Some c.in-Some.held) (sym c.in-Some.is ∙ c.operand.ensures)

pub returns-in-None : goal.returns-in-None
returns-in-None c = λ code. dup_of (here_of code c.args.self.now.conf) None (sym c.in-None.is ∙ c.operand.ensures)
