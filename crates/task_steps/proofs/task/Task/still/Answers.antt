use Rattle.std.proofs.Common.{true, false}
use Rattle.task_steps.specs.Doing.{here_of}
use Rattle.task_steps.specs.Tasks.{seen_task}
use Rattle.task_steps.proofs.Readings.{still_of}
use Rattle.task_steps.proofs.task.Task.still.Goals as goal

pub returns-then-self : goal.returns-then-self
returns-then-self c = λ code.
    let t = seen_task c.self.inside in
    rw (← c.self.view_is) (still_of code (here_of code t.conf) t.data' true c.if-self.true)

pub returns-else-self : goal.returns-else-self
returns-else-self c = λ code.
    let t = seen_task c.self.inside in
    rw (← c.self.view_is) (still_of code (here_of code t.conf) t.data' false c.if-self.false)
