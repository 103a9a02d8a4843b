use Rattle.std.proofs.Common.{refl}
use Rattle.task_steps.proofs.task.Task.settle.Goals as goal

pub returns-in-Some-Ask-clause-on : goal.returns-in-Some-Ask-clause-on
returns-in-Some-Ask-clause-on c = rw (c.in-Some-Ask.is, c.in-Some-Ask.field-0-is, ← c.self.view_is) (record { same = λ left. refl })
