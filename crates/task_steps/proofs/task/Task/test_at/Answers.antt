use Rattle.std.proofs.Common.{refl}
use Rattle.rapid_meaning.specs.Doings.{after}
use Rattle.task_steps.proofs.task.Task.test_at.Goals as goal

pub returns-in-Pers-clause-turns : goal.returns-in-Pers-clause-turns
unfolding after
returns-in-Pers-clause-turns c = λ code. rw c.in-Pers.is (record { same = λ left. refl })
