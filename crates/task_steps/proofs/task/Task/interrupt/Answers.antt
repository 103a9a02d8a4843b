use Rattle.task_steps.specs.Doing.{here_of}
use Rattle.task_steps.specs.Points.{saved_in}
use Rattle.task_steps.specs.Tasks.{seen_task}
use Rattle.task_steps.proofs.Along.{alike_then}
use Rattle.task_steps.proofs.Calls.{look_traps}
use Rattle.task_steps.proofs.task.Task.interrupt.Goals as goal

pub returns-clause-turns : goal.returns-clause-turns
unfolding saved_in
returns-clause-turns c = λ number.
    let code = c.args.loaded.now in
    let t = seen_task c.self.inside in
    let trapped = rw c.take-way.ensures.value at c.enter_alone.ensures.turns in
    rw (← c.self.view_is) (alike_then code _ _ _ _ _ _ (look_traps code (here_of code t.conf) number c.args.trap t.data') trapped)
