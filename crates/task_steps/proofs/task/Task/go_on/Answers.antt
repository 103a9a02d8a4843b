use Rattle.task_steps.specs.Doing.{here_of}
use Rattle.task_steps.specs.Tasks.{seen_task}
use Rattle.task_steps.proofs.Calls.{look_goes}
use Rattle.task_steps.proofs.task.Task.go_on.Goals as goal

pub returns-clause-turns : goal.returns-clause-turns
returns-clause-turns c = λ code.
    let t = seen_task c.self.inside in
    rw (← c.self.view_is, c.set_seen.ensures) (look_goes code (here_of code t.conf) c.args.seen t.data')
