use Rattle.task_steps.specs.Tasks.{seen_task}
use Rattle.task_steps.proofs.Looks.{look_asks}
use Rattle.task_steps.proofs.task.Task.look.Goals as goal

pub returns-clause-goes : goal.returns-clause-goes
returns-clause-goes c =
    let t = seen_task c.self.inside in
    rw (← c.self.view_is, c.ask_look.ensures, c.await_look.ensures) (look_asks c.args.loaded.now t.conf t.data' c.owner.result.now c.owner.ensures)
