use Rattle.task_steps.specs.Tasks.{seen_task}
use Rattle.task_steps.proofs.InPlace.{store_pers}
use Rattle.task_steps.proofs.task.Task.ask_to_write.Goals as goal

pub returns-clause-goes : goal.returns-clause-goes
returns-clause-goes c = λ code.
    let t = seen_task c.self.inside in
    let top = rw (← c.self.view_is) at c.requires.value in
    let below = rw (← c.self.view_is) at c.requires.place in
    rw (← c.self.view_is, c.drop_operand-2.ensures, c.drop_operand.ensures) (store_pers code t.conf t.data' c.args.pers c.args.path c.args.value top below)
