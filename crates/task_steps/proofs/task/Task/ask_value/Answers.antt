use Rattle.task_steps.specs.Tasks.{seen_task}
use Rattle.task_steps.proofs.InPlace.{load_pers}
use Rattle.task_steps.proofs.task.Task.ask_value.Goals as goal

pub returns-clause-goes : goal.returns-clause-goes
returns-clause-goes c = λ code.
    let t = seen_task c.self.inside in
    let top = rw (← c.self.view_is) at c.requires in
    rw (← c.self.view_is, c.drop_operand.ensures) (load_pers code t.conf t.data' c.args.pers c.args.path top)
