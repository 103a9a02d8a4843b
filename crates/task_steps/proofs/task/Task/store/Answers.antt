use Rattle.task_steps.proofs.InPlace.{store_num}
use Rattle.task_steps.proofs.task.Task.store.Goals as goal

pub returns-in-Some-clause-goes : goal.returns-in-Some-clause-goes
returns-in-Some-clause-goes c =
    let s = c.args.self.now in
    let it = c.in-Some.ensures in
    rw (c.drop_operand-in-Some.ensures, c.drop_operand.ensures, c.put_num.ensures.conf, c.put_num.ensures.data)
    (store_num c.args.code.now s.conf s.data' _ _ it.2 it.0 it.1 it.3)
