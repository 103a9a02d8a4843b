use Rattle.task_steps.proofs.InPlace.{load_num}
use Rattle.task_steps.proofs.task.Task.load.Goals as goal

pub returns-in-Some-clause-goes : goal.returns-in-Some-clause-goes
returns-in-Some-clause-goes c =
    let s = c.args.self.now in
    let it = c.in-Some.ensures in
    rw c.set_top_num.ensures (load_num c.args.code.now s.conf s.data' it.0 c.in-Some.number it.1 it.2)
