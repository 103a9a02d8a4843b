use Rattle.task_steps.proofs.Stages.{due_is}
use Rattle.task_steps.proofs.task.Task.due.Goals as goal

pub returns : goal.returns
returns c =
    let t = c.self.inside in
    rw (← c.self.view_is) (due_is t.stage t.asked t.then c.self.invariant.over (rw (← c.self.view_is) at c.requires))
