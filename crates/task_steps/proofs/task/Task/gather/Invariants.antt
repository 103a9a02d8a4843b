use Rattle.task_steps.specs.Alike.{Alike}
use Rattle.task_steps.specs.Doing.{here_of}
use Rattle.task_steps.proofs.Gatherings.{pushes_set, tasks_left}
use Rattle.task_steps.proofs.task.Task.gather.Given as goal

abbrev pub invariant-loop-read : goal.invariant-loop-read
invariant-loop-read l =
    let h = here_of l.code l.self.conf in
    Alike l.code (pushes_set h (tasks_left l.code.tasks l.list l.len l.from l.before)) l.self.data' (pushes_set h (tasks_left l.code.tasks l.list l.len l.read l.set)) l.self.data'
