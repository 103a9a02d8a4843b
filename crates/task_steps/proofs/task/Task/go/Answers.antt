use Rattle.task_code.proofs.Leading.{runs_misfit}
use Rattle.task_steps.proofs.task.Task.go.Goals as goal

pub unreachable-requires : goal.unreachable-requires
unreachable-requires c = runs_misfit c.args.code.now c.args.self.now.data' (rw c.in-None.is at c.requires.runs)
