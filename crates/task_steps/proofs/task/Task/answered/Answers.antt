use Rattle.task_steps.proofs.task.Task.answered.Goals as goal

pub returns-in-Left-clause-turns : goal.returns-in-Left-clause-turns
returns-in-Left-clause-turns c = rw c.in-Left.is (c.left.ensures.turns c.args.loaded.now)
