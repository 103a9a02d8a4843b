use Rattle.task_steps.proofs.task.Task.looked.Goals as goal

pub returns-in-Trap-clause-turns : goal.returns-in-Trap-clause-turns
returns-in-Trap-clause-turns c = rw c.in-Trap.is (c.interrupt.ensures.turns c.in-Trap.number)
