-- The task has come so far.
use Rattle.free_crew.specs.Amid.{GoesOnAs}
use Rattle.free_crew.proofs.threads.run.Given as goal

abbrev pub invariant-loop : goal.invariant-loop
invariant-loop g l = GoesOnAs g.M.TaskMachine.program g.M.TaskMachine.fits g.M.TaskMachine.asks g.M.TaskMachine.stands_for g.M.TaskMachine.due l.gate l.task l.initial.job l.job
