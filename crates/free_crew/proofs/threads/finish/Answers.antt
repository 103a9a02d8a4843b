use Rattle.std.proofs.Common.{ℕ, subst}
use Rattle.cell_gate.specs.GateData.{GateData}
use Rattle.free_crew.specs.Amid.{GoesOnAs}
use Rattle.free_crew.proofs.Rows.{came_on}
use Rattle.free_crew.proofs.threads.finish.Given as given
use Rattle.free_crew.proofs.threads.finish.Goals.{After-join-back}
use Rattle.free_crew.proofs.threads.finish.Goals as goal

-- the thread gave back what it promised
came : (g : given.Over) (c : After-join-back g)
    → GoesOnAs g.M.TaskMachine.program g.M.TaskMachine.fits g.M.TaskMachine.asks g.M.TaskMachine.stands_for g.M.TaskMachine.due c.args.gate.now c.args.task c.args.child.promise.job.value c.join-back.result
came g c =
    subst (λ (k : ℕ). GoesOnAs g.M.TaskMachine.program g.M.TaskMachine.fits g.M.TaskMachine.asks g.M.TaskMachine.stands_for g.M.TaskMachine.due c.args.gate.now k c.args.child.promise.job.value c.join-back.result) c.requires.task
    (subst (λ (gate : GateData). GoesOnAs g.M.TaskMachine.program g.M.TaskMachine.fits g.M.TaskMachine.asks g.M.TaskMachine.stands_for g.M.TaskMachine.due gate c.args.child.promise.task c.args.child.promise.job.value c.join-back.result) c.requires.gate c.join-back.ensures)

pub run-requires : goal.run-requires
run-requires g c = (came g (goal.at.run-requires g c).After-join-back).amid

pub returns-clause-came : goal.returns-clause-came
returns-clause-came g c = came_on _ _ _ _ _ _ _ _ _ _ (came g (goal.at.returns-clause-came g c).After-join-back) c.run.ensures.came
