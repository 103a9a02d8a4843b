use Rattle.cell_crew.proofs.Crews.{HaveAsked}
use Rattle.cell_crew.proofs.asking.ask_first.Given as goal

abbrev pub invariant-loop-machine : goal.invariant-loop-machine
invariant-loop-machine g l = HaveAsked g.M.TaskMachine.program g.M.TaskMachine.is_fresh g.M.TaskMachine.stands_for g.M.TaskMachine.due l.initial.machines l.machines l.machine-index
