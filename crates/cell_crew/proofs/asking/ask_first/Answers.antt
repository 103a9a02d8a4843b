use Rattle.std.proofs.Common.{arith}
use Rattle.std.proofs.lemmas.Option.{slice_get-get_or}
use Rattle.cell_crew.proofs.Amid.{has_begun}
use Rattle.cell_crew.proofs.Crews.{have_asked_none, have_asked_more, have_asked_all}
use Rattle.cell_crew.proofs.asking.ask_first.Goals as goal

pub loop-machine-init : goal.loop-machine-init
loop-machine-init g c = have_asked_none g.M.TaskMachine.program g.M.TaskMachine.is_fresh g.M.TaskMachine.stands_for g.M.TaskMachine.due c.args.machines.now c.requires

pub first-requires : goal.first-requires
first-requires g c =
    let at = slice_get-get_or c.loop-machine.machines c.loop-machine.machine-index c.machine-item.result (omega arith) in
    c.loop-machine.invariant.rest c.loop-machine.machine-index _ (omega arith) at

pub loop-machine-preserved : goal.loop-machine-preserved
loop-machine-preserved g c =
    let at = slice_get-get_or c.loop-machine.machines c.loop-machine.machine-index c.machine-item.result (omega arith) in
    have_asked_more g.M.TaskMachine.program g.M.TaskMachine.is_fresh g.M.TaskMachine.stands_for g.M.TaskMachine.due _ _ _ _ c.first.new.self c.loop-machine.invariant at c.first.ensures.program
    (has_begun g.M.TaskMachine.stands_for g.M.TaskMachine.due c.first.new.self c.first.ensures.due c.first.ensures.stands)

pub returns-clause-under_way : goal.returns-clause-under_way
returns-clause-under_way g c = have_asked_all g.M.TaskMachine.program g.M.TaskMachine.is_fresh g.M.TaskMachine.stands_for g.M.TaskMachine.due _ _ _ c.loop-machine.invariant (omega arith)
