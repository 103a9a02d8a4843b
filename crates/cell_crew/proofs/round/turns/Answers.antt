use Rattle.std.proofs.Common.{arith, sym, subst}
use Rattle.std.proofs.lemmas.Option.{slice_get-get_or}
use Rattle.rapid_model.specs.CellData.{CellData}
use Rattle.cell_meaning.specs.Asking.{with_inputs}
use Rattle.cell_meaning.specs.Histories.{IsLegal}
use Rattle.cell_meaning.specs.Premises.{AsksWhatItMay}
use Rattle.cell_crew.proofs.Rounds.{none_turned, asks_at, suits_at, more_turned}
use Rattle.cell_crew.proofs.round.turns.Goals as goal

pub loop-task-init : goal.loop-task-init
loop-task-init g c =
    none_turned g.M.TaskMachine.program g.M.TaskMachine.stands_for g.M.TaskMachine.due g.A.Askers.asks c.args.machines.now c.args.core.now.cell c.args.core.now.history c.requires.legal c.requires.under_way

pub turn-requires-clause-program : goal.turn-requires-clause-program
turn-requires-clause-program g c =
    let at = slice_get-get_or c.loop-task.machines c.loop-task.task c.index-machines-task.result (omega arith) in
    asks_at g.M.TaskMachine.program g.M.TaskMachine.stands_for g.M.TaskMachine.due g.M.TaskMachine.fits g.M.TaskMachine.asks g.A.Askers.asks _ _ _ _ _ _ _ _ c.requires.programs c.loop-task.invariant at

pub turn-requires-clause-suits : goal.turn-requires-clause-suits
turn-requires-clause-suits g c =
    let at = slice_get-get_or c.loop-task.machines c.loop-task.task c.index-machines-task.result (omega arith) in
    suits_at g.M.TaskMachine.program g.M.TaskMachine.stands_for g.M.TaskMachine.due g.M.TaskMachine.fits g.M.TaskMachine.asks g.A.Askers.asks _ _ _ _ _ _ _ _ c.requires.suit c.loop-task.invariant at

pub turn-requires-clause-may : goal.turn-requires-clause-may
turn-requires-clause-may g c = subst (λ (cell : CellData). AsksWhatItMay (with_inputs g.A.Askers.asks cell) cell) (sym c.loop-task.invariant.same_cell) c.requires.may

pub turn-requires-clause-legal : goal.turn-requires-clause-legal
turn-requires-clause-legal g c =
    subst (λ (cell : CellData). IsLegal (with_inputs g.A.Askers.asks cell) cell c.loop-task.core.history) (sym c.loop-task.invariant.same_cell) c.loop-task.invariant.legal

pub turn-requires-clause-under_way : goal.turn-requires-clause-under_way
turn-requires-clause-under_way g c =
    let at = slice_get-get_or c.loop-task.machines c.loop-task.task c.index-machines-task.result (omega arith) in
    c.loop-task.invariant.ways.each c.loop-task.task _ at

pub loop-task-preserved : goal.loop-task-preserved
loop-task-preserved g c =
    let at = slice_get-get_or c.loop-task.machines c.loop-task.task c.index-machines-task.result (omega arith) in
    more_turned g.M.TaskMachine.program g.M.TaskMachine.stands_for g.M.TaskMachine.due g.A.Askers.asks _ _ _ _ _ _ _ _ _ _ _ c.loop-task.invariant at c.turn.ensures.cell c.turn.ensures.program c.turn.ensures.legal
    c.turn.ensures.under_way c.turn.ensures.turn
