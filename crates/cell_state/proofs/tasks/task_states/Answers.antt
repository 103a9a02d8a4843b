use Rattle.std.proofs.Common.{List, ◌+◌, arith, length, refl, subst, sym}
use Rattle.std.proofs.lemmas.Option.{slice_get_read}
use Rattle.cell_state.specs.States.{TaskStateData}
use Rattle.cell_state.proofs.Replayed.{code_asked, code_suits}
use Rattle.cell_state.proofs.TaskStates.{AmidTasks, no_tasks, one_more_task}
use Rattle.cell_state.proofs.tasks.task_states.Goals as goal

pub loop-task-init : goal.loop-task-init
loop-task-init g c =
    subst (λ (states : List TaskStateData). AmidTasks c.args.machines.now c.args.core.now.history states 0) (sym c.new-states.ensures.items) (no_tasks c.args.machines.now c.args.core.now.history)

pub task_state-requires-clause-program : goal.task_state-requires-clause-program
task_state-requires-clause-program g c =
    let at = slice_get_read c.args.machines.now (length c.args.machines.now) c.loop-task.task c.index-machines-task.result refl (omega arith) c.index-machines-task.is in
    code_asked g.A.Askers.asks c.args.machines.now c.loop-task.task _ c.requires.programs at

pub task_state-requires-clause-suits : goal.task_state-requires-clause-suits
task_state-requires-clause-suits g c =
    let at = slice_get_read c.args.machines.now (length c.args.machines.now) c.loop-task.task c.index-machines-task.result refl (omega arith) c.index-machines-task.is in
    code_suits c.args.core.now.cell c.args.machines.now c.loop-task.task _ c.requires.suit at

pub task_state-requires-clause-under_way : goal.task_state-requires-clause-under_way
task_state-requires-clause-under_way g c =
    let at = slice_get_read c.args.machines.now (length c.args.machines.now) c.loop-task.task c.index-machines-task.result refl (omega arith) c.index-machines-task.is in
    c.requires.under_way.each c.loop-task.task _ at

pub loop-task-preserved : goal.loop-task-preserved
loop-task-preserved g c =
    let at = slice_get_read c.args.machines.now (length c.args.machines.now) c.loop-task.task c.index-machines-task.result refl (omega arith) c.index-machines-task.is in
    subst (λ (states : List TaskStateData). AmidTasks c.args.machines.now c.args.core.now.history states (c.loop-task.task + 1)) (sym c.in_ok-push.ensures.items)
    (one_more_task c.args.machines.now c.args.core.now.history c.loop-task.states.items c.loop-task.task _ c.in_ok-state.state at c.in_ok-state.ensures c.loop-task.invariant)

pub returns-clause-reached : goal.returns-clause-reached
returns-clause-reached g c = c.loop-task.invariant.each
