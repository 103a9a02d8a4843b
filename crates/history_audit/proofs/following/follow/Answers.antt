use Rattle.std.proofs.Common.{arith}
use Rattle.std.proofs.lemmas.Option.{slice_get-get_or}
use Rattle.cell_meaning.specs.Asking.{with_inputs}
use Rattle.cell_crew.proofs.Crews.{map_set, under_way_other, under_way_turn}
use Rattle.history_audit.proofs.Doing.{followed_turn, program_asked, program_suits}
use Rattle.history_audit.proofs.following.follow.Goals as goal

pub follow_task-requires-clause-program : goal.follow_task-requires-clause-program
follow_task-requires-clause-program g c =
    let at = slice_get-get_or c.args.machines.now c.args.event.now.actor c.index-machines-actor.result (omega arith) in
    program_asked g.M.TaskMachine.program g.M.TaskMachine.fits g.M.TaskMachine.asks g.A.Askers.asks c.args.machines.now c.args.event.now.actor _ c.requires.programs at

pub follow_task-requires-clause-suits : goal.follow_task-requires-clause-suits
follow_task-requires-clause-suits g c =
    let at = slice_get-get_or c.args.machines.now c.args.event.now.actor c.index-machines-actor.result (omega arith) in
    program_suits g.M.TaskMachine.program g.M.TaskMachine.fits g.M.TaskMachine.asks c.args.core.now.cell c.args.machines.now c.args.event.now.actor _ c.requires.suit at

pub follow_task-requires-clause-under_way : goal.follow_task-requires-clause-under_way
follow_task-requires-clause-under_way g c =
    let at = slice_get-get_or c.args.machines.now c.args.event.now.actor c.index-machines-actor.result (omega arith) in
    c.requires.under_way.each c.args.event.now.actor _ at

pub follow_script-requires-clause-script : goal.follow_script-requires-clause-script
follow_script-requires-clause-script g c = omega (arith, c.requires.actor, c.task_count.ensures.same, c.if-actor-task_count.false)

pub returns-then-actor-task_count-clause-programs : goal.returns-then-actor-task_count-clause-programs
returns-then-actor-task_count-clause-programs g c =
    let at = slice_get-get_or c.args.machines.now c.args.event.now.actor c.index-machines-actor.result (omega arith) in
    map_set g.M.TaskMachine.program c.args.machines.now c.args.event.now.actor _ _ at c.follow_task.ensures.program

pub returns-then-actor-task_count-clause-under_way : goal.returns-then-actor-task_count-clause-under_way
returns-then-actor-task_count-clause-under_way g c = λ none.
    let added = rw none at c.follow_task.ensures.followed in
    under_way_turn g.M.TaskMachine.stands_for g.M.TaskMachine.due (with_inputs g.A.Askers.asks c.args.core.now.cell) c.args.core.now.cell c.args.machines.now c.args.event.now.actor c.follow_task.new.machine
    c.args.core.now.history c.follow_task.new.core.history c.requires.under_way (c.follow_task.ensures.under_way none)
    (followed_turn (with_inputs g.A.Askers.asks c.args.core.now.cell) c.args.core.now.cell c.args.core.now.history c.follow_task.new.core.history c.args.event.now added.0 added.1)

pub returns-else-actor-task_count-clause-under_way : goal.returns-else-actor-task_count-clause-under_way
returns-else-actor-task_count-clause-under_way g c = λ none.
    let added = rw none at c.follow_script.ensures.followed in
    under_way_other g.M.TaskMachine.stands_for g.M.TaskMachine.due (with_inputs g.A.Askers.asks c.args.core.now.cell) c.args.core.now.cell c.args.machines.now c.args.event.now.actor
    c.args.core.now.history c.follow_script.new.core.history (omega (arith, c.requires.one_each, c.task_count.ensures.same, c.if-actor-task_count.false)) c.requires.under_way
    (followed_turn (with_inputs g.A.Askers.asks c.args.core.now.cell) c.args.core.now.cell c.args.core.now.history c.follow_script.new.core.history c.args.event.now added.0 added.1)
