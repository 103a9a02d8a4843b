use Rattle.std.proofs.Common.{arith, length, refl, sym, ◌∙◌}
use Rattle.std.proofs.lemmas.Bool.{false≢true}
use Rattle.std.proofs.lemmas.Option.{slice_get_read}
use Rattle.cell_meaning.specs.Asking.{with_inputs}
use Rattle.history_audit.proofs.Doing.{program_asked, program_suits}
use Rattle.history_audit.proofs.Rests.{all_rest, input_goes, one_more_rests}
use Rattle.history_audit.proofs.whole.is_whole.Goals as goal

pub returns-then-can_feed : goal.returns-then-can_feed
returns-then-can_feed g c = (
  λ found. absurd (false≢true found),
  λ whole. absurd (input_goes g.A.Askers.asks c.args.core.now.cell c.args.core.now.history (sym c.can_feed.ensures ∙ c.if-can_feed.true) whole),
)

pub loop-task-init : goal.loop-task-init
loop-task-init g c = λ task lt. absurd (omega arith)

pub can_step-requires-clause-program : goal.can_step-requires-clause-program
can_step-requires-clause-program g c =
    let at = slice_get_read c.args.machines.now (length c.args.machines.now) c.loop-task.task c.index-machines-task.result refl (omega arith) c.index-machines-task.is in
    program_asked g.M.TaskMachine.program g.M.TaskMachine.fits g.M.TaskMachine.asks g.A.Askers.asks c.args.machines.now c.loop-task.task c.index-machines-task.result c.requires.programs at

pub can_step-requires-clause-suits : goal.can_step-requires-clause-suits
can_step-requires-clause-suits g c =
    let at = slice_get_read c.args.machines.now (length c.args.machines.now) c.loop-task.task c.index-machines-task.result refl (omega arith) c.index-machines-task.is in
    program_suits g.M.TaskMachine.program g.M.TaskMachine.fits g.M.TaskMachine.asks c.args.core.now.cell c.args.machines.now c.loop-task.task c.index-machines-task.result c.requires.suit at

pub can_step-requires-clause-under_way : goal.can_step-requires-clause-under_way
can_step-requires-clause-under_way g c =
    let at = slice_get_read c.args.machines.now (length c.args.machines.now) c.loop-task.task c.index-machines-task.result refl (omega arith) c.index-machines-task.is in
    c.requires.under_way.each c.loop-task.task c.index-machines-task.result at

pub returns-then-can_step : goal.returns-then-can_step
returns-then-can_step g c = (λ found. absurd (false≢true found), λ whole. absurd (c.can_step.ensures.goes c.if-can_step.true whole))

pub loop-task-preserved : goal.loop-task-preserved
loop-task-preserved g c =
    one_more_rests (with_inputs g.A.Askers.asks c.args.core.now.cell) c.args.core.now.cell c.args.core.now.history c.loop-task.task c.loop-task.invariant (c.can_step.ensures.rests c.if-can_step.false)

pub returns : goal.returns
returns g c = (
  λ found.
      all_rest g.A.Askers.asks c.args.core.now.cell c.args.core.now.history (sym c.can_feed.ensures ∙ c.if-can_feed.false) (λ task lt. c.loop-task.invariant task (omega (arith, lt, c.task_count-task-end.ensures.same))),
  λ whole. refl,
)
