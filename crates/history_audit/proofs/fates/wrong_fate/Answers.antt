use Rattle.std.proofs.Common.{arith, sym, ◌∙◌}
use Rattle.std.proofs.lemmas.Bool.{false≢true}
use Rattle.cell_meaning.specs.Asking.{with_inputs}
use Rattle.history_audit.proofs.GivenFates.{all_right, one_more_right, wrong_here}
use Rattle.history_audit.proofs.fates.wrong_fate.Goals as goal

pub loop-task-init : goal.loop-task-init
loop-task-init g c = λ task lt. absurd (omega arith)

pub loop-task-preserved : goal.loop-task-preserved
loop-task-preserved g c =
    one_more_right (with_inputs g.A.Askers.asks c.args.core.now.cell) c.args.core.now.cell c.args.core.now.history c.args.fates.now c.args.whole c.requires.whole c.loop-task.task _ c.loop-task.invariant
    (c.is_fate.ensures.0 c.if-not-is_fate.false)

pub returns-then-not-is_fate-clause-wrong : goal.returns-then-not-is_fate-clause-wrong
returns-then-not-is_fate-clause-wrong g c =
    wrong_here (with_inputs g.A.Askers.asks c.args.core.now.cell) c.args.core.now.cell c.args.core.now.history c.args.fates.now c.args.whole c.requires.whole c.loop-task.task _ c.requires.legal
    c.loop-task.invariant (omega arith) (λ right. false≢true (sym c.if-not-is_fate.true ∙ c.is_fate.ensures.1 right))

pub returns-clause-right : goal.returns-clause-right
returns-clause-right g c = λ none.
    all_right (with_inputs g.A.Askers.asks c.args.core.now.cell) c.args.core.now.cell c.args.core.now.history c.args.fates.now c.loop-task.task c.loop-task.invariant (omega arith)
