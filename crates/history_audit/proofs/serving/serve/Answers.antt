use Rattle.std.proofs.Common.{◌∙◌, sym, subst}
use Rattle.std.proofs.lemmas.Bool.{false≢true}
use Rattle.rapid_model.specs.declared.request.Request.{Request}
use Rattle.cell_meaning.specs.Asking.{with_inputs}
use Rattle.history_audit.specs.Wrongs.{IsWrong}
use Rattle.history_audit.specs.declared.wrong.Wrong.TheVariants.{Asks}
use Rattle.history_audit.proofs.Causes.{answers_wrong, asks_wrong, spent_wrong, waits_wrong}
use Rattle.history_audit.proofs.Doing.{answered_followed}
use Rattle.history_audit.proofs.serving.serve.Goals as goal

pub returns-then-not-same_request-clause-followed : goal.returns-then-not-same_request-clause-followed
returns-then-not-same_request-clause-followed g c =
    let asks = with_inputs g.A.Askers.asks c.args.core.now.cell in
    subst (λ (r : Request). IsWrong asks c.args.core.now.cell c.args.core.now.history c.args.event.now (Asks r)) (sym c.copy.ensures)
    (asks_wrong asks c.args.core.now.cell c.args.core.now.history c.args.event.now c.args.due.now c.requires.asked c.requires.alone
    (λ same. false≢true (sym c.if-not-same_request.true ∙ c.same_request.ensures.1 same)))

pub returns-in-Spent-clause-followed : goal.returns-in-Spent-clause-followed
returns-in-Spent-clause-followed g c =
    spent_wrong (with_inputs g.A.Askers.asks c.args.core.now.cell) c.args.core.now.cell c.args.core.now.history c.args.event.now c.args.due.now c.requires.asked c.requires.alone
    (c.same_request.ensures.0 c.if-not-same_request.false) c.in-Spent.ensures.served

pub returns-in-NotYet-clause-followed : goal.returns-in-NotYet-clause-followed
returns-in-NotYet-clause-followed g c =
    let it = c.in-NotYet.ensures.served in
    waits_wrong (with_inputs g.A.Askers.asks c.args.core.now.cell) c.args.core.now.cell c.args.core.now.history c.args.event.now c.args.due.now c.requires.asked c.requires.alone
    (c.same_request.ensures.0 c.if-not-same_request.false) it.served it.not_enabled

pub returns-then-same_answer-clause-followed : goal.returns-then-same_answer-clause-followed
returns-then-same_answer-clause-followed g c =
    answered_followed (with_inputs g.A.Askers.asks c.args.core.now.cell) c.args.core.now.cell c.args.core.now.history _ c.args.event.now c.args.due.now c.in-Answered.answer
    (c.same_request.ensures.0 c.if-not-same_request.false) (c.same_answer.ensures.0 c.if-same_answer.true) c.requires.asked c.requires.legal c.in-Answered.ensures.served c.in-Answered.ensures.fits
    c.in-Answered.ensures.history

pub returns-else-same_answer-clause-followed : goal.returns-else-same_answer-clause-followed
returns-else-same_answer-clause-followed g c =
    let it = c.in-Answered.ensures.served in
    answers_wrong (with_inputs g.A.Askers.asks c.args.core.now.cell) c.args.core.now.cell c.args.core.now.history c.args.event.now c.args.due.now c.requires.asked c.requires.alone
    (c.same_request.ensures.0 c.if-not-same_request.false) it.served c.in-Answered.answer it.enabled it.answered
    (λ same. false≢true (sym c.if-same_answer.false ∙ c.same_answer.ensures.1 same))
