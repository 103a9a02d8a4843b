use Rattle.std.proofs.Common.{◌≡◌, ◌++◌, ◌∷◌, [], List, None, sym, ◌∙◌, subst}
use Rattle.std.specs.Prelude.{IsSomeAnd, Option}
use Rattle.rapid_model.specs.Own.{fate_of}
use Rattle.rapid_model.specs.declared.answer.Answer.{Answer}
use Rattle.rapid_model.specs.declared.request.Request.{Request}
use Rattle.cell_core.proofs.Growing.{no_fate}
use Rattle.cell_crew.proofs.Amid.{way_ended, way_on}
use Rattle.cell_state.proofs.tracing.hand_on.Goals as goal

pub next-requires-clause-goes_on : goal.next-requires-clause-goes_on
next-requires-clause-goes_on g c =
    subst (λ (o : Option Request). IsSomeAnd o (λ r. fate_of r ≡ None)) (sym c.requires.due) (no_fate (fate_of c.args.event.now.request) (sym c.is_end.ensures ∙ c.if-not-is_end.true))

pub next-requires-clause-fitting : goal.next-requires-clause-fitting
next-requires-clause-fitting g c =
    subst (λ (a : Answer). (answers : List Answer) × g.M.TaskMachine.stands_for c.args.machine.now answers × g.M.TaskMachine.fits (g.M.TaskMachine.program c.args.machine.now) (answers ++ a ∷ [])) (sym c.copy.ensures)
    c.requires.fitting

pub returns-then-not-is_end-clause-under_way : goal.returns-then-not-is_end-clause-under_way
returns-then-not-is_end-clause-under_way g c = λ mine going way.
    way_on g.M.TaskMachine.stands_for g.M.TaskMachine.due c.args.machine.now c.next.new.self mine c.args.event.now (sym c.is_end.ensures ∙ c.if-not-is_end.true) way c.next.ensures.due
    (subst (λ (a : Answer). (answers : List Answer) → g.M.TaskMachine.stands_for c.args.machine.now answers → g.M.TaskMachine.stands_for c.next.new.self (answers ++ a ∷ [])) c.copy.ensures c.next.ensures.stands)

pub returns-else-not-is_end-clause-under_way : goal.returns-else-not-is_end-clause-under_way
returns-else-not-is_end-clause-under_way g c = λ mine going way.
    way_ended g.M.TaskMachine.stands_for g.M.TaskMachine.due c.args.machine.now mine c.args.event.now (sym c.is_end.ensures ∙ c.if-not-is_end.false) going way
