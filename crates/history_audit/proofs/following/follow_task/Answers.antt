use Rattle.std.proofs.Common.{◌++◌, ◌∷◌, [], List, inl, sym, ◌∙◌, subst}
use Rattle.rapid_model.specs.declared.answer.Answer.{Answer}
use Rattle.cell_meaning.specs.Asking.{with_inputs}
use Rattle.cell_crew.proofs.Turning.{AtTurn, asks_it, asks_only, fits_it, goes_on_it, way_ends, way_goes_on}
use Rattle.history_audit.proofs.Causes.{ended_wrong}
use Rattle.history_audit.proofs.Doing.{at_event}
use Rattle.history_audit.proofs.following.follow_task.Given as given
use Rattle.history_audit.proofs.following.follow_task.Goals.{After-last}
use Rattle.history_audit.proofs.following.follow_task.Goals as goal

pub returns-then-ended-clause-followed : goal.returns-then-ended-clause-followed
returns-then-ended-clause-followed g c =
    ended_wrong (with_inputs g.A.Askers.asks c.args.core.now.cell) c.args.core.now.cell c.args.core.now.history c.args.event.now c.requires.may c.requires.legal
    (inl (c.requires.task, sym c.ended.ensures ∙ c.if-ended.true))

-- the task has not ended, and this request is due
at_turn : (g : given.Over) (c : After-last g)
    → AtTurn g.M.TaskMachine.program g.M.TaskMachine.fits g.M.TaskMachine.asks g.M.TaskMachine.stands_for g.M.TaskMachine.due g.A.Askers.asks c.args.core.now.cell c.args.event.now.actor c.args.machine.now
    c.args.core.now.history c.last.result.now
at_turn g c = record {
  asks_due = g.met.M.TaskMachine.asks_due;
  within = c.requires.task;
  asks_as = c.requires.program;
  suits = c.requires.suits;
  legal = c.requires.legal;
  way = c.requires.under_way;
  going = sym c.ended.ensures ∙ c.if-ended.false;
  is_due = c.last.ensures;
}

pub serve-requires-clause-asked : goal.serve-requires-clause-asked
serve-requires-clause-asked g c = asks_it _ _ _ _ _ _ _ _ _ _ _ (at_turn g c)

pub serve-requires-clause-alone : goal.serve-requires-clause-alone
serve-requires-clause-alone g c = asks_only _ _ _ _ _ _ _ _ _ _ _ (at_turn g c)

-- the event was added
pub next-requires-clause-goes_on : goal.next-requires-clause-goes_on
next-requires-clause-goes_on g c =
    let at = at_turn g (goal.at.next-requires-clause-goes_on g c).After-last in
    let added = c.in_default.ensures.followed in
    goes_on_it _ _ _ _ _ _ _ _ _ _ _ _ c.args.event.now.answer (at_event _ _ _ _ _ _ _ _ _ _ _ c.args.event.now at added.0 added.1) added.1 (sym c.ended-2.ensures ∙ c.if-ended-2.false)

pub next-requires-clause-fitting : goal.next-requires-clause-fitting
next-requires-clause-fitting g c =
    let at = at_turn g (goal.at.next-requires-clause-fitting g c).After-last in
    let added = c.in_default.ensures.followed in
    subst (λ (a : Answer). (answers : List Answer) × g.M.TaskMachine.stands_for c.args.machine.now answers × g.M.TaskMachine.fits (g.M.TaskMachine.program c.args.machine.now) (answers ++ a ∷ [])) (sym c.copy.ensures)
    (fits_it _ _ _ _ _ _ _ _ _ _ _ _ c.args.event.now.answer (at_event _ _ _ _ _ _ _ _ _ _ _ c.args.event.now at added.0 added.1) added.0 added.1)

pub returns-then-ended-2-clause-under_way : goal.returns-then-ended-2-clause-under_way
returns-then-ended-2-clause-under_way g c = λ none.
    let at = at_turn g (goal.at.returns-then-ended-2-clause-under_way g c).After-last in
    let added = c.in_default.ensures.followed in
    way_ends _ _ _ _ _ _ _ _ _ _ _ _ c.args.event.now.answer (at_event _ _ _ _ _ _ _ _ _ _ _ c.args.event.now at added.0 added.1) added.1
    (sym c.ended-2.ensures ∙ c.if-ended-2.true)

pub returns-clause-under_way : goal.returns-clause-under_way
returns-clause-under_way g c = λ none.
    let at = at_turn g (goal.at.returns-clause-under_way g c).After-last in
    let added = c.in_default.ensures.followed in
    way_goes_on _ _ _ _ _ _ _ _ _ c.next.new.self _ _ _ c.args.event.now.answer (at_event _ _ _ _ _ _ _ _ _ _ _ c.args.event.now at added.0 added.1) added.1
    (sym c.ended-2.ensures ∙ c.if-ended-2.false) c.next.ensures.due
    (subst (λ (a : Answer). (answers : List Answer) → g.M.TaskMachine.stands_for c.args.machine.now answers → g.M.TaskMachine.stands_for c.next.new.self (answers ++ a ∷ [])) c.copy.ensures c.next.ensures.stands)
