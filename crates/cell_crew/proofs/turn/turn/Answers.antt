use Rattle.std.proofs.Common.{sym, ◌∙◌}
use Rattle.cell_crew.proofs.Turning.{AtTurn, answered_turn, came_turn, asks_it, asks_only, fits_it, goes_on_it, way_ends, way_goes_on}
use Rattle.cell_crew.proofs.turn.turn.Given as given
use Rattle.cell_crew.proofs.turn.turn.Goals.{After-last}
use Rattle.cell_crew.proofs.turn.turn.Goals as goal

-- the task has not ended, and this request is due
at_turn : (g : given.Over) (c : After-last g)
    → AtTurn g.M.TaskMachine.program g.M.TaskMachine.fits g.M.TaskMachine.asks g.M.TaskMachine.stands_for g.M.TaskMachine.due g.A.Askers.asks c.args.core.now.cell c.args.task c.args.machine.now c.args.core.now.history c.last.result.now
at_turn g c = record {
  asks_due = g.met.M.TaskMachine.asks_due;
  within = c.requires.task;
  asks_as = c.requires.program;
  suits = c.requires.suits;
  legal = c.requires.legal;
  way = c.requires.under_way;
  going = sym c.ended.ensures ∙ c.if-ended.false;
  is_due = c.last.ensures;
}

pub ask-requires-clause-asked : goal.ask-requires-clause-asked
ask-requires-clause-asked g c = asks_it _ _ _ _ _ _ _ _ _ _ _ (at_turn g c)

pub next-requires-clause-goes_on : goal.next-requires-clause-goes_on
next-requires-clause-goes_on g c = goes_on_it _ _ _ _ _ _ _ _ _ _ _ _ c.in-Some.answer (at_turn g (goal.at.next-requires-clause-goes_on g c).After-last) c.in-Some.ensures.came.1 (sym c.ended-in-Some.ensures ∙ c.if-not-ended.true)

pub next-requires-clause-fitting : goal.next-requires-clause-fitting
next-requires-clause-fitting g c = fits_it _ _ _ _ _ _ _ _ _ _ _ _ c.in-Some.answer (at_turn g (goal.at.next-requires-clause-fitting g c).After-last) c.in-Some.ensures.legal c.in-Some.ensures.came.1

pub returns-then-not-ended-clause-under_way : goal.returns-then-not-ended-clause-under_way
returns-then-not-ended-clause-under_way g c =
    way_goes_on _ _ _ _ _ _ _ _ _ c.next.new.self _ _ _ c.in-Some.answer (at_turn g (goal.at.returns-then-not-ended-clause-under_way g c).After-last) c.in-Some.ensures.came.1 (sym c.ended-in-Some.ensures ∙ c.if-not-ended.true) c.next.ensures.due c.next.ensures.stands

pub returns-else-not-ended-clause-under_way : goal.returns-else-not-ended-clause-under_way
returns-else-not-ended-clause-under_way g c =
    way_ends _ _ _ _ _ _ _ _ _ _ _ _ c.in-Some.answer (at_turn g (goal.at.returns-else-not-ended-clause-under_way g c).After-last) c.in-Some.ensures.came.1 (sym c.ended-in-Some.ensures ∙ c.if-not-ended.false)

pub returns-then-not-ended-clause-turn : goal.returns-then-not-ended-clause-turn
returns-then-not-ended-clause-turn g c = answered_turn _ _ _ _ _ c.last.result.now c.in-Some.answer c.in-Some.ensures.came

pub returns-else-not-ended-clause-turn : goal.returns-else-not-ended-clause-turn
returns-else-not-ended-clause-turn g c = answered_turn _ _ _ _ _ c.last.result.now c.in-Some.answer c.in-Some.ensures.came

pub returns-in_default-clause-turn : goal.returns-in_default-clause-turn
returns-in_default-clause-turn g c = came_turn _ _ _ _ _ _ _ (asks_only _ _ _ _ _ _ _ _ _ _ _ (at_turn g (goal.at.returns-in_default-clause-turn g c).After-last)) c.ask.ensures.came
