use Rattle.std.proofs.Common.{sym, ◌∙◌}
use Rattle.std.proofs.lemmas.Bool.{false≢true}
use Rattle.cell_meaning.specs.Asking.{with_inputs}
use Rattle.cell_crew.proofs.Turning.{AtTurn, asks_it, asks_only}
use Rattle.history_audit.proofs.Rests.{ended_rests, step_goes, step_rests}
use Rattle.history_audit.proofs.whole.can_step.Given as given
use Rattle.history_audit.proofs.whole.can_step.Goals.{After-last}
use Rattle.history_audit.proofs.whole.can_step.Goals as goal

pub returns-then-ended-clause-goes : goal.returns-then-ended-clause-goes
returns-then-ended-clause-goes g c = λ goes. absurd (false≢true goes)

pub returns-then-ended-clause-rests : goal.returns-then-ended-clause-rests
returns-then-ended-clause-rests g c = λ rests.
    ended_rests (with_inputs g.A.Askers.asks c.args.core.now.cell) c.args.core.now.cell c.args.core.now.history c.args.task c.requires.may c.requires.legal c.requires.task (sym c.ended.ensures ∙ c.if-ended.true)

-- the task has not ended, and this request is due
at_turn : (g : given.Over) (c : After-last g)
    → AtTurn g.M.TaskMachine.program g.M.TaskMachine.fits g.M.TaskMachine.asks g.M.TaskMachine.stands_for g.M.TaskMachine.due g.A.Askers.asks c.args.core.now.cell c.args.task c.args.machine.now c.args.core.now.history
    c.last.result.now
at_turn g c = record {
  asks_due = g.met.M.TaskMachine.asks_due;
  within = c.requires.task;
  asks_as = c.requires.program;
  suits = c.requires.suits;
  legal = c.requires.legal;
  way = c.requires.under_way;
  going = sym c.ended.ensures ∙ c.if-ended.false;
  is_due = c.last.ensures;
}

pub is_served-requires-clause-may : goal.is_served-requires-clause-may
is_served-requires-clause-may g c =
    c.requires.may.may c.args.core.now.history c.args.task c.last.result.now c.requires.legal (asks_it _ _ _ _ _ _ _ _ _ _ _ (at_turn g c))

pub returns-clause-goes : goal.returns-clause-goes
returns-clause-goes g c = λ goes whole.
    step_goes (with_inputs g.A.Askers.asks c.args.core.now.cell) c.args.core.now.cell c.args.core.now.history c.args.task c.last.result.now c.is_served.result c.is_served.ensures
    (asks_it _ _ _ _ _ _ _ _ _ _ _ (at_turn g (goal.at.returns-clause-goes g c).After-last)) goes whole

pub returns-clause-rests : goal.returns-clause-rests
returns-clause-rests g c = λ rests.
    step_rests (with_inputs g.A.Askers.asks c.args.core.now.cell) c.args.core.now.cell c.args.core.now.history c.args.task c.last.result.now c.is_served.result c.is_served.ensures
    (asks_only _ _ _ _ _ _ _ _ _ _ _ (at_turn g (goal.at.returns-clause-rests g c).After-last)) rests
