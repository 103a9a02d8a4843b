use Rattle.std.proofs.Common.{arith, refl, subst, sym}
use Rattle.rapid_model.specs.CellData.{CellData}
use Rattle.cell_meaning.specs.Asking.{with_inputs}
use Rattle.cell_meaning.specs.Histories.{IsLegal}
use Rattle.cell_meaning.specs.Premises.{AsksWhatItMay}
use Rattle.history_audit.proofs.Doing.{after_events, before_events, next_is_wrong, one_more_event}
use Rattle.history_audit.proofs.Same.{actor_within, asks_still, suits_still, still_one_each}
use Rattle.history_audit.proofs.auditing.first_wrong.Goals as goal

pub loop-event-init : goal.loop-event-init
loop-event-init g c =
    before_events g.M.TaskMachine.program g.M.TaskMachine.stands_for g.M.TaskMachine.due g.A.Askers.asks c.args.machines.now c.args.core.now.cell c.args.events.now c.args.core.now.history c.requires.no_events
    c.requires.under_way

pub follow-requires-clause-one_each : goal.follow-requires-clause-one_each
follow-requires-clause-one_each g c =
    still_one_each g.M.TaskMachine.program c.args.machines.now c.loop-event.machines c.args.core.now.cell c.loop-event.core.cell c.loop-event.invariant.same_cell c.loop-event.invariant.programs c.requires.one_each

pub follow-requires-clause-actor : goal.follow-requires-clause-actor
follow-requires-clause-actor g c =
    actor_within c.args.events.now c.loop-event.event-index c.event-item.result c.args.core.now.cell c.loop-event.core.cell c.loop-event.invariant.same_cell c.requires.actors (omega arith) c.event-item.is

pub follow-requires-clause-programs : goal.follow-requires-clause-programs
follow-requires-clause-programs g c =
    asks_still g.M.TaskMachine.program g.M.TaskMachine.fits g.M.TaskMachine.asks g.A.Askers.asks c.args.machines.now c.loop-event.machines c.loop-event.invariant.programs c.requires.programs

pub follow-requires-clause-suit : goal.follow-requires-clause-suit
follow-requires-clause-suit g c =
    suits_still g.M.TaskMachine.program g.M.TaskMachine.fits g.M.TaskMachine.asks c.args.machines.now c.loop-event.machines c.args.core.now.cell c.loop-event.core.cell c.loop-event.invariant.same_cell
    c.loop-event.invariant.programs c.requires.suit

pub follow-requires-clause-may : goal.follow-requires-clause-may
follow-requires-clause-may g c = subst (λ (cell : CellData). AsksWhatItMay (with_inputs g.A.Askers.asks cell) cell) (sym c.loop-event.invariant.same_cell) c.requires.may

pub follow-requires-clause-legal : goal.follow-requires-clause-legal
follow-requires-clause-legal g c =
    subst (λ (cell : CellData). IsLegal (with_inputs g.A.Askers.asks cell) cell c.loop-event.core.history) (sym c.loop-event.invariant.same_cell) c.loop-event.invariant.legal

pub returns-in-Some-clause-wrong : goal.returns-in-Some-clause-wrong
returns-in-Some-clause-wrong g c =
    next_is_wrong g.M.TaskMachine.program g.M.TaskMachine.stands_for g.M.TaskMachine.due g.A.Askers.asks _ _ _ _ _ _ c.loop-event.event-index c.len-at.result c.event-item.result c.in-Some.wrong
    c.loop-event.invariant (omega arith) c.event-item.is c.len-at.ensures.same c.in-Some.ensures.followed

pub loop-event-preserved : goal.loop-event-preserved
loop-event-preserved g c =
    let added = c.in_default.ensures.followed in
    one_more_event g.M.TaskMachine.program g.M.TaskMachine.stands_for g.M.TaskMachine.due g.A.Askers.asks _ _ _ _ _ _ _ _ _ c.loop-event.event-index c.event-item.result c.loop-event.invariant (omega arith) c.event-item.is
    c.in_default.ensures.cell c.in_default.ensures.programs added.0 added.1 (c.in_default.ensures.under_way refl)

pub returns-clause-history : goal.returns-clause-history
returns-clause-history g c = λ none.
    after_events g.M.TaskMachine.program g.M.TaskMachine.stands_for g.M.TaskMachine.due g.A.Askers.asks _ _ _ _ _ _ c.loop-event.event-index c.loop-event.invariant (omega arith)
