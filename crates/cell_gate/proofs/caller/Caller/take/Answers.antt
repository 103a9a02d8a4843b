use Rattle.std.proofs.Common.{◌≡◌, ◌∙◌, ap, subst, arith, rules}
use Rattle.cell_gate.specs.Steps.{Hand, Took}
use Rattle.cell_gate.proofs.Keeps.{take_allowed}
use Rattle.cell_gate.proofs.Turning.{slot_again, taken_out, taken_some}
use Rattle.cell_gate.proofs.caller.Caller.take.Goals as goal

pub compare_exchange-found-requires : goal.compare_exchange-found-requires
compare_exchange-found-requires g c =
    let between = c.requires.between in
    let actor : c.loop.self.place.me.0.actor ≡ c.args.self.now.actor = ap (λ (h : Hand). h.0.actor) c.loop.invariant.1 ∙ between.actor_is in
    (search rules, search rules, take_allowed _ _ _ _ _ (omega (arith, actor)) (ap (λ (h : Hand). h.0.spent) c.loop.invariant.1 ∙ between.idle.live))

pub exchange-requires : goal.exchange-requires
exchange-requires g c =
    let took = c.compare_exchange-found.ensures.2.0 c.if-found-eq0.true in
    (search rules, (_, slot_again _ _ _ took.slot))

pub unwrap-requires : goal.unwrap-requires
unwrap-requires g c = taken_some c.loop.self.place.me c.compare_exchange-found.new.seat.me c.exchange.result (c.compare_exchange-found.ensures.2.0 c.if-found-eq0.true) c.exchange.ensures.2

pub returns-then-found-eq0-clause-taken : goal.returns-then-found-eq0-clause-taken
returns-then-found-eq0-clause-taken g c =
    let took = subst (λ (h : Hand). Took h c.compare_exchange-found.new.seat.me) c.loop.invariant.1 (c.compare_exchange-found.ensures.2.0 c.if-found-eq0.true) in
    taken_out c.args.self.now.place.me c.compare_exchange-found.new.seat.me c.exchange.new.seat.me c.exchange.result c.unwrap.result c.requires.between.idle.no_slot took c.exchange.ensures.2 c.unwrap.ensures c.exchange.ensures.3
