use Rattle.cell_gate.proofs.Turning.{settles, turned, script_in_turn, feeds_grow, fed_now}
use Rattle.cell_gate.proofs.gate.Gate.feed_now.Goals as goal

pub settle-requires-clause-may : goal.settle-requires-clause-may
settle-requires-clause-may g c =
    let caller = c.pass.inside.caller in
    let script = script_in_turn caller c.take-core.new.self.place.me c.take-core.result c.take-core.ensures.taken (rw (← c.pass.view_is) at c.requires.script) in
    let came = feeds_grow c.take-core.result c.try_feed-fed.new.self caller.actor c.try_feed-fed.result script c.try_feed-fed.ensures in
    settles caller c.take-core.new.self c.take-core.result c.try_feed-fed.new.self _ _ c.pass.invariant c.take-core.ensures.same c.take-core.ensures.taken c.is_given-grew.ensures came

pub returns-clause-fed : goal.returns-clause-fed
returns-clause-fed g c =
    let caller = c.pass.inside.caller in
    let core = c.try_feed-fed.new.self in
    let script = script_in_turn caller c.take-core.new.self.place.me c.take-core.result c.take-core.ensures.taken (rw (← c.pass.view_is) at c.requires.script) in
    let turn = turned caller c.take-core.new.self c.settle.new.self c.take-core.result core c.pass.invariant c.take-core.ensures.taken c.settle.ensures.me in
    rw (← c.pass.view_is) (fed_now _ _ c.take-core.result core c.try_feed-fed.result turn script c.try_feed-fed.ensures)
