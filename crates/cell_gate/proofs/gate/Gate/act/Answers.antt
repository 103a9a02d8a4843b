use Rattle.cell_gate.proofs.Turning.{settles, turned, may_in_turn, acts_grow, acted_as}
use Rattle.cell_gate.proofs.gate.Gate.act.Goals as goal

pub try_act-acted-requires-clause-may : goal.try_act-acted-requires-clause-may
try_act-acted-requires-clause-may g c = may_in_turn c.pass.inside.caller c.take-core.new.self.place.me c.take-core.result c.args.request.now c.pass.invariant c.take-core.ensures.taken (rw (← c.pass.view_is) at c.requires.may)

pub settle-requires-clause-may : goal.settle-requires-clause-may
settle-requires-clause-may g c =
    let caller = c.pass.inside.caller in
    let came = acts_grow c.take-core.result c.try_act-acted.new.self caller.actor c.args.request.now c.try_act-acted.result c.try_act-acted.ensures in
    settles caller c.take-core.new.self c.take-core.result c.try_act-acted.new.self _ _ c.pass.invariant c.take-core.ensures.same c.take-core.ensures.taken c.is_done-grew.ensures came

pub returns-clause-acted : goal.returns-clause-acted
returns-clause-acted g c =
    let caller = c.pass.inside.caller in
    let core = c.try_act-acted.new.self in
    let turn = turned caller c.take-core.new.self c.settle.new.self c.take-core.result core c.pass.invariant c.take-core.ensures.taken c.settle.ensures.me in
    rw (← c.pass.view_is) (acted_as _ _ c.take-core.result core c.args.request.now c.try_act-acted.result turn c.try_act-acted.ensures)
