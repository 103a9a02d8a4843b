use Rattle.cell_gate.proofs.Turning.{settles, turned, held_in_turn, rises_grow, rose_now}
use Rattle.cell_gate.proofs.gate.Gate.rise_now.Goals as goal

pub try_rise-now-requires-clause-task : goal.try_rise-now-requires-clause-task
try_rise-now-requires-clause-task g c =
    (held_in_turn c.pass.inside.caller c.take-core.new.self.place.me c.take-core.result c.pass.invariant c.take-core.ensures.taken (rw (← c.pass.view_is) at c.requires.task) (rw (← c.pass.view_is) at c.requires.held)).0

pub try_rise-now-requires-clause-held : goal.try_rise-now-requires-clause-held
try_rise-now-requires-clause-held g c =
    (held_in_turn c.pass.inside.caller c.take-core.new.self.place.me c.take-core.result c.pass.invariant c.take-core.ensures.taken (rw (← c.pass.view_is) at c.requires.task) (rw (← c.pass.view_is) at c.requires.held)).1

pub settle-requires-clause-may : goal.settle-requires-clause-may
settle-requires-clause-may g c =
    let caller = c.pass.inside.caller in
    let came = rises_grow c.take-core.result c.try_rise-now.new.self caller.actor c.try_rise-now.result c.try_rise-now.ensures in
    settles caller c.take-core.new.self c.take-core.result c.try_rise-now.new.self _ _ c.pass.invariant c.take-core.ensures.same c.take-core.ensures.taken c.is_woken-grew.ensures came

pub returns-clause-rose : goal.returns-clause-rose
returns-clause-rose g c =
    let caller = c.pass.inside.caller in
    let core = c.try_rise-now.new.self in
    let turn = turned caller c.take-core.new.self c.settle.new.self c.take-core.result core c.pass.invariant c.take-core.ensures.taken c.settle.ensures.me in
    rw (← c.pass.view_is) (rose_now _ _ c.take-core.result core c.try_rise-now.result turn c.try_rise-now.ensures)
