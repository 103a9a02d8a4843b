use Rattle.std.proofs.Common.{◌+◌, List, length, ap, arith}
use Rattle.cell_gate.specs.PassData.{PassData}
use Rattle.free_crew.proofs.Begun.{fresh_length, may_begin}
use Rattle.free_crew.proofs.beginning.begin.Goals as goal

pub new_crew-requires-clause-few : goal.new_crew-requires-clause-few
new_crew-requires-clause-few g c = let tasks = c.requires.crew.one_each in omega (arith, tasks)

pub new_crew-requires-clause-passes : goal.new_crew-requires-clause-passes
new_crew-requires-clause-passes g c =
    let tasks = c.requires.crew.one_each in
    let all = ap (λ (ps : List PassData). length ps) c.requires.passes in
    let count = fresh_length c.args.gate.now 0 (length c.args.gate.now.cell.tasks + 1) in
    omega (arith, tasks, all, count)

pub returns-clause-may : goal.returns-clause-may
returns-clause-may g c =
    may_begin _ _ _ _ _ c.args.gate.now c.args.machines.items c.args.passes.items c.new_crew.result c.requires.crew.one_each c.requires.suit c.requires.passes c.new_crew.ensures.even c.new_crew.ensures.passes
    c.new_crew.ensures.going c.new_crew.ensures.programs c.new_crew.ensures.under_way
