use Rattle.std.proofs.Common.{◌≤◌, length, arith}
use Rattle.world_zones.proofs.Named.{none-past}
use Rattle.world_zones.proofs.arm_zones.ArmZones.first_touched.Goals as goal

pub returns-clause-first : goal.returns-clause-first
returns-clause-first c =
    let inside : length c.self.inside.zones ≤ c.loop-index.index = omega (arith, c.self.invariant) in
    let few : length c.args.self.now ≤ c.loop-index.index = rw (← c.self.view_is) inside in
    none-past c.args.p.now c.args.q.now c.args.self.now c.loop-index.index few c.loop-index.invariant
