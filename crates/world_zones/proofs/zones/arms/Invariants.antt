use Rattle.std.proofs.Common.{◌≡◌, replicate}
use Rattle.world_zones.specs.Zones.{no_zones}
use Rattle.world_zones.proofs.zones.arms.Given as goal

abbrev pub invariant-loop-arm : goal.invariant-loop-arm
invariant-loop-arm l = l.arms.items ≡ replicate l._arm no_zones
