use Rattle.std.proofs.Common.{ℕ, ◌<◌, None, slice_index_or}
use Rattle.world_zones.specs.First.{Stops}
use Rattle.world_zones.specs.Zones.{own_shape}
use Rattle.world_zones.proofs.arm_zones.ArmZones.first_touched.Given as goal

-- no zone so far stops it
abbrev pub invariant-loop-index : goal.invariant-loop-index
invariant-loop-index l = (k : ℕ) → k < l.index → ¬ Stops l.p l.q (own_shape (slice_index_or l.self k None))
