use Rattle.std.proofs.Common.{ℕ, ◌<◌, slice_get}
use Rattle.world_zones.specs.First.{Stops}
use Rattle.world_zones.specs.Zones.{shape_of_cell}
use Rattle.world_zones.proofs.zones.first_of_cell.Given as goal

-- no zone so far stops it
abbrev pub invariant-loop-index : goal.invariant-loop-index
invariant-loop-index g l = (k : ℕ) → k < l.index → ¬ Stops l.p l.q (shape_of_cell l.task (g.V.SignalValues.values l.signals) (slice_get l.cell k))
