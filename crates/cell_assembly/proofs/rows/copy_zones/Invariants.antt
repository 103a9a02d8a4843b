use Rattle.std.proofs.Common.{◌≡◌, take}
use Rattle.cell_assembly.proofs.rows.copy_zones.Given as goal

abbrev pub invariant-loop-zone : goal.invariant-loop-zone
invariant-loop-zone l = l.copy.items ≡ take l.zone-index l.zones
