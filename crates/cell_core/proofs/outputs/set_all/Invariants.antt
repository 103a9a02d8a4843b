use Rattle.std.proofs.Common.{◌≡◌, ◌≤◌, length}
use Rattle.world_zones.specs.Zones.{arm_at}
use Rattle.cell_meaning.specs.Outputs.{with_outputs}
use Rattle.cell_core.specs.Changes.{changed_outputs}
use Rattle.cell_core.proofs.ZoneByZone.{first_outputs}
use Rattle.cell_core.proofs.outputs.set_all.Given as goal

-- the signals that the zones so far set, each of which changes one at most
abbrev pub invariant-loop-index : goal.invariant-loop-index
invariant-loop-index l = record {
  signals : l.signals ≡ with_outputs l.fn.signals (first_outputs (arm_at l.zones l.actor) l.at l.index);
  changed : l.changed ≡ changed_outputs l.fn.signals (first_outputs (arm_at l.zones l.actor) l.at l.index);
  few : length l.changed ≤ l.index;
  count : length l.signals ≡ length l.fn.signals;
}
