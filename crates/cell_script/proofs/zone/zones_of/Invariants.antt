use Rattle.std.proofs.Common.{◌≡◌, [], drop, map}
use Rattle.toml.specs.View.{view}
use Rattle.cell_script.specs.Keys.{each_row}
use Rattle.cell_script.specs.Rows.{zone_of}
use Rattle.cell_script.proofs.zone.zones_of.Given as goal

abbrev pub invariant-loop-row : goal.invariant-loop-row
invariant-loop-row l = each_row (zone_of l.signals l.tasks) l.zones.items (map view (drop l.row-index l.rows)) ≡ each_row (zone_of l.signals l.tasks) [] (map view l.rows)
