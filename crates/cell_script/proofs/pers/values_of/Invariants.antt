use Rattle.std.proofs.Common.{◌≡◌, [], drop, map}
use Rattle.toml.specs.View.{view}
use Rattle.cell_script.specs.Keys.{each_row}
use Rattle.cell_script.specs.Rows.{pers_of}
use Rattle.cell_script.proofs.pers.values_of.Given as goal

abbrev pub invariant-loop-row : goal.invariant-loop-row
invariant-loop-row l = each_row pers_of l.values.items (map view (drop l.row-index l.rows)) ≡ each_row pers_of [] (map view l.rows)
