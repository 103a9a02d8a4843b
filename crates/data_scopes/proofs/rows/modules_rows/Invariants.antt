use Rattle.std.proofs.Common.{◌≡◌, map, drop}
use Rattle.raw_trees.specs.Views.{view_module}
use Rattle.data_scopes.specs.Rows.{modules_rows, no_rows}
use Rattle.data_scopes.proofs.rows.modules_rows.Given as goal

abbrev pub invariant-loop-unit : goal.invariant-loop-unit
invariant-loop-unit l =
    modules_rows l.tables l.number (map view_module (drop l.unit-index l.modules)) l.rows ≡ modules_rows l.tables 0 (map view_module l.modules) no_rows
