use Rattle.std.proofs.Common.{◌≡◌, [], map, drop}
use Rattle.raw_trees.specs.Views.{view_param}
use Rattle.data_scopes.specs.Rows.{param_rows}
use Rattle.data_scopes.proofs.routine_rows.param_rows.Given as goal

abbrev pub invariant-loop-param : goal.invariant-loop-param
invariant-loop-param l =
    param_rows l.tables l.number l.routine (map view_param (drop l.param-index l.params)) l.rows.items
    ≡ param_rows l.tables l.number l.routine (map view_param l.params) []
