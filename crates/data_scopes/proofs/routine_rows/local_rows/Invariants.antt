use Rattle.std.proofs.Common.{◌≡◌, [], map, drop}
use Rattle.raw_trees.specs.Views.{view_datum}
use Rattle.data_scopes.specs.Rows.{local_rows}
use Rattle.data_scopes.proofs.routine_rows.local_rows.Given as goal

abbrev pub invariant-loop-datum : goal.invariant-loop-datum
invariant-loop-datum l =
    local_rows l.tables l.number l.routine (map view_datum (drop l.datum-index l.locals)) l.rows.items
    ≡ local_rows l.tables l.number l.routine (map view_datum l.locals) []
