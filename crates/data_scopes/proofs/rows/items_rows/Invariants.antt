use Rattle.std.proofs.Common.{◌≡◌, map, drop}
use Rattle.raw_trees.specs.Views.{view_item}
use Rattle.data_scopes.specs.Rows.{items_rows}
use Rattle.data_scopes.proofs.rows.items_rows.Given as goal

abbrev pub invariant-loop-item : goal.invariant-loop-item
invariant-loop-item l =
    items_rows l.tables l.number (map view_item (drop l.item-index l.items)) l.more
    ≡ items_rows l.tables l.number (map view_item l.items) l.initial.more
