use Rattle.std.proofs.Common.{◌≡◌, ◌++◌, map, drop}
use Rattle.raw_trees.specs.Views.{view_item}
use Rattle.data_scopes.specs.Numbers.{items_loops}
use Rattle.data_scopes.specs.Scopes.{loop_rows}
use Rattle.data_scopes.proofs.filling.push_items_rows.Given as goal

abbrev pub invariant-loop-item : goal.invariant-loop-item
invariant-loop-item l =
    loop_rows l.loops.items ++ items_loops (map view_item (drop l.item-index l.items)) ≡ loop_rows l.initial.loops.items ++ items_loops (map view_item l.items)
