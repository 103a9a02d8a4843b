use Rattle.std.proofs.Common.{◌≡◌, ◌++◌, map, drop}
use Rattle.raw_trees.specs.Views.{view_item}
use Rattle.data_scopes.specs.Numbers.{routine_scopes}
use Rattle.data_scopes.proofs.filling.push_scopes.Given as goal

abbrev pub invariant-loop-item : goal.invariant-loop-item
invariant-loop-item l =
    l.inner.items ++ routine_scopes l.counts (map view_item (drop l.item-index l.items)) ≡ l.initial.inner.items ++ routine_scopes l.fn.before (map view_item l.items)
