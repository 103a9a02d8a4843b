use Rattle.std.proofs.Common.{◌≡◌, [], map, drop}
use Rattle.raw_trees.specs.Views.{view_item}
use Rattle.data_scopes.specs.Numbers.{own_items}
use Rattle.data_scopes.proofs.filling.own_items.Given as goal

abbrev pub invariant-loop-item : goal.invariant-loop-item
invariant-loop-item l = own_items l.counts (map view_item (drop l.item-index l.items)) l.scope ≡ own_items l.fn.before (map view_item l.items) []
