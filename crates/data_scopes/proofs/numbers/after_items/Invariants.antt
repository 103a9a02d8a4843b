use Rattle.std.proofs.Common.{◌≡◌, map, drop}
use Rattle.raw_trees.specs.Views.{view_item}
use Rattle.data_scopes.specs.Numbers.{after_items}
use Rattle.data_scopes.proofs.numbers.after_items.Given as goal

abbrev pub invariant-loop-item : goal.invariant-loop-item
invariant-loop-item l = after_items l.after (map view_item (drop l.item-index l.items)) ≡ after_items l.fn.counts (map view_item l.items)
