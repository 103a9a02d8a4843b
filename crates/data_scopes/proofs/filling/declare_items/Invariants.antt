use Rattle.std.proofs.Common.{◌≡◌, map, drop}
use Rattle.raw_trees.specs.Views.{view_item}
use Rattle.data_scopes.specs.Numbers.{task_items}
use Rattle.data_scopes.proofs.filling.declare_items.Given as goal

abbrev pub invariant-loop-item : goal.invariant-loop-item
invariant-loop-item l = task_items l.counts (map view_item (drop l.item-index l.items)) l.scope ≡ task_items l.fn.before (map view_item l.items) l.initial.scope
