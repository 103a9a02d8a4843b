use Rattle.std.proofs.Common.{◌≡◌, map, drop}
use Rattle.raw_trees.specs.Views.{view_item}
use Rattle.data_scopes.specs.Declarations.{items_rules}
use Rattle.data_scopes.proofs.walking.items_rules.Given as goal

abbrev pub invariant-loop-item : goal.invariant-loop-item
invariant-loop-item l =
    items_rules l.tables l.number l.counts (map view_item (drop l.item-index l.items))
    ≡ items_rules l.tables l.number l.fn.before (map view_item l.items)
