use Rattle.std.proofs.Common.{◌≡◌, map, drop}
use Rattle.raw_trees.specs.Views.{view_item}
use Rattle.decl_types.specs.Data.{items}
use Rattle.decl_types.specs.Views.{view_progress}
use Rattle.decl_types.proofs.items.items.Given as goal

abbrev pub invariant-loop-one : goal.invariant-loop-one
invariant-loop-one l =
    items l.number (map view_item (drop l.one-index l.declared)) (view_progress l.progress)
    ≡ items l.number (map view_item l.declared) (view_progress l.initial.progress)
