use Rattle.std.proofs.Common.{◌≡◌, map, drop}
use Rattle.raw_trees.specs.Views.{view_item}
use Rattle.task_types.specs.Task.{items_bodies}
use Rattle.task_types.specs.Views.{view_routines, HasLeft}
use Rattle.task_types.proofs.bodies.items_bodies.Given as goal

abbrev pub ghost-item_bodies : goal.ghost-item_bodies
ghost-item_bodies g a = g.locals

abbrev pub invariant-loop-item : goal.invariant-loop-item
invariant-loop-item g l =
    HasLeft g.locals l.more
    × (items_bodies l.scopes g.locals l.number (map view_item (drop l.item-index l.items)) (view_routines l.more)
    ≡ items_bodies l.scopes g.locals l.number (map view_item l.items) (view_routines l.initial.more))
