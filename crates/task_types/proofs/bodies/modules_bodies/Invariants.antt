use Rattle.std.proofs.Common.{◌≡◌, map, drop}
use Rattle.raw_trees.specs.Views.{view_module}
use Rattle.task_types.specs.Task.{bodies}
use Rattle.task_types.specs.Views.{view_routines, HasLeft}
use Rattle.task_types.proofs.bodies.modules_bodies.Given as goal

abbrev pub ghost-items_bodies : goal.ghost-items_bodies
ghost-items_bodies g a = g.locals

abbrev pub invariant-loop-unit : goal.invariant-loop-unit
invariant-loop-unit g l =
    HasLeft g.locals l.more
    × (bodies l.scopes g.locals l.number (map view_module (drop l.unit-index l.modules)) (view_routines l.more)
    ≡ bodies l.scopes g.locals 0 (map view_module l.modules) (view_routines l.initial.more))
