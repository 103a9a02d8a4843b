use Rattle.std.proofs.Common.{◌≡◌, map, drop}
use Rattle.raw_trees.specs.Views.{view_item}
use Rattle.task_types.specs.Task.{main_among, routines_in}
use Rattle.task_types.proofs.Mains.{from}
use Rattle.task_types.proofs.main_routine.main_in.Given as goal

abbrev pub invariant-loop-item : goal.invariant-loop-item
invariant-loop-item l =
    from l.number (main_among (routines_in (map view_item (drop l.item-index l.items)))) ≡ from l.first (main_among (routines_in (map view_item l.items)))
