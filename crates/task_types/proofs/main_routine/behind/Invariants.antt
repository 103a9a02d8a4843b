use Rattle.std.proofs.Common.{◌≡◌, ◌+◌, length, map, drop}
use Rattle.raw_trees.specs.Views.{view_item}
use Rattle.task_types.specs.Task.{routines_in}
use Rattle.task_types.proofs.main_routine.behind.Given as goal

abbrev pub invariant-loop-item : goal.invariant-loop-item
invariant-loop-item l =
    l.number + length (routines_in (map view_item (drop l.item-index l.items))) ≡ l.first + length (routines_in (map view_item l.items))
