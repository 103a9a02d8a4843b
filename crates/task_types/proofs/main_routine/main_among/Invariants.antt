use Rattle.std.proofs.Common.{◌≡◌, map, drop}
use Rattle.raw_trees.specs.Views.{view_module}
use Rattle.task_types.specs.Task.{main_among, routines_of}
use Rattle.task_types.proofs.Mains.{from}
use Rattle.task_types.proofs.main_routine.main_among.Given as goal

abbrev pub invariant-loop-unit : goal.invariant-loop-unit
invariant-loop-unit l =
    from l.number (main_among (routines_of (map view_module (drop l.unit-index l.modules)))) ≡ main_among (routines_of (map view_module l.modules))
