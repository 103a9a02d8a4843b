use Rattle.std.proofs.Common.{◌≡◌, map, drop}
use Rattle.raw_trees.specs.Views.{view_module}
use Rattle.decl_types.specs.Data.{data_of}
use Rattle.decl_types.specs.Views.{view_progress}
use Rattle.decl_types.proofs.data_of.Given as goal

abbrev pub invariant-loop-unit : goal.invariant-loop-unit
invariant-loop-unit l =
    data_of l.number (map view_module (drop l.unit-index l.modules)) (view_progress l.progress)
    ≡ data_of 0 (map view_module l.modules) (view_progress l.initial.progress)
