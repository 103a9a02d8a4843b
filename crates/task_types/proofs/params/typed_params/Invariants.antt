use Rattle.std.proofs.Common.{◌≡◌, ◌++◌, map, drop}
use Rattle.raw_trees.specs.Views.{view_param as view_raw}
use Rattle.typed_trees.specs.Views.{view_param}
use Rattle.task_types.specs.Task.{typed_params}
use Rattle.task_types.proofs.params.typed_params.Given as goal

abbrev pub invariant-loop-index : goal.invariant-loop-index
invariant-loop-index l =
    map view_param l.typed.items ++ typed_params (map view_raw (drop l.index l.params)) (drop l.index l.rows) ≡ typed_params (map view_raw l.params) l.rows
