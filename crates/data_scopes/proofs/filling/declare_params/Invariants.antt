use Rattle.std.proofs.Common.{◌≡◌, map, drop}
use Rattle.raw_trees.specs.Views.{view_param}
use Rattle.data_scopes.specs.Numbers.{declare_params}
use Rattle.data_scopes.proofs.filling.declare_params.Given as goal

abbrev pub invariant-loop-param : goal.invariant-loop-param
invariant-loop-param l =
    (l.index ≡ l.param-index) × (declare_params l.index (map view_param (drop l.param-index l.params)) l.scope ≡ declare_params 0 (map view_param l.params) l.initial.scope)
