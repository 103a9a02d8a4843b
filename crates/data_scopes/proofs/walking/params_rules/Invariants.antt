use Rattle.std.proofs.Common.{◌≡◌, map, drop}
use Rattle.raw_trees.specs.Views.{view_param}
use Rattle.data_scopes.specs.Declarations.{params_rules}
use Rattle.data_scopes.proofs.walking.params_rules.Given as goal

abbrev pub invariant-loop-param : goal.invariant-loop-param
invariant-loop-param l =
    (l.index ≡ l.param-index)
    × (params_rules l.tables l.number l.routine l.index (map view_param (drop l.param-index l.params)) ≡ params_rules l.tables l.number l.routine 0 (map view_param l.params))
