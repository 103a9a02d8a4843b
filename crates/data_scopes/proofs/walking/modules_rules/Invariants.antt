use Rattle.std.proofs.Common.{◌≡◌, [], map, drop, take}
use Rattle.raw_trees.specs.Views.{view_module}
use Rattle.data_scopes.specs.Declarations.{modules_rules, names}
use Rattle.data_scopes.specs.Numbers.{no_counts}
use Rattle.data_scopes.proofs.walking.modules_rules.Given as goal

abbrev pub invariant-loop-index : goal.invariant-loop-index
invariant-loop-index l =
    modules_rules l.tables l.number (names (map view_module (take l.index l.modules))) l.counts (map view_module (drop l.index l.modules))
    ≡ modules_rules l.tables 0 [] no_counts (map view_module l.modules)
