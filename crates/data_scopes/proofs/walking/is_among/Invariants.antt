use Rattle.std.proofs.Common.{◌≡◌, map, drop}
use Rattle.raw_trees.specs.Views.{view_module}
use Rattle.rapid_model.specs.Names.{is_among}
use Rattle.data_scopes.specs.Declarations.{names}
use Rattle.data_scopes.proofs.walking.is_among.Given as goal

abbrev pub invariant-loop-other : goal.invariant-loop-other
invariant-loop-other l = is_among l.name (names (map view_module (drop l.other-index l.modules))) ≡ is_among l.name (names (map view_module l.modules))
