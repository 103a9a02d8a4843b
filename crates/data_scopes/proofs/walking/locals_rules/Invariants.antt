use Rattle.std.proofs.Common.{◌≡◌, map, drop}
use Rattle.raw_trees.specs.Views.{view_datum}
use Rattle.data_scopes.specs.Declarations.{locals_rules}
use Rattle.data_scopes.proofs.walking.locals_rules.Given as goal

abbrev pub invariant-loop-datum : goal.invariant-loop-datum
invariant-loop-datum l =
    locals_rules l.tables l.number l.routine l.index l.consts (map view_datum (drop l.datum-index l.locals))
    ≡ locals_rules l.tables l.number l.routine l.fn.first l.fn.before (map view_datum l.locals)
