use Rattle.std.proofs.Common.{◌≡◌, map, drop}
use Rattle.raw_trees.specs.Views.{view_datum}
use Rattle.constant_meaning.specs.Constants.{items_of}
use Rattle.decl_types.specs.Data.{locals}
use Rattle.decl_types.specs.Parts.{view_inner}
use Rattle.decl_types.proofs.locals.locals.Given as goal

abbrev pub invariant-loop-datum : goal.invariant-loop-datum
invariant-loop-datum l =
    locals l.number l.routine (map items_of l.slots) (map view_datum (drop l.datum-index l.declared)) (view_inner l.inner)
    ≡ locals l.number l.routine (map items_of l.slots) (map view_datum l.declared) (view_inner l.initial.inner)
