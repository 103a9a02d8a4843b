use Rattle.std.proofs.Common.{◌≡◌, map, drop}
use Rattle.raw_trees.specs.Views.{view_datum}
use Rattle.data_scopes.specs.Numbers.{declare_locals}
use Rattle.data_scopes.proofs.filling.declare_locals.Given as goal

abbrev pub invariant-loop-datum : goal.invariant-loop-datum
invariant-loop-datum l =
    declare_locals l.index l.consts (map view_datum (drop l.datum-index l.locals)) l.scope ≡ declare_locals l.fn.first l.fn.before (map view_datum l.locals) l.initial.scope
