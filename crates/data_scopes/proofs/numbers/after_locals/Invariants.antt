use Rattle.std.proofs.Common.{◌≡◌, ◌+◌, map, drop}
use Rattle.raw_trees.specs.Views.{view_datum}
use Rattle.data_scopes.specs.Numbers.{scalar_consts}
use Rattle.data_scopes.proofs.numbers.after_locals.Given as goal

abbrev pub invariant-loop-datum : goal.invariant-loop-datum
invariant-loop-datum l =
    l.after + scalar_consts (map view_datum (drop l.datum-index l.locals)) ≡ l.consts + scalar_consts (map view_datum l.locals)
