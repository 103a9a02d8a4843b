use Rattle.std.proofs.Common.{◌≡◌, map, take}
use Rattle.typed_trees.specs.declared.datum.Datum.TheVariants as held
use Rattle.decl_types.proofs.first_data.plain_data.Given as goal

abbrev pub invariant-loop-value : goal.invariant-loop-value
invariant-loop-value l = l.held.items ≡ map held.Plain (take l.value-index l.values)
