use Rattle.std.proofs.Common.{◌≡◌, None, map, replicate}
use Rattle.constant_meaning.specs.Constants.{items_of}
use Rattle.decl_types.proofs.locals.unknown.Given as goal

abbrev pub invariant-loop-parameter : goal.invariant-loop-parameter
invariant-loop-parameter l = map items_of l.known.items ≡ replicate l._parameter None
