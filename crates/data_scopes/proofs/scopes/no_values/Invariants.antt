use Rattle.std.proofs.Common.{◌≡◌, None, replicate}
use Rattle.data_scopes.proofs.scopes.no_values.Given as goal

abbrev pub invariant-loop-constant : goal.invariant-loop-constant
invariant-loop-constant l = l.kept.items ≡ replicate l._constant None
