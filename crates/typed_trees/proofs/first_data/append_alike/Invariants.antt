use Rattle.std.proofs.Common.{◌≡◌, ◌++◌, replicate}
use Rattle.typed_trees.proofs.first_data.append_alike.Given as goal

abbrev pub invariant-loop-copy : goal.invariant-loop-copy
invariant-loop-copy l = l.to.items ≡ l.initial.to.items ++ replicate l._copy l.datum
