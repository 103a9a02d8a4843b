use Rattle.std.proofs.Common.{◌≡◌, ◌++◌, take}
use Rattle.typed_trees.proofs.first_data.append_each.Given as goal

abbrev pub invariant-loop-datum : goal.invariant-loop-datum
invariant-loop-datum l = l.to.items ≡ l.initial.to.items ++ take l.datum-index l.first
