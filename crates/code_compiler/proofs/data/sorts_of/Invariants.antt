use Rattle.std.proofs.Common.{◌≡◌, ◌++◌, length}
use Rattle.code_compiler.proofs.Lists.{sorts_from}
use Rattle.code_compiler.proofs.data.sorts_of.Given as goal

abbrev pub invariant-loop-number : goal.invariant-loop-number
invariant-loop-number l = l.sorts.items ++ sorts_from (length l.yielded) l.tree.pers_of.items l.tree.pers.items ≡ sorts_from 0 l.tree.pers_of.items l.tree.pers.items
