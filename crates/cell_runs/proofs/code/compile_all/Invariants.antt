use Rattle.std.proofs.Common.{◌≡◌, take}
use Rattle.cell_runs.proofs.Compiling.{code_of}
use Rattle.cell_runs.proofs.code.compile_all.Given as goal

abbrev pub invariant-loop-tree : goal.invariant-loop-tree
invariant-loop-tree l = l.each.items ≡ code_of (take l.tree-index l.trees)
