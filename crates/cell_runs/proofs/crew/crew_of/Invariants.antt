use Rattle.std.proofs.Common.{◌≡◌, take}
use Rattle.std.specs.List.{AllByRecursion}
use Rattle.cell_runs.proofs.Compiling.{code_in, code_of, is_new}
use Rattle.cell_runs.proofs.crew.crew_of.Given as goal

abbrev pub invariant-loop-tree : goal.invariant-loop-tree
invariant-loop-tree l = record {
  programs : code_in l.machines.items ≡ code_of (take l.tree-index l.trees);
  fresh : AllByRecursion is_new l.machines.items;
}
