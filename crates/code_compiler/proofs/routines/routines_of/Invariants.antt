use Rattle.typed_trees.specs.Views.{view_tree}
use Rattle.code_compiler.proofs.Linking.{IsLeft}
use Rattle.code_compiler.proofs.Lists.{routines_from}
use Rattle.code_compiler.proofs.routines.routines_of.Given as goal

abbrev pub invariant-loop-routine : goal.invariant-loop-routine
invariant-loop-routine l = IsLeft (view_tree l.tree) l.linked (routines_from l.routine-index l.routine-items)
