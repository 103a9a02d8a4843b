-- The tree and the routine of an expression.
use Rattle.typed_trees.specs.Plain.{TypedRoutine, TypedTree}
use Rattle.typed_trees.specs.Views.{view_routine, view_tree}
use Rattle.code_expr.specs.declared.context.Context.{Context}

abbrev pub tree_of : Context → TypedTree
tree_of at = view_tree at.tree.now

abbrev pub routine_of : Context → TypedRoutine
routine_of at = view_routine at.routine.now
