-- How a routine is linked after others.
use Rattle.std.specs.Prelude.{◌≡◌, ◌+◌, max, [], ◌∷◌, ◌++◌, length}
use Rattle.rapid_meaning.specs.Frames.{first_values}
use Rattle.stack_code.specs.Compiled.{part_need, routine_row}
use Rattle.stack_code.specs.Firsts.{in_full}
use Rattle.stack_code.specs.Needs.{stmts_need}
use Rattle.typed_trees.specs.Plain.{TypedRoutine, TypedTree}
use Rattle.code_stmt.specs.Marked.{Marked}
use Rattle.code_compiler.specs.declared.linked.Linked.{Linked}

-- its operations with their marks, its row, and the first values of its frames come after those of the others
pub record Links (tree : TypedTree) (routine : TypedRoutine) (old new : Linked) : Type 0 where
  pub marked : Marked tree routine old.ops.items new.ops.items old.marks new.marks
  pub row : new.rows.items ≡ old.rows.items ++ routine_row (length old.ops.items) old.values routine ∷ []
  pub firsts : in_full new.firsts.items ≡ in_full old.firsts.items ++ first_values routine
  pub values : new.values ≡ old.values + length (first_values routine)
  pub deepest : new.deepest ≡ max old.deepest (max (stmts_need tree routine routine.list) (part_need tree routine routine.handler))
