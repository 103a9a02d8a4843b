-- Code whose owners are marked.
use Rattle.std.specs.Prelude.{◌≡◌, ℕ, List, [], ◌∷◌, ◌++◌, length, Option}
use Rattle.std.specs.Option.{option_map}
use Rattle.stack_code.specs.Compiled.{owner_rows, part_start, routine_code, routine_size}
use Rattle.stack_code.specs.Placed.{Placed}
use Rattle.stack_code.specs.declared.marks.Marks.{Marks}
use Rattle.stack_code.specs.declared.op.Op.{Op}
use Rattle.stack_code.specs.declared.owner.Owner.{Owner}
use Rattle.typed_trees.specs.Plain.{TypedRoutine, TypedTree}
use Rattle.code_expr.specs.Follows.{Follows}
use Rattle.code_stmt.specs.Lays.{ops_of}
use Rattle.code_stmt.specs.Runs.{with_rows}

-- these operations, with these rows of owners, are the placed ones
pub record Stand (ops : List Op) (rows : List Owner) (placed : List Placed) : Type 0 where
  pub code : ops ≡ ops_of placed
  pub owners : rows ≡ owner_rows placed

-- the place of the ERROR part of a routine that begins at a place, if it has one
abbrev pub handler_at : TypedTree → TypedRoutine → ℕ → Option ℕ
handler_at tree routine pc = option_map (λ list. part_start tree routine pc) routine.handler

-- the operations and the rows of owners, with more operations after them
abbrev pub with_marked : List Op → List Owner → List Placed → List Op × List Owner
with_marked code owners ps = (code ++ ops_of ps, with_rows owners (length code) ps)

-- the operations of a routine are appended, with the rows of their owners and the place of the ERROR part
pub record Marked (tree : TypedTree) (routine : TypedRoutine) (old new : List Op) (marks marked : Marks) : Type 0 where
  pub laid : Follows (with_marked old marks.owners.items) (with_marked new marked.owners.items) (length old) (length new) (routine_size tree routine) (λ pc ps. routine_code tree pc routine ps)
  pub handler : marked.handlers.items ≡ marks.handlers.items ++ handler_at tree routine (length old) ∷ []

-- nothing is changed
pub record Kept (old new : List Op) (marks kept : Marks) : Type 0 where
  pub code : new ≡ old
  pub owners : kept.owners.items ≡ marks.owners.items
  pub handlers : kept.handlers.items ≡ marks.handlers.items

-- the last row, if there is one, and those before it
unfoldable pub last_of : List Owner → List Owner
last_of [] = []
last_of (row ∷ []) = row ∷ []
last_of (row ∷ next ∷ more) = last_of (next ∷ more)

unfoldable pub front_of : List Owner → List Owner
front_of [] = []
front_of (row ∷ []) = []
front_of (row ∷ next ∷ more) = row ∷ front_of (next ∷ more)
