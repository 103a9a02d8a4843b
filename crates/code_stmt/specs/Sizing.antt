-- The sizes of the statements of a routine, in the order in which emission asks for them: each statement, and each list
-- of IF, ELSEIF and CASE, before its parts.
use Rattle.std.specs.Prelude.{◌≡◌, ℕ, List, [], ◌∷◌, ◌++◌, drop, Option, None, Some}
use Rattle.stack_code.specs.Sizes.{stmt_size, stmts_size}
use Rattle.typed_trees.specs.Plain as trees
use Rattle.typed_trees.specs.Plain.{TypedArms, TypedCases, TypedElse, TypedRoutine, TypedStmt, TypedStmts, TypedTree, NoStmts, MoreStmts, NoArms, MoreArms, NoCases, MoreCases, NoElse, Else}
use Rattle.code_stmt.specs.declared.sizes.SizesLeft.{SizesLeft}

-- of the parts of a statement
abbrev mutual
  pub inner_sizes : TypedTree → TypedRoutine → TypedStmt → List ℕ
  inner_sizes tree routine (trees.If at arms other) = arms_sizes tree routine arms ++ else_sizes tree routine other
  inner_sizes tree routine (trees.IfOne at e one) = stmt_size tree routine one ∷ inner_sizes tree routine one
  inner_sizes tree routine (trees.For at local first last step list) = stmts_sizes tree routine list
  inner_sizes tree routine (trees.While at e list) = stmts_sizes tree routine list
  inner_sizes tree routine (trees.Test at e cases other) = cases_sizes tree routine cases ++ else_sizes tree routine other
  inner_sizes tree routine s = []

  pub stmts_sizes : TypedTree → TypedRoutine → TypedStmts → List ℕ
  stmts_sizes tree routine NoStmts = []
  stmts_sizes tree routine (MoreStmts s more) = (stmt_size tree routine s ∷ inner_sizes tree routine s) ++ stmts_sizes tree routine more

  pub arms_sizes : TypedTree → TypedRoutine → TypedArms → List ℕ
  arms_sizes tree routine NoArms = []
  arms_sizes tree routine (MoreArms e list more) = (stmts_size tree routine list ∷ stmts_sizes tree routine list) ++ arms_sizes tree routine more

  pub cases_sizes : TypedTree → TypedRoutine → TypedCases → List ℕ
  cases_sizes tree routine NoCases = []
  cases_sizes tree routine (MoreCases es list more) = (stmts_size tree routine list ∷ stmts_sizes tree routine list) ++ cases_sizes tree routine more

  pub else_sizes : TypedTree → TypedRoutine → TypedElse → List ℕ
  else_sizes tree routine NoElse = []
  else_sizes tree routine (Else list) = stmts_sizes tree routine list

abbrev pub stmt_sizes : TypedTree → TypedRoutine → TypedStmt → List ℕ
stmt_sizes tree routine s = stmt_size tree routine s ∷ inner_sizes tree routine s

-- of a list, its own first
abbrev pub list_sizes : TypedTree → TypedRoutine → TypedStmts → List ℕ
list_sizes tree routine list = stmts_size tree routine list ∷ stmts_sizes tree routine list

abbrev pub part_sizes : TypedTree → TypedRoutine → Option TypedStmts → List ℕ
part_sizes tree routine None = []
part_sizes tree routine (Some list) = stmts_sizes tree routine list

abbrev pub routine_sizes : TypedTree → TypedRoutine → List ℕ
routine_sizes tree routine = stmts_sizes tree routine routine.list ++ part_sizes tree routine routine.handler

-- the sizes that are left
abbrev pub left_in : SizesLeft → List ℕ
left_in s = drop s.used s.sizes.items

-- if these sizes are next, they are taken, and this holds
abbrev pub Taking : SizesLeft → SizesLeft → List ℕ → Type 0 → Type 0
Taking old new sizes claim = (rest : List ℕ) → left_in old ≡ sizes ++ rest → claim × (left_in new ≡ rest)
