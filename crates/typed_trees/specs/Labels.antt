-- The numbers of the labels of a routine (RAPID Kernel, GOTO and labels).
use Rattle.std.specs.Prelude.{ℕ, List, [], ◌∷◌, ◌++◌, Option, Some, None}
use Rattle.typed_trees.specs.Plain.{TypedStmt, TypedStmts, TypedArms, TypedCases, TypedElse, TypedRoutine, Label, If, IfOne, For, While, Test, NoStmts, MoreStmts, NoArms, MoreArms, NoCases, MoreCases, NoElse, Else}

-- all labels, in text order
abbrev mutual
  pub numbers_of : TypedStmt → List ℕ
  numbers_of (Label at number) = number ∷ []
  numbers_of (If at arms other) = numbers_in_arms arms ++ numbers_in_else other
  numbers_of (IfOne at test simple) = numbers_of simple
  numbers_of (For at local first last step list) = numbers_in list
  numbers_of (While at test list) = numbers_in list
  numbers_of (Test at value cases other) = numbers_in_cases cases ++ numbers_in_else other
  numbers_of _ = []

  pub numbers_in : TypedStmts → List ℕ
  numbers_in NoStmts = []
  numbers_in (MoreStmts stmt list) = numbers_of stmt ++ numbers_in list

  pub numbers_in_arms : TypedArms → List ℕ
  numbers_in_arms NoArms = []
  numbers_in_arms (MoreArms test list arms) = numbers_in list ++ numbers_in_arms arms

  pub numbers_in_cases : TypedCases → List ℕ
  numbers_in_cases NoCases = []
  numbers_in_cases (MoreCases values list cases) = numbers_in list ++ numbers_in_cases cases

  pub numbers_in_else : TypedElse → List ℕ
  numbers_in_else NoElse = []
  numbers_in_else (Else list) = numbers_in list

-- the statements of an ERROR part, if there is one
abbrev pub error_part : Option TypedStmts → TypedElse
error_part None = NoElse
error_part (Some list) = Else list

-- those of a routine's statements, then those of its ERROR part
abbrev pub numbers_in_routine : TypedRoutine → List ℕ
numbers_in_routine t = numbers_in t.list ++ numbers_in_else (error_part t.handler)
