-- The FORs of a routine in text order, each with the FOR around it.
use Rattle.std.specs.Prelude.{ℕ, ◌+◌, List, [], ◌∷◌, ◌++◌, length, Option, Some, None}
use Rattle.std.specs.Str.{str_to_ascii_lowercase}
use Rattle.raw_trees.specs.Plain.{PlainStmt, PlainStmts, PlainArms, PlainCases, PlainElse, PlainRoutine, If, IfOne, For, While, Test, NoStmts, MoreStmts, NoArms, MoreArms, NoCases, MoreCases, NoElse, Else, stmts_of, else_of}
use Rattle.data_scopes.specs.Scopes.{Loop}

-- in the list of the FOR with this number, if any; the first FOR found has the next number
abbrev mutual
  pub loops_of : Option ℕ → ℕ → PlainStmt → List Loop
  loops_of outer next (For at name first last step list) =
      record { name = str_to_ascii_lowercase name.text; outer = outer } ∷ loops_in (Some next) (next + 1) list
  loops_of outer next (If at arms other) =
      let here = loops_in_arms outer next arms in here ++ loops_in_else outer (next + length here) other
  loops_of outer next (IfOne at test then) = loops_of outer next then
  loops_of outer next (While at test list) = loops_in outer next list
  loops_of outer next (Test at value cases other) =
      let here = loops_in_cases outer next cases in here ++ loops_in_else outer (next + length here) other
  loops_of outer next _ = []

  pub loops_in : Option ℕ → ℕ → PlainStmts → List Loop
  loops_in outer next NoStmts = []
  loops_in outer next (MoreStmts stmt list) = let here = loops_of outer next stmt in here ++ loops_in outer (next + length here) list

  pub loops_in_arms : Option ℕ → ℕ → PlainArms → List Loop
  loops_in_arms outer next NoArms = []
  loops_in_arms outer next (MoreArms test list arms) = let here = loops_in outer next list in here ++ loops_in_arms outer (next + length here) arms

  pub loops_in_cases : Option ℕ → ℕ → PlainCases → List Loop
  loops_in_cases outer next NoCases = []
  loops_in_cases outer next (MoreCases values list cases) = let here = loops_in outer next list in here ++ loops_in_cases outer (next + length here) cases

  pub loops_in_else : Option ℕ → ℕ → PlainElse → List Loop
  loops_in_else outer next NoElse = []
  loops_in_else outer next (Else list) = loops_in outer next list

-- those of its statements, then those of its ERROR part
abbrev pub loops_in_routine : PlainRoutine → List Loop
loops_in_routine r = let here = loops_in None 0 (stmts_of r.list) in here ++ loops_in_else None (length here) (else_of r.handler)
