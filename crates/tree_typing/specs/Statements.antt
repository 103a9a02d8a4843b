-- When statements are well typed, one line for each form.
use Rattle.std.specs.Prelude.{◌≡◌, ◌⊎◌, ℕ, Bool, true, IsTrue, List, [], ◌∷◌, map, Option, Some, None, is_some, slice_get, ⊤}
use Rattle.rapid_model.specs.Sorts.{has_values, is_compared}
use Rattle.rapid_model.specs.declared.sort.Sort.{Sort}
use Rattle.rapid_model.specs.declared.sort.Sort.TheVariants as sorts
use Rattle.rapid_model.specs.declared.routine_kind.RoutineKind.{RoutineKind}
use Rattle.rapid_model.specs.declared.routine_kind.RoutineKind.TheVariants as routines
use Rattle.typed_trees.specs.Plain.{TypedArms, TypedCases, TypedElse, TypedExpr, TypedExprs, TypedRoutine, TypedStmt, TypedStmts, Assign, Instruct, Call, Label, Goto, Return, Exit, Raise, Retry, TryNext, Connect, If, IfOne, For, While, Test, NoExprs, MoreExprs, NoStmts, MoreStmts, NoArms, MoreArms, NoCases, MoreCases, NoElse, Else}
use Rattle.rapid_meaning.specs.Lists.{behind}
use Rattle.tree_typing.specs.Expressions.{AreArgs, IsExpr, IsPlace}
use Rattle.tree_typing.specs.Instructions.{IsInstruction}
use Rattle.tree_typing.specs.Kinds.{Kind, Counts, need_of}
use Rattle.tree_typing.specs.Setting.{Setting}

-- The context of a statement: the kinds of its routine's rows; whether the routine is a procedure, a function or a
-- trap, and the type of its result; whether the statement is in the ERROR part; and the lists around it, innermost
-- first.
pub record Around : Type 0 where
  pub places : List Kind
  pub kind : RoutineKind
  pub result : Option Sort
  pub handler : Bool
  pub lists : List TypedStmts

abbrev pub into : Around → TypedStmts → Around
into around list = record around { lists = list ∷ around.lists }

-- a label of one of the lists
abbrev pub Sees : ℕ → List TypedStmts → Type 0
Sees label [] = ⊥
Sees label (list ∷ lists) = IsTrue (is_some (behind label list)) ⊎ Sees label lists

-- only a function returns a value, and a function always does
abbrev pub ReturnsNothing : RoutineKind → Type 0
ReturnsNothing routines.Proc = ⊤
ReturnsNothing routines.Trap = ⊤
ReturnsNothing routines.Func = ⊥

-- the step of a FOR, if it has one
abbrev pub IsStep : Setting → List Kind → Option TypedExpr → Type 0
IsStep c kinds None = ⊤
IsStep c kinds (Some e) = IsExpr c kinds e sorts.Num

-- the values of a CASE
abbrev pub AreCaseValues : Setting → List Kind → TypedExprs → Sort → Type 0
AreCaseValues c kinds NoExprs sort = ⊤
AreCaseValues c kinds (MoreExprs e es) sort = IsExpr c kinds e sort × AreCaseValues c kinds es sort

abbrev mutual
  pub IsStmt : Setting → Around → TypedStmt → Type 0
  IsStmt c around (Assign at p e) = (sort : Sort) × IsTrue (has_values sort) × IsPlace c around.places true p sort × IsExpr c around.places e sort
  IsStmt c around (Instruct at instruction args) = IsInstruction c around.places instruction args
  IsStmt c around (Call at called args) =
      (routine : TypedRoutine) × (slice_get c.tree.routines called ≡ Some routine) × (routine.kind ≡ routines.Proc)
      × AreArgs c around.places args (map need_of routine.params)
  IsStmt c around (Label at label) = ⊤
  IsStmt c around (Goto at label) = Sees label around.lists
  IsStmt c around (Return at None) = ReturnsNothing around.kind
  IsStmt c around (Return at (Some e)) = (sort : Sort) × (around.kind ≡ routines.Func) × (around.result ≡ Some sort) × IsExpr c around.places e sort
  IsStmt c around (Exit at) = ⊤
  IsStmt c around (Raise at None) = IsTrue around.handler
  IsStmt c around (Raise at (Some e)) = IsExpr c around.places e sorts.Num
  IsStmt c around (Retry at) = IsTrue around.handler
  IsStmt c around (TryNext at) = IsTrue around.handler
  IsStmt c around (Connect at p trap) =
      IsPlace c around.places true p sorts.IntNum × (routine : TypedRoutine) × (slice_get c.tree.routines trap ≡ Some routine) × (routine.kind ≡ routines.Trap)
  IsStmt c around (If at arms other) = AreArms c around arms × IsElse c around other
  IsStmt c around (IfOne at e one) = IsExpr c around.places e sorts.Bool × IsStmt c around one
  IsStmt c around (For at local first last step list) =
      (slice_get around.places local ≡ Some Counts) × IsExpr c around.places first sorts.Num × IsExpr c around.places last sorts.Num
      × IsStep c around.places step × AreStmts c (into around list) list
  IsStmt c around (While at e list) = IsExpr c around.places e sorts.Bool × AreStmts c (into around list) list
  IsStmt c around (Test at e cases other) =
      (sort : Sort) × IsTrue (is_compared sort) × IsExpr c around.places e sort × AreCases c around cases sort × IsElse c around other

  pub AreStmts : Setting → Around → TypedStmts → Type 0
  AreStmts c around NoStmts = ⊤
  AreStmts c around (MoreStmts s more) = IsStmt c around s × AreStmts c around more

  -- IF and ELSEIF
  pub AreArms : Setting → Around → TypedArms → Type 0
  AreArms c around NoArms = ⊤
  AreArms c around (MoreArms e list more) = IsExpr c around.places e sorts.Bool × AreStmts c (into around list) list × AreArms c around more

  -- CASE
  pub AreCases : Setting → Around → TypedCases → Sort → Type 0
  AreCases c around NoCases sort = ⊤
  AreCases c around (MoreCases es list more) sort = AreCaseValues c around.places es sort × AreStmts c (into around list) list × AreCases c around more sort

  -- ELSE and DEFAULT
  pub IsElse : Setting → Around → TypedElse → Type 0
  IsElse c around NoElse = ⊤
  IsElse c around (Else list) = AreStmts c (into around list) list
