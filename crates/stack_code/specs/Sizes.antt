-- How many operations each form has.
use Rattle.std.specs.Prelude.{ℕ, ◌+◌, Bool, true, false, List, [], ◌∷◌, Option}
use Rattle.rapid_model.specs.declared.function.Function.{Function}
use Rattle.rapid_model.specs.declared.function.Function.TheVariants as functions
use Rattle.rapid_model.specs.declared.part_name.PartName.{PartName}
use Rattle.rapid_model.specs.declared.part_name.PartName.TheVariants as parts
use Rattle.rapid_model.specs.declared.operator.Operator.{Operator}
use Rattle.rapid_model.specs.declared.operator.Operator.TheVariants as operators
use Rattle.typed_trees.specs.Plain as trees
use Rattle.typed_trees.specs.Plain.{TypedArgs, TypedArms, TypedCases, TypedElse, TypedExpr, TypedExprs, TypedPlace, TypedRoutine, TypedSteps, TypedStmt, TypedStmts, TypedTree, NoExprs, MoreExprs, NoSteps, MoreSteps, NotHeld, Held, PlaceOf, Given, Lent, OfSignal, NoArgs, MoreArgs, NoStmts, MoreStmts, NoArms, MoreArms, NoCases, MoreCases, NoElse, Else}
use Rattle.rapid_meaning.specs.Layouts.{local_start}
use Rattle.stack_code.specs.Pieces.{Piece, OfExpr, OfPlace, OfArgs, Does, Waits, GoesTo, Chooses, Travels, bounds_pieces, pieces}

-- the whole of a place needs no operation
abbrev pub part_size : PartName → ℕ
part_size parts.Whole = 0
part_size part = 1

-- the operations of an operator without its right operand
abbrev pub operator_size : Operator → ℕ
operator_size operators.And = 3
operator_size operators.Or = 3
operator_size o = 1

abbrev pub sign_size : Bool → ℕ
sign_size true = 1
sign_size false = 0

abbrev pub signal_size : Function → ℕ
signal_size functions.TestDI = 3
signal_size function = 1

abbrev mutual
  pub expr_size : TypedExpr → ℕ
  expr_size (trees.Known at sort v) = 1
  expr_size (trees.ErrorNumber at sort) = 1
  expr_size (trees.SignalValue at sort signal) = 1
  expr_size (trees.Stored at sort p) = place_size p + 1
  expr_size (trees.Group at sort e) = expr_size e
  expr_size (trees.Aggregate at sort es) = exprs_size es + 1
  expr_size (trees.Builtin at sort function args) = builtin_size function args
  expr_size (trees.Invoke at sort called args) = args_size args + 1
  expr_size (trees.Not at sort e) = expr_size e + 1
  expr_size (trees.Signed at sort minus e) = expr_size e + sign_size minus
  expr_size (trees.Chain at sort e steps) = expr_size e + steps_size steps

  pub exprs_size : TypedExprs → ℕ
  exprs_size NoExprs = 0
  exprs_size (MoreExprs e es) = expr_size e + exprs_size es

  pub steps_size : TypedSteps → ℕ
  steps_size NoSteps = 0
  steps_size (MoreSteps o e steps) = operator_size o + expr_size e + steps_size steps

  pub place_size : TypedPlace → ℕ
  place_size (PlaceOf root NotHeld part sort) = 1 + part_size part
  place_size (PlaceOf root (Held e) part sort) = 1 + expr_size e + 1 + part_size part

  pub args_size : TypedArgs → ℕ
  args_size NoArgs = 0
  args_size (MoreArgs (Given e) more) = expr_size e + args_size more
  args_size (MoreArgs (Lent p) more) = place_size p + args_size more
  args_size (MoreArgs other more) = args_size more

  pub builtin_size : Function → TypedArgs → ℕ
  builtin_size function NoArgs = 1
  builtin_size function (MoreArgs (Given e) NoArgs) = expr_size e + 1
  builtin_size function (MoreArgs (Given e) (MoreArgs (Given f) NoArgs)) = expr_size e + expr_size f + 1
  builtin_size function (MoreArgs (OfSignal signal) NoArgs) = signal_size function
  builtin_size function (MoreArgs (Lent p) NoArgs) = place_size p + 1
  builtin_size function (MoreArgs (Lent p) (MoreArgs one NoArgs)) = 1
  builtin_size function other = 0

abbrev pub piece_size : Piece → ℕ
piece_size (OfExpr e) = expr_size e
piece_size (OfPlace p) = place_size p
piece_size (OfArgs args) = args_size args
piece_size (Does op) = 1
piece_size Waits = 1
piece_size (GoesTo label) = 1
piece_size (Chooses a b) = 4
piece_size Travels = 4

unfoldable pub pieces_size : List Piece → ℕ
pieces_size [] = 0
pieces_size (piece ∷ more) = piece_size piece + pieces_size more

-- the values of a CASE, each compared with the tested value
unfoldable pub values_size : TypedExprs → ℕ
values_size NoExprs = 0
values_size (MoreExprs e es) = 1 + expr_size e + 1 + 1 + values_size es

-- a FOR from after its Look up to its Turn
abbrev pub bounds_size : TypedRoutine → ℕ → TypedExpr → TypedExpr → Option TypedExpr → ℕ
bounds_size routine local first last step = pieces_size (bounds_pieces (local_start routine local) first last step)

abbrev mutual
  pub stmt_size : TypedTree → TypedRoutine → TypedStmt → ℕ
  stmt_size tree routine (trees.Label at label) = 0
  stmt_size tree routine (trees.If at arms other) = 1 + arms_size tree routine arms + else_size tree routine other
  stmt_size tree routine (trees.IfOne at e one) = 1 + expr_size e + 1 + stmt_size tree routine one
  stmt_size tree routine (trees.For at local first last step list) = 1 + bounds_size routine local first last step + 1 + 1 + stmts_size tree routine list + 1
  stmt_size tree routine (trees.While at e list) = 1 + expr_size e + 1 + stmts_size tree routine list + 1
  stmt_size tree routine (trees.Test at e cases other) = 1 + expr_size e + cases_size tree routine cases + 1 + else_size tree routine other
  stmt_size tree routine s = 1 + pieces_size (pieces tree routine s)

  pub stmts_size : TypedTree → TypedRoutine → TypedStmts → ℕ
  stmts_size tree routine NoStmts = 0
  stmts_size tree routine (MoreStmts s more) = stmt_size tree routine s + stmts_size tree routine more

  pub arms_size : TypedTree → TypedRoutine → TypedArms → ℕ
  arms_size tree routine NoArms = 0
  arms_size tree routine (MoreArms e list more) = expr_size e + 1 + stmts_size tree routine list + 1 + arms_size tree routine more

  pub cases_size : TypedTree → TypedRoutine → TypedCases → ℕ
  cases_size tree routine NoCases = 0
  cases_size tree routine (MoreCases es list more) = values_size es + 1 + 1 + stmts_size tree routine list + 1 + cases_size tree routine more

  pub else_size : TypedTree → TypedRoutine → TypedElse → ℕ
  else_size tree routine NoElse = 0
  else_size tree routine (Else list) = stmts_size tree routine list
