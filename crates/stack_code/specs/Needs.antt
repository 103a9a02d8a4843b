-- The most operands on the stack of a frame while a form is done.
use Rattle.std.specs.Prelude.{ℕ, ◌+◌, ◌-◌, max, List, [], ◌∷◌}
use Rattle.rapid_model.specs.declared.function.Function.{Function}
use Rattle.rapid_model.specs.declared.function.Function.TheVariants as functions
use Rattle.rapid_model.specs.declared.operator.Operator.{Operator}
use Rattle.rapid_model.specs.declared.operator.Operator.TheVariants as operators
use Rattle.typed_trees.specs.Plain as trees
use Rattle.typed_trees.specs.Plain.{TypedArgs, TypedArms, TypedCases, TypedElse, TypedExpr, TypedExprs, TypedPlace, TypedRoutine, TypedSteps, TypedStmt, TypedStmts, TypedTree, NoExprs, MoreExprs, NoSteps, MoreSteps, NotHeld, Held, PlaceOf, Given, Lent, OfSignal, NoArgs, MoreArgs, NoStmts, MoreStmts, NoArms, MoreArms, NoCases, MoreCases, NoElse, Else}
use Rattle.rapid_meaning.specs.Layouts.{local_start}
use Rattle.stack_code.specs.Pieces.{Piece, OfExpr, OfPlace, OfArgs, Does, Waits, GoesTo, Chooses, Travels, bounds_pieces, pieces}
use Rattle.stack_code.specs.declared.op.Op.{Op}
use Rattle.stack_code.specs.declared.op.Op.TheVariants as ops

-- a right operand is above the left one; AND and OR first drop a copy of the left one
abbrev pub operand_need : Operator → ℕ → ℕ
operand_need operators.And need = max 2 need
operand_need operators.Or need = max 2 need
operand_need o need = 1 + need

abbrev pub signal_need : Function → ℕ
signal_need functions.TestDI = 2
signal_need function = 1

-- from an empty stack, with the value counted among the operands
abbrev mutual
  pub expr_need : TypedExpr → ℕ
  expr_need (trees.Known at sort v) = 1
  expr_need (trees.ErrorNumber at sort) = 1
  expr_need (trees.SignalValue at sort signal) = 1
  expr_need (trees.Stored at sort p) = place_need p
  expr_need (trees.Group at sort e) = expr_need e
  expr_need (trees.Aggregate at sort es) = max 1 (exprs_need es)
  expr_need (trees.Builtin at sort function args) = builtin_need function args
  expr_need (trees.Invoke at sort called args) = max 1 (args_need args)
  expr_need (trees.Not at sort e) = expr_need e
  expr_need (trees.Signed at sort minus e) = expr_need e
  expr_need (trees.Chain at sort e steps) = max (expr_need e) (steps_need steps)

  pub exprs_need : TypedExprs → ℕ
  exprs_need NoExprs = 0
  exprs_need (MoreExprs e es) = max (expr_need e) (1 + exprs_need es)

  -- above the left operand
  pub steps_need : TypedSteps → ℕ
  steps_need NoSteps = 1
  steps_need (MoreSteps o e steps) = max (operand_need o (expr_need e)) (steps_need steps)

  pub place_need : TypedPlace → ℕ
  place_need (PlaceOf root NotHeld part sort) = 1
  place_need (PlaceOf root (Held e) part sort) = 1 + expr_need e

  pub args_need : TypedArgs → ℕ
  args_need NoArgs = 0
  args_need (MoreArgs (Given e) more) = max (expr_need e) (1 + args_need more)
  args_need (MoreArgs (Lent p) more) = max (place_need p) (1 + args_need more)
  args_need (MoreArgs other more) = args_need more

  pub builtin_need : Function → TypedArgs → ℕ
  builtin_need function NoArgs = 1
  builtin_need function (MoreArgs (Given e) NoArgs) = expr_need e
  builtin_need function (MoreArgs (Given e) (MoreArgs (Given f) NoArgs)) = max (expr_need e) (1 + expr_need f)
  builtin_need function (MoreArgs (OfSignal signal) NoArgs) = signal_need function
  builtin_need function (MoreArgs (Lent p) NoArgs) = place_need p
  builtin_need function other = 1

-- an upper bound of the number of operands after an operation, from the number before it
abbrev pub depth_behind : Op → ℕ → ℕ
depth_behind (ops.Push datum) depth = depth + 1
depth_behind ops.Dup depth = depth + 1
depth_behind ops.Over depth = depth + 1
depth_behind (ops.Local k) depth = depth + 1
depth_behind (ops.GetSignal s) depth = depth + 1
depth_behind (ops.Binary o) depth = depth - 1
depth_behind ops.Store depth = depth - 2
depth_behind op depth = depth

-- from this number of operands
unfoldable pub pieces_need : ℕ → List Piece → ℕ
pieces_need depth [] = depth
pieces_need depth (OfExpr e ∷ more) = max (depth + expr_need e) (pieces_need (depth + 1) more)
pieces_need depth (OfPlace p ∷ more) = max (depth + place_need p) (pieces_need (depth + 1) more)
pieces_need depth (OfArgs args ∷ more) = max (depth + args_need args) (pieces_need depth more)
pieces_need depth (Does op ∷ more) = max depth (pieces_need (depth_behind op depth) more)
pieces_need depth (Waits ∷ more) = max depth (pieces_need (depth - 1) more)
pieces_need depth (GoesTo label ∷ more) = max depth (pieces_need depth more)
pieces_need depth (Chooses a b ∷ more) = max depth (pieces_need depth more)
pieces_need depth (Travels ∷ more) = max depth (pieces_need (depth - 2) more)

-- the values of a CASE, above the tested value and a copy of it
unfoldable pub values_need : TypedExprs → ℕ
values_need NoExprs = 1
values_need (MoreExprs e es) = max (2 + expr_need e) (values_need es)

-- statements begin and end with an empty stack
abbrev mutual
  pub stmt_need : TypedTree → TypedRoutine → TypedStmt → ℕ
  stmt_need tree routine (trees.Label at label) = 0
  stmt_need tree routine (trees.If at arms other) = max (arms_need tree routine arms) (else_need tree routine other)
  stmt_need tree routine (trees.IfOne at e one) = max (expr_need e) (stmt_need tree routine one)
  stmt_need tree routine (trees.For at local first last step list) = max (pieces_need 0 (bounds_pieces (local_start routine local) first last step)) (stmts_need tree routine list)
  stmt_need tree routine (trees.While at e list) = max (expr_need e) (stmts_need tree routine list)
  stmt_need tree routine (trees.Test at e cases other) = max (expr_need e) (max (cases_need tree routine cases) (else_need tree routine other))
  stmt_need tree routine s = pieces_need 0 (pieces tree routine s)

  pub stmts_need : TypedTree → TypedRoutine → TypedStmts → ℕ
  stmts_need tree routine NoStmts = 0
  stmts_need tree routine (MoreStmts s more) = max (stmt_need tree routine s) (stmts_need tree routine more)

  pub arms_need : TypedTree → TypedRoutine → TypedArms → ℕ
  arms_need tree routine NoArms = 0
  arms_need tree routine (MoreArms e list more) = max (expr_need e) (max (stmts_need tree routine list) (arms_need tree routine more))

  pub cases_need : TypedTree → TypedRoutine → TypedCases → ℕ
  cases_need tree routine NoCases = 1
  cases_need tree routine (MoreCases es list more) = max (values_need es) (max (stmts_need tree routine list) (cases_need tree routine more))

  pub else_need : TypedTree → TypedRoutine → TypedElse → ℕ
  else_need tree routine NoElse = 0
  else_need tree routine (Else list) = stmts_need tree routine list
