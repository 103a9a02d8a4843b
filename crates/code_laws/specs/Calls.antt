-- Calls pass as many arguments as their routines have parameters, and calls that are statements call PROCs.
use Rattle.std.specs.Prelude.{◌≡◌, ℕ, ◌+◌, List, ◌∷◌, Option, None, Some, slice_get, length, ⊤}
use Rattle.rapid_model.specs.declared.instruction.Instruction.{Instruction}
use Rattle.rapid_model.specs.declared.instruction.Instruction.TheVariants as instructions
use Rattle.rapid_model.specs.declared.part_name.PartName.TheVariants as parts
use Rattle.rapid_model.specs.declared.routine_kind.RoutineKind.TheVariants as kinds
use Rattle.typed_trees.specs.Plain as trees
use Rattle.typed_trees.specs.Plain.{TypedArg, TypedArgs, TypedArgument, TypedArms, TypedCases, TypedElse, TypedExpr, TypedExprs, TypedHeld, TypedPlace, TypedRoutine, TypedSteps, TypedStmt, TypedStmts, TypedTree, NoExprs, MoreExprs, NoSteps, MoreSteps, NotHeld, Held, PlaceOf, Given, Lent, OfSignal, OfMeeting, Itself, Optional, NoArgument, Argument, NoArgs, MoreArgs, NoStmts, MoreStmts, NoArms, MoreArms, NoCases, MoreCases, NoElse, Else}
use Rattle.typed_trees.specs.declared.expr.TreeRoot.TheVariants as roots
use Rattle.rapid_meaning.specs.Instructions.{needed}

abbrev pub args_count : TypedArgs → ℕ
args_count NoArgs = 0
args_count (MoreArgs arg more) = 1 + args_count more

-- the routine with this number, if there is one, has this many parameters
abbrev pub Takes : TypedTree → ℕ → ℕ → Type 0
Takes tree called count = (routine : TypedRoutine) → slice_get tree.routines called ≡ Some routine → count ≡ length routine.params

-- the routine with this number, if there is one, is a PROC
abbrev pub IsProcedure : TypedTree → ℕ → Type 0
IsProcedure tree called = (routine : TypedRoutine) → slice_get tree.routines called ≡ Some routine → routine.kind ≡ kinds.Proc

-- IPers names a whole persistent, without an index or a part
abbrev pub IsBare : Instruction → List TypedArg → Type 0
IsBare instructions.IPers (Lent (PlaceOf (roots.Pers row) NotHeld parts.Whole sort) ∷ more) = ⊤
IsBare instructions.IPers (arg ∷ more) = ⊥
IsBare instruction args = ⊤

-- each routine call in a form passes as many arguments as the routine takes, and a call that is a statement calls a
-- PROC
abbrev mutual
  pub ExprCalls : TypedTree → TypedExpr → Type 0
  ExprCalls tree (trees.Known at sort v) = ⊤
  ExprCalls tree (trees.ErrorNumber at sort) = ⊤
  ExprCalls tree (trees.SignalValue at sort signal) = ⊤
  ExprCalls tree (trees.Stored at sort p) = PlaceCalls tree p
  ExprCalls tree (trees.Group at sort e) = ExprCalls tree e
  ExprCalls tree (trees.Aggregate at sort es) = ExprsCalls tree es
  ExprCalls tree (trees.Builtin at sort function args) = ArgsCalls tree args
  ExprCalls tree (trees.Invoke at sort called args) = Takes tree called (args_count args) × ArgsCalls tree args
  ExprCalls tree (trees.Not at sort e) = ExprCalls tree e
  ExprCalls tree (trees.Signed at sort minus e) = ExprCalls tree e
  ExprCalls tree (trees.Chain at sort e steps) = ExprCalls tree e × StepsCalls tree steps

  pub ExprsCalls : TypedTree → TypedExprs → Type 0
  ExprsCalls tree NoExprs = ⊤
  ExprsCalls tree (MoreExprs e es) = ExprCalls tree e × ExprsCalls tree es

  pub StepsCalls : TypedTree → TypedSteps → Type 0
  StepsCalls tree NoSteps = ⊤
  StepsCalls tree (MoreSteps o e steps) = ExprCalls tree e × StepsCalls tree steps

  pub HeldCalls : TypedTree → TypedHeld → Type 0
  HeldCalls tree NotHeld = ⊤
  HeldCalls tree (Held e) = ExprCalls tree e

  pub PlaceCalls : TypedTree → TypedPlace → Type 0
  PlaceCalls tree (PlaceOf root held part sort) = HeldCalls tree held

  pub ArgCalls : TypedTree → TypedArg → Type 0
  ArgCalls tree (Given e) = ExprCalls tree e
  ArgCalls tree (Lent p) = PlaceCalls tree p
  ArgCalls tree (OfSignal signal) = ⊤
  ArgCalls tree (OfMeeting meeting) = ⊤
  ArgCalls tree (Itself name) = ⊤
  ArgCalls tree (Optional name value) = ArgumentCalls tree value

  pub ArgumentCalls : TypedTree → TypedArgument → Type 0
  ArgumentCalls tree NoArgument = ⊤
  ArgumentCalls tree (Argument arg) = ArgCalls tree arg

  pub ArgsCalls : TypedTree → TypedArgs → Type 0
  ArgsCalls tree NoArgs = ⊤
  ArgsCalls tree (MoreArgs arg more) = ArgCalls tree arg × ArgsCalls tree more

abbrev pub MaybeCalls : TypedTree → Option TypedExpr → Type 0
MaybeCalls tree None = ⊤
MaybeCalls tree (Some e) = ExprCalls tree e

abbrev mutual
  pub StmtCalls : TypedTree → TypedStmt → Type 0
  StmtCalls tree (trees.Assign at p e) = PlaceCalls tree p × ExprCalls tree e
  StmtCalls tree (trees.Instruct at instruction args) = ArgsCalls tree args × IsBare instruction (needed args)
  StmtCalls tree (trees.Call at called args) = Takes tree called (args_count args) × ArgsCalls tree args × IsProcedure tree called
  StmtCalls tree (trees.Label at label) = ⊤
  StmtCalls tree (trees.Goto at label) = ⊤
  StmtCalls tree (trees.Return at value) = MaybeCalls tree value
  StmtCalls tree (trees.Exit at) = ⊤
  StmtCalls tree (trees.Raise at number) = MaybeCalls tree number
  StmtCalls tree (trees.Retry at) = ⊤
  StmtCalls tree (trees.TryNext at) = ⊤
  StmtCalls tree (trees.Connect at p trap) = PlaceCalls tree p
  StmtCalls tree (trees.If at arms other) = ArmsCalls tree arms × ElseCalls tree other
  StmtCalls tree (trees.IfOne at e one) = ExprCalls tree e × StmtCalls tree one
  StmtCalls tree (trees.For at local first last step list) = ExprCalls tree first × ExprCalls tree last × MaybeCalls tree step × StmtsCalls tree list
  StmtCalls tree (trees.While at e list) = ExprCalls tree e × StmtsCalls tree list
  StmtCalls tree (trees.Test at e cases other) = ExprCalls tree e × CasesCalls tree cases × ElseCalls tree other

  pub StmtsCalls : TypedTree → TypedStmts → Type 0
  StmtsCalls tree NoStmts = ⊤
  StmtsCalls tree (MoreStmts s more) = StmtCalls tree s × StmtsCalls tree more

  pub ArmsCalls : TypedTree → TypedArms → Type 0
  ArmsCalls tree NoArms = ⊤
  ArmsCalls tree (MoreArms e list more) = ExprCalls tree e × StmtsCalls tree list × ArmsCalls tree more

  pub CasesCalls : TypedTree → TypedCases → Type 0
  CasesCalls tree NoCases = ⊤
  CasesCalls tree (MoreCases es list more) = ExprsCalls tree es × StmtsCalls tree list × CasesCalls tree more

  pub ElseCalls : TypedTree → TypedElse → Type 0
  ElseCalls tree NoElse = ⊤
  ElseCalls tree (Else list) = StmtsCalls tree list
