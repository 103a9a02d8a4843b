-- The trees of a checked task as contracts see them: their contents, without pointers. Each form has the byte of its
-- module at which it starts, and an expression its type.
use Rattle.std.specs.Prelude.{ℕ, Bool, List, [], ◌∷◌, Option, None, Some}
use Rattle.rapid_model.specs.declared.function.Function.{Function}
use Rattle.rapid_model.specs.declared.instruction.Instruction.{Instruction}
use Rattle.rapid_model.specs.declared.predefined.Predefined.{Predefined}
use Rattle.rapid_model.specs.declared.sort.Sort.{Sort}
use Rattle.rapid_model.specs.declared.value.Value.{Value}
use Rattle.rapid_model.specs.declared.operator.Operator.{Operator}
use Rattle.rapid_model.specs.declared.mode.Mode.{Mode}
use Rattle.rapid_model.specs.declared.routine_kind.RoutineKind.{RoutineKind}
use Rattle.typed_trees.specs.declared.datum.Datum.{Datum}
use Rattle.typed_trees.specs.declared.expr.TreeRoot.{TreeRoot}
use Rattle.rapid_model.specs.declared.part_name.PartName.{PartName}

mutual
  pub data TypedExpr : Type 0 where
    -- a value known before the run
    Known : ℕ → Sort → Value → TypedExpr
    ErrorNumber : ℕ → Sort → TypedExpr
    SignalValue : ℕ → Sort → ℕ → TypedExpr
    Stored : ℕ → Sort → TypedPlace → TypedExpr
    Group : ℕ → Sort → TypedExpr → TypedExpr
    Aggregate : ℕ → Sort → TypedExprs → TypedExpr
    Builtin : ℕ → Sort → Function → TypedArgs → TypedExpr
    Invoke : ℕ → Sort → ℕ → TypedArgs → TypedExpr
    Not : ℕ → Sort → TypedExpr → TypedExpr
    -- true for a minus sign
    Signed : ℕ → Sort → Bool → TypedExpr → TypedExpr
    -- the first operand, then the operators of one level, each with its operand
    Chain : ℕ → Sort → TypedExpr → TypedSteps → TypedExpr

  pub data TypedExprs : Type 0 where
    NoExprs : TypedExprs
    MoreExprs : TypedExpr → TypedExprs → TypedExprs

  pub data TypedSteps : Type 0 where
    NoSteps : TypedSteps
    MoreSteps : Operator → TypedExpr → TypedSteps → TypedSteps

  pub data TypedHeld : Type 0 where
    NotHeld : TypedHeld
    Held : TypedExpr → TypedHeld

  pub data TypedPlace : Type 0 where
    -- the root, the index of an element, the part, and its type
    PlaceOf : TreeRoot → TypedHeld → PartName → Sort → TypedPlace

  pub data TypedArg : Type 0 where
    Given : TypedExpr → TypedArg
    Lent : TypedPlace → TypedArg
    OfSignal : ℕ → TypedArg
    OfMeeting : ℕ → TypedArg
    Itself : Predefined → TypedArg
    Optional : List ℕ → TypedArgument → TypedArg

  -- the argument of an option
  pub data TypedArgument : Type 0 where
    NoArgument : TypedArgument
    Argument : TypedArg → TypedArgument

  pub data TypedArgs : Type 0 where
    NoArgs : TypedArgs
    MoreArgs : TypedArg → TypedArgs → TypedArgs

mutual
  pub data TypedStmt : Type 0 where
    Assign : ℕ → TypedPlace → TypedExpr → TypedStmt
    Instruct : ℕ → Instruction → TypedArgs → TypedStmt
    Call : ℕ → ℕ → TypedArgs → TypedStmt
    Label : ℕ → ℕ → TypedStmt
    Goto : ℕ → ℕ → TypedStmt
    Return : ℕ → Option TypedExpr → TypedStmt
    Exit : ℕ → TypedStmt
    Raise : ℕ → Option TypedExpr → TypedStmt
    Retry : ℕ → TypedStmt
    TryNext : ℕ → TypedStmt
    Connect : ℕ → TypedPlace → ℕ → TypedStmt
    -- IF and each ELSEIF with its list, and ELSE
    If : ℕ → TypedArms → TypedElse → TypedStmt
    IfOne : ℕ → TypedExpr → TypedStmt → TypedStmt
    -- the place of the variable, the first and the last value, and the step
    For : ℕ → ℕ → TypedExpr → TypedExpr → Option TypedExpr → TypedStmts → TypedStmt
    While : ℕ → TypedExpr → TypedStmts → TypedStmt
    -- the value, each CASE with its values and its list, and DEFAULT
    Test : ℕ → TypedExpr → TypedCases → TypedElse → TypedStmt

  pub data TypedStmts : Type 0 where
    NoStmts : TypedStmts
    MoreStmts : TypedStmt → TypedStmts → TypedStmts

  pub data TypedArms : Type 0 where
    NoArms : TypedArms
    MoreArms : TypedExpr → TypedStmts → TypedArms → TypedArms

  pub data TypedCases : Type 0 where
    NoCases : TypedCases
    MoreCases : TypedExprs → TypedStmts → TypedCases → TypedCases

  pub data TypedElse : Type 0 where
    NoElse : TypedElse
    Else : TypedStmts → TypedElse

pub record TypedParam : Type 0 where
  pub name : List ℕ
  pub mode : Mode
  pub sort : Sort

-- a datum of a routine: whether it is a VAR, the length of an array, and its first data
pub record TypedLocal : Type 0 where
  pub name : List ℕ
  pub variable : Bool
  pub sort : Sort
  pub len : Option ℕ
  pub first : List Datum

-- handler is its ERROR part, loops the number of FORs in both
pub record TypedRoutine : Type 0 where
  pub name : List ℕ
  pub «module» : ℕ
  pub kind : RoutineKind
  pub result : Option Sort
  pub params : List TypedParam
  pub locals : List TypedLocal
  pub list : TypedStmts
  pub handler : Option TypedStmts
  pub loops : ℕ
  pub at : ℕ

-- a VAR or an array CONST of a module
pub record TypedSlot : Type 0 where
  pub name : List ℕ
  pub variable : Bool
  pub sort : Sort
  pub len : Option ℕ
  pub first : List Datum

-- a PERS; own if it is TASK or LOCAL
pub record TypedPers : Type 0 where
  pub name : List ℕ
  pub «module» : ℕ
  pub at : ℕ
  pub own : Bool
  pub sort : Sort
  pub len : Option ℕ
  pub first : Option (List Value)

pub record TypedTree : Type 0 where
  pub modules : ℕ
  pub tasks : List (List ℕ)
  pub slots : List TypedSlot
  pub pers : List TypedPers
  pub meetings : List (List ℕ)
  pub routines : List TypedRoutine
  pub main : ℕ
  pub pers_of : List ℕ
  pub meeting_of : List ℕ
  pub axes : ℕ

-- the trees of a list, in order
abbrev pub exprs_of : List TypedExpr → TypedExprs
exprs_of [] = NoExprs
exprs_of (e ∷ es) = MoreExprs e (exprs_of es)

abbrev pub args_of : List TypedArg → TypedArgs
args_of [] = NoArgs
args_of (a ∷ more) = MoreArgs a (args_of more)

abbrev pub steps_of : List (Operator × TypedExpr) → TypedSteps
steps_of [] = NoSteps
steps_of (s ∷ ss) = MoreSteps s.0 s.1 (steps_of ss)

abbrev pub held_of : Option TypedExpr → TypedHeld
held_of None = NotHeld
held_of (Some e) = Held e

abbrev pub stmts_of : List TypedStmt → TypedStmts
stmts_of [] = NoStmts
stmts_of (s ∷ ss) = MoreStmts s (stmts_of ss)

abbrev pub arms_of : List (TypedExpr × List TypedStmt) → TypedArms
arms_of [] = NoArms
arms_of (a ∷ more) = MoreArms a.0 (stmts_of a.1) (arms_of more)

abbrev pub cases_of : List (List TypedExpr × List TypedStmt) → TypedCases
cases_of [] = NoCases
cases_of (c ∷ cs) = MoreCases (exprs_of c.0) (stmts_of c.1) (cases_of cs)

abbrev pub else_of : Option (List TypedStmt) → TypedElse
else_of None = NoElse
else_of (Some list) = Else (stmts_of list)
