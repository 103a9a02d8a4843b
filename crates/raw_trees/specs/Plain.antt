-- The raw trees of a module as contracts see them: their contents, independent of memory. Each form has the byte of the
-- module where it starts.
use Rattle.std.specs.Prelude.{ℕ, Bool, List, [], ◌∷◌, Option, None, Some}
use Rattle.rapid_model.specs.declared.operator.Operator.{Operator}
use Rattle.raw_trees.specs.declared.raw_module.Attribute.{Attribute}
use Rattle.raw_trees.specs.declared.raw_datum.DatumKind.{DatumKind}
use Rattle.rapid_model.specs.declared.routine_kind.RoutineKind.{RoutineKind}
use Rattle.rapid_model.specs.declared.mode.Mode.{Mode}

-- a name as spelled
pub record PlainName : Type 0 where
  pub text : List ℕ
  pub at : ℕ

mutual
  pub data PlainExpr : Type 0 where
    Number : ℕ → List ℕ → PlainExpr
    Quoted : ℕ → List ℕ → PlainExpr
    Truth : ℕ → Bool → PlainExpr
    Group : ℕ → PlainExpr → PlainExpr
    Aggregate : ℕ → PlainExprs → PlainExpr
    Invoke : ℕ → PlainName → PlainArgs → PlainExpr
    Place : ℕ → PlainPlace → PlainExpr
    Not : ℕ → PlainExpr → PlainExpr
    -- minus if the sign holds
    Signed : ℕ → Bool → PlainExpr → PlainExpr
    -- the first operand, then operators of one level, each with its operand
    Chain : ℕ → PlainExpr → PlainSteps → PlainExpr

  pub data PlainExprs : Type 0 where
    NoExprs : PlainExprs
    MoreExprs : PlainExpr → PlainExprs → PlainExprs

  pub data PlainSteps : Type 0 where
    NoSteps : PlainSteps
    MoreSteps : Operator → PlainExpr → PlainSteps → PlainSteps

  pub data PlainHeld : Type 0 where
    NotHeld : PlainHeld
    Held : PlainExpr → PlainHeld

  pub data PlainPlace : Type 0 where
    -- a name, its index, and the components after it
    PlaceOf : PlainName → PlainHeld → List PlainName → PlainPlace

  pub data PlainArg : Type 0 where
    Needed : PlainExpr → PlainArg
    Optional : PlainName → PlainHeld → ℕ → PlainArg

  pub data PlainArgs : Type 0 where
    NoArgs : PlainArgs
    MoreArgs : PlainArg → PlainArgs → PlainArgs

mutual
  pub data PlainStmt : Type 0 where
    Assign : ℕ → PlainPlace → PlainExpr → PlainStmt
    Call : ℕ → PlainName → PlainArgs → PlainStmt
    Label : ℕ → PlainName → PlainStmt
    Goto : ℕ → PlainName → PlainStmt
    Return : ℕ → Option PlainExpr → PlainStmt
    Exit : ℕ → PlainStmt
    Raise : ℕ → Option PlainExpr → PlainStmt
    Retry : ℕ → PlainStmt
    TryNext : ℕ → PlainStmt
    Connect : ℕ → PlainPlace → PlainName → PlainStmt
    -- IF and ELSEIF with their lists, and ELSE
    If : ℕ → PlainArms → PlainElse → PlainStmt
    IfOne : ℕ → PlainExpr → PlainStmt → PlainStmt
    -- the variable, the first and the last value, and the step
    For : ℕ → PlainName → PlainExpr → PlainExpr → Option PlainExpr → PlainStmts → PlainStmt
    While : ℕ → PlainExpr → PlainStmts → PlainStmt
    -- the value, each CASE with its values and list, and DEFAULT
    Test : ℕ → PlainExpr → PlainCases → PlainElse → PlainStmt

  pub data PlainStmts : Type 0 where
    NoStmts : PlainStmts
    MoreStmts : PlainStmt → PlainStmts → PlainStmts

  pub data PlainArms : Type 0 where
    NoArms : PlainArms
    MoreArms : PlainExpr → PlainStmts → PlainArms → PlainArms

  pub data PlainCases : Type 0 where
    NoCases : PlainCases
    MoreCases : List PlainExpr → PlainStmts → PlainCases → PlainCases

  pub data PlainElse : Type 0 where
    NoElse : PlainElse
    Else : PlainStmts → PlainElse

-- the name of the type, the name, the length and the initial value
pub record PlainDatum : Type 0 where
  pub kind : DatumKind
  pub sort : PlainName
  pub name : PlainName
  pub len : Option PlainExpr
  pub first : Option PlainExpr
  pub at : ℕ

pub record PlainParam : Type 0 where
  pub mode : Mode
  pub sort : PlainName
  pub name : PlainName
  pub at : ℕ

-- handler is its ERROR part
pub record PlainRoutine : Type 0 where
  pub local : Bool
  pub kind : RoutineKind
  pub result : Option PlainName
  pub name : PlainName
  pub params : List PlainParam
  pub locals : List PlainDatum
  pub list : List PlainStmt
  pub handler : Option (List PlainStmt)
  pub at : ℕ

pub data PlainItem : Type 0 where
  -- whether it is LOCAL, whether it is a TASK PERS, the datum, and its position
  Datum : Bool → Bool → PlainDatum → ℕ → PlainItem
  Routine : PlainRoutine → PlainItem

pub record PlainModule : Type 0 where
  pub name : PlainName
  pub attributes : List Attribute
  pub items : List PlainItem
  pub at : ℕ

-- the trees of a list, in order
abbrev pub exprs_of : List PlainExpr → PlainExprs
exprs_of [] = NoExprs
exprs_of (e ∷ es) = MoreExprs e (exprs_of es)

abbrev pub args_of : List PlainArg → PlainArgs
args_of [] = NoArgs
args_of (a ∷ more) = MoreArgs a (args_of more)

abbrev pub steps_of : List (Operator × PlainExpr) → PlainSteps
steps_of [] = NoSteps
steps_of (s ∷ ss) = MoreSteps s.0 s.1 (steps_of ss)

abbrev pub held_of : Option PlainExpr → PlainHeld
held_of None = NotHeld
held_of (Some e) = Held e

abbrev pub stmts_of : List PlainStmt → PlainStmts
stmts_of [] = NoStmts
stmts_of (s ∷ ss) = MoreStmts s (stmts_of ss)

abbrev pub arms_of : List (PlainExpr × List PlainStmt) → PlainArms
arms_of [] = NoArms
arms_of (a ∷ more) = MoreArms a.0 (stmts_of a.1) (arms_of more)

abbrev pub cases_of : List (List PlainExpr × List PlainStmt) → PlainCases
cases_of [] = NoCases
cases_of (c ∷ cs) = MoreCases c.0 (stmts_of c.1) (cases_of cs)

abbrev pub else_of : Option (List PlainStmt) → PlainElse
else_of None = NoElse
else_of (Some list) = Else (stmts_of list)
