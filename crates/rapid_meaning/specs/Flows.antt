-- How a list of statements ends, and the parts of a program.
use Rattle.std.specs.Prelude.{ℕ, List, Option, None}
use Rattle.joint_planner.specs.Setpoints.{PlanData}
use Rattle.rapid_model.specs.declared.value.Value.{Value}
use Rattle.typed_trees.specs.Plain.{TypedRoutine, TypedStmt, TypedStmts}
use Rattle.typed_trees.specs.declared.datum.Datum.{Datum}

-- how a statement or a list ends: normally, by a jump to a label further out, by a return with a value or without one,
-- or, in an ERROR part, by RETRY or TRYNEXT
pub data Flow : Type 0 where
  Normal : Flow
  Jumps : ℕ → Flow
  Returns : Option Value → Flow
  Retries : Flow
  Skips : Flow

-- the value that a routine returns, if any
abbrev pub value_of : Flow → Option Value
value_of (Returns v) = v
value_of flow = None

-- where an error of a statement goes. Unguarded: to the caller, as the routine has no ERROR part. Guarded: to this
-- ERROR part. InPart: to the caller, from inside an ERROR part that was entered with this error number.
pub data Errors : Type 0 where
  Unguarded : Errors
  Guarded : TypedStmts → Errors
  InPart : ℕ → Errors

-- the place of a statement: its routine, and where its errors go
pub record Where : Type 0 where
  pub routine : TypedRoutine
  pub errors : Errors

-- a move between two of its setpoints: its plan, and how many of them were given
pub record Way : Type 0 where
  pub plan : PlanData
  pub given : ℕ

-- A part of a program, which may run for as long as there are answers. Attempt: a statement, from its Look. Turn: a
-- FOR, from the Look of its next iteration. Leg: a move, from the Look before its next setpoint. Rest: a list, and its
-- statements that are left. Call: a routine, by its number, with its arguments.
pub data Part : Type 0 where
  Attempt : Where → TypedStmt → Part
  Turn : Where → TypedStmt → Part
  Leg : Where → TypedStmt → Way → Part
  Rest : Where → TypedStmts → TypedStmts → Part
  Call : ℕ → List Datum → Part
