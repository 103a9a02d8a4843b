-- Claims about the parts of a program: code at their places does what they do.
use Rattle.std.proofs.Common.{◌≡◌, ℕ, ◌+◌, ◌≤◌, List, length, Option, None, Some}
use Rattle.std.specs.Prelude.{⊤}
use Rattle.typed_trees.specs.Plain as trees
use Rattle.typed_trees.specs.Plain.{TypedArms, TypedCases, TypedElse, TypedExpr, TypedRoutine, TypedStmt, TypedStmts, TypedTree, NoStmts, MoreStmts, NoArms, MoreArms, NoCases, MoreCases, NoElse, Else}
use Rattle.typed_trees.specs.declared.datum.Datum.{Datum}
use Rattle.rapid_meaning.specs.Answering.{Run}
use Rattle.rapid_meaning.specs.Flows.{Errors, Unguarded, Guarded, InPart, Way, Attempt, Turn, Leg, Rest, Call, value_of}
use Rattle.rapid_meaning.specs.Statements.{byte_of}
use Rattle.rapid_meaning.proofs.Kept.{RunKept}
use Rattle.stack_code.specs.Compiled.{part_code}
use Rattle.stack_code.specs.Confs.{Saved}
use Rattle.stack_code.specs.Entering.{enter}
use Rattle.stack_code.specs.Needs.{stmt_need, stmts_need}
use Rattle.stack_code.specs.Placed.{Own, Placed, StandsAt, placed_at}
use Rattle.stack_code.specs.Raising.{back_to, handler_of, raised_to}
use Rattle.stack_code.specs.Sizes.{arms_size, bounds_size, cases_size, expr_size, stmt_size, stmts_size, values_size}
use Rattle.stack_code.specs.StmtLayouts.{at_byte, label_at, own_of, stmt_code, stmts_code}
use Rattle.stack_code.specs.declared.op.Op.TheVariants as ops
use Rattle.code_laws.specs.Calls.{IsProcedure, StmtCalls, StmtsCalls, Takes}
use Rattle.code_laws.proofs.Bodies.{Body, begins, begins_in, lands, leaving}
use Rattle.code_laws.proofs.Sim.{SimPart, Target}

-- each label of a form whose code begins at this place has its own place in the list of places
abbrev mutual
  pub StmtLabels : TypedTree → TypedRoutine → List ℕ → ℕ → TypedStmt → Type 0
  StmtLabels tree routine labels pc (trees.Label at label) = label_at labels label ≡ pc
  StmtLabels tree routine labels pc (trees.If at arms other) =
      ArmsLabels tree routine labels (pc + 1) arms × ElseLabels tree routine labels (pc + 1 + arms_size tree routine arms) other
  StmtLabels tree routine labels pc (trees.IfOne at e one) = StmtLabels tree routine labels (pc + 1 + expr_size e + 1) one
  StmtLabels tree routine labels pc (trees.For at local first last step list) =
      StmtsLabels tree routine labels (pc + 1 + bounds_size routine local first last step + 1 + 1) list
  StmtLabels tree routine labels pc (trees.While at e list) = StmtsLabels tree routine labels (pc + 1 + expr_size e + 1) list
  StmtLabels tree routine labels pc (trees.Test at e cases other) =
      CasesLabels tree routine labels (pc + 1 + expr_size e) cases
      × ElseLabels tree routine labels (pc + 1 + expr_size e + cases_size tree routine cases + 1) other
  StmtLabels tree routine labels pc other = ⊤

  pub StmtsLabels : TypedTree → TypedRoutine → List ℕ → ℕ → TypedStmts → Type 0
  StmtsLabels tree routine labels pc NoStmts = ⊤
  StmtsLabels tree routine labels pc (MoreStmts s more) = StmtLabels tree routine labels pc s × StmtsLabels tree routine labels (pc + stmt_size tree routine s) more

  pub ArmsLabels : TypedTree → TypedRoutine → List ℕ → ℕ → TypedArms → Type 0
  ArmsLabels tree routine labels pc NoArms = ⊤
  ArmsLabels tree routine labels pc (MoreArms e list more) =
      StmtsLabels tree routine labels (pc + expr_size e + 1) list × ArmsLabels tree routine labels (pc + expr_size e + 1 + stmts_size tree routine list + 1) more

  pub CasesLabels : TypedTree → TypedRoutine → List ℕ → ℕ → TypedCases → Type 0
  CasesLabels tree routine labels pc NoCases = ⊤
  CasesLabels tree routine labels pc (MoreCases es list more) =
      StmtsLabels tree routine labels (pc + values_size es + 1 + 1) list
      × CasesLabels tree routine labels (pc + values_size es + 1 + 1 + stmts_size tree routine list + 1) more

  pub ElseLabels : TypedTree → TypedRoutine → List ℕ → ℕ → TypedElse → Type 0
  ElseLabels tree routine labels pc NoElse = ⊤
  ElseLabels tree routine labels pc (Else list) = StmtsLabels tree routine labels pc list

-- the code of a statement is at a place, and the statement is orderly in its calls, its labels, and the room for its
-- operands
pub record StmtAt (t : Target) (tree : TypedTree) (b : Body) (pc : ℕ) (s : TypedStmt) : Type 0 where
  pub behind : List Placed
  pub code : StandsAt t.code pc (stmt_code tree b.stands.routine b.labels (own_of tree b.stands.routine pc s) pc s behind)
  pub calls : StmtCalls tree s
  pub labels : StmtLabels tree b.stands.routine b.labels pc s
  pub room : stmt_need tree b.stands.routine s ≤ t.code.deepest

-- the code of a list is at a place, up to another place
pub record ListAt (t : Target) (tree : TypedTree) (b : Body) (pc end : ℕ) (list : TypedStmts) : Type 0 where
  pub behind : List Placed
  pub code : StandsAt t.code pc (stmts_code tree b.stands.routine b.labels pc list behind)
  pub calls : StmtsCalls tree list
  pub labels : StmtsLabels tree b.stands.routine b.labels pc list
  pub room : stmts_need tree b.stands.routine list ≤ t.code.deepest
  pub past : pc + stmts_size tree b.stands.routine list ≡ end

-- the ERROR part of a routine begins at a place
pub record PartAt (t : Target) (tree : TypedTree) (b : Body) (pc : ℕ) (list : TypedStmts) : Type 0 where
  pub behind : List Placed
  pub code : StandsAt t.code pc (part_code tree b.stands.routine b.labels pc (Some list) behind)
  pub calls : StmtsCalls tree list
  pub labels : StmtsLabels tree b.stands.routine b.labels pc list
  pub room : stmts_need tree b.stands.routine list ≤ t.code.deepest

-- errors of a statement go the same way in the source and in code
abbrev pub Stands : Target → TypedTree → Body → Errors → Type 0
Stands t tree b Unguarded = handler_of t.code b.frame.routine ≡ None
Stands t tree b (Guarded list) = (h : ℕ) × (handler_of t.code b.frame.routine ≡ Some h) × (b.frame.failed ≡ None) × PartAt t tree b h list
Stands t tree b (InPart error) = (h : ℕ) × (handler_of t.code b.frame.routine ≡ Some h) × (own : Own) × (b.frame.failed ≡ Some (record { own = own; error = error }))

-- the Look of the turns of a FOR
abbrev pub turn_at : TypedRoutine → ℕ → ℕ → TypedExpr → TypedExpr → Option TypedExpr → ℕ
turn_at routine pc local first last step = pc + 1 + bounds_size routine local first last step + 1

-- the setpoints of a move, the first operation at this place
pub record LegsAt (t : Target) (b : Body) (pc : ℕ) (own : Own) (s : TypedStmt) : Type 0 where
  pub point : placed_at t.code pc ≡ Some (record { own = own; op = ops.Point (pc + 1 + 1 + 1) })
  pub look : placed_at t.code (pc + 1) ≡ Some (record { own = own; op = ops.Look })
  pub jump : placed_at t.code (pc + 1 + 1) ≡ Some (record { own = own; op = ops.Jump pc })
  pub place : own.at ≡ at_byte b.stands.routine (byte_of s)

pub record Claims (t : Target) (tree : TypedTree) (run : Run) : Type 0 where
  -- each part leaves as many frames as it found
  pub kept : RunKept run
  pub calls : (routine : ℕ) (args : List Datum) (saved : List Saved) → Takes tree routine (length args)
      → SimPart t run (enter t.code routine args saved) (Call routine args) (λ flow. back_to saved (value_of flow)) (raised_to t.code saved)
  -- a PROC gives nothing
  pub procedures : (routine : ℕ) (args : List Datum) (saved : List Saved) → Takes tree routine (length args) → IsProcedure tree routine
      → SimPart t run (enter t.code routine args saved) (Call routine args) (λ flow. back_to saved None) (raised_to t.code saved)
  pub attempts : (b : Body) (pc : ℕ) (s : TypedStmt) → Stands t tree b b.stands.errors → StmtAt t tree b pc s
      → SimPart t run (begins b pc) (Attempt b.stands s) (lands b (pc + stmt_size tree b.stands.routine s)) (leaving t b)
  pub turns : (b : Body) (pc : ℕ) (at local : ℕ) (first last : TypedExpr) (step : Option TypedExpr) (list : TypedStmts) → Stands t tree b b.stands.errors
      → StmtAt t tree b pc (trees.For at local first last step list)
      → SimPart t run (begins b (turn_at b.stands.routine pc local first last step)) (Turn b.stands (trees.For at local first last step list))
      (lands b (pc + stmt_size tree b.stands.routine (trees.For at local first last step list))) (leaving t b)
  pub legs : (b : Body) (pc : ℕ) (own : Own) (s : TypedStmt) (way : Way) → LegsAt t b pc own s
      → SimPart t run (begins_in b (pc + 1) (Some way)) (Leg b.stands s way) (lands b (pc + 1 + 1 + 1)) (leaving t b)
  pub rests : (b : Body) (pc more_pc end : ℕ) (whole more : TypedStmts) → Stands t tree b b.stands.errors → ListAt t tree b pc end whole → ListAt t tree b more_pc end more
      → SimPart t run (begins b more_pc) (Rest b.stands whole more) (lands b end) (leaving t b)
