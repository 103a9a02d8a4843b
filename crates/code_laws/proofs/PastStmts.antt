-- What follows the code of a statement, of a list, and of a routine.
use Rattle.std.proofs.Common.{ℕ, ◌+◌, List, [], ◌∷◌, arith}
use Rattle.rapid_model.specs.declared.operator.Operator.TheVariants as operators
use Rattle.typed_trees.specs.Plain as trees
use Rattle.typed_trees.specs.Plain.{TypedArms, TypedCases, TypedElse, TypedExprs, TypedRoutine, TypedStmt, TypedStmts, TypedTree, NoExprs, MoreExprs, NoStmts, MoreStmts, NoArms, MoreArms, NoCases, MoreCases, NoElse, Else}
use Rattle.rapid_meaning.specs.Layouts.{local_start}
use Rattle.stack_code.specs.CodeData.{CodeData}
use Rattle.stack_code.specs.ExprLayouts.{put}
use Rattle.stack_code.specs.Pieces.{Piece, OfExpr, OfPlace, OfArgs, Does, Waits, GoesTo, Chooses, Travels, bounds_pieces, pieces}
use Rattle.stack_code.specs.Placed.{Own, Placed, StandsAt}
use Rattle.stack_code.specs.Sizes.{args_size, arms_size, bounds_size, cases_size, else_size, expr_size, pieces_size, place_size, stmt_size, stmts_size, values_size}
use Rattle.stack_code.specs.StmtLayouts.{arms_code, cases_code, else_code, own_of, pieces_code, stmt_code, stmts_code, values_code}
use Rattle.stack_code.specs.declared.op.Op.TheVariants as ops
use Rattle.code_laws.proofs.Past.{past_args, past_expr, past_place}
use Rattle.code_laws.proofs.Spots.{moved}

pub past_pieces : (code : CodeData) (tree : TypedTree) (routine : TypedRoutine) (labels : List ℕ) (own : Own) (pc : ℕ) (list : List Piece) (ps : List Placed)
    → StandsAt code pc (pieces_code tree routine labels own pc list ps) → StandsAt code (pc + pieces_size list) ps
unfolding pieces_code pieces_size
past_pieces code tree routine labels own pc [] ps h = moved code pc (pc + 0) ps (omega arith) h
past_pieces code tree routine labels own pc (OfExpr e ∷ more) ps h =
    moved code (pc + expr_size e + pieces_size more) (pc + (expr_size e + pieces_size more)) ps (omega arith)
    (past_pieces code tree routine labels own (pc + expr_size e) more ps
    (past_expr code tree routine own pc e (pieces_code tree routine labels own (pc + expr_size e) more ps) h))
past_pieces code tree routine labels own pc (OfPlace p ∷ more) ps h =
    moved code (pc + place_size p + pieces_size more) (pc + (place_size p + pieces_size more)) ps (omega arith)
    (past_pieces code tree routine labels own (pc + place_size p) more ps
    (past_place code tree routine own pc p (pieces_code tree routine labels own (pc + place_size p) more ps) h))
past_pieces code tree routine labels own pc (OfArgs args ∷ more) ps h =
    moved code (pc + args_size args + pieces_size more) (pc + (args_size args + pieces_size more)) ps (omega arith)
    (past_pieces code tree routine labels own (pc + args_size args) more ps
    (past_args code tree routine own pc args (pieces_code tree routine labels own (pc + args_size args) more ps) h))
past_pieces code tree routine labels own pc (Does op ∷ more) ps h =
    moved code (pc + 1 + pieces_size more) (pc + (1 + pieces_size more)) ps (omega arith) (past_pieces code tree routine labels own (pc + 1) more ps h.1)
past_pieces code tree routine labels own pc (Waits ∷ more) ps h =
    moved code (pc + 1 + pieces_size more) (pc + (1 + pieces_size more)) ps (omega arith) (past_pieces code tree routine labels own (pc + 1) more ps h.1)
past_pieces code tree routine labels own pc (GoesTo label ∷ more) ps h =
    moved code (pc + 1 + pieces_size more) (pc + (1 + pieces_size more)) ps (omega arith) (past_pieces code tree routine labels own (pc + 1) more ps h.1)
past_pieces code tree routine labels own pc (Chooses a b ∷ more) ps h =
    moved code (pc + 1 + 1 + 1 + 1 + pieces_size more) (pc + (4 + pieces_size more)) ps (omega arith) (past_pieces code tree routine labels own (pc + 1 + 1 + 1 + 1) more ps h.1.1.1.1)
past_pieces code tree routine labels own pc (Travels ∷ more) ps h =
    moved code (pc + 1 + 1 + 1 + 1 + pieces_size more) (pc + (4 + pieces_size more)) ps (omega arith) (past_pieces code tree routine labels own (pc + 1 + 1 + 1 + 1) more ps h.1.1.1.1)

pub past_values : (code : CodeData) (tree : TypedTree) (routine : TypedRoutine) (own : Own) (list pc : ℕ) (es : TypedExprs) (ps : List Placed)
    → StandsAt code pc (values_code tree routine own list pc es ps) → StandsAt code (pc + values_size es) ps
unfolding values_code values_size
past_values code tree routine own list pc NoExprs ps h = moved code pc (pc + 0) ps (omega arith) h
past_values code tree routine own list pc (MoreExprs e es) ps h =
    moved code (pc + 1 + expr_size e + 1 + 1 + values_size es) (pc + (1 + expr_size e + 1 + 1 + values_size es)) ps (omega arith)
    (past_values code tree routine own list (pc + 1 + expr_size e + 1 + 1) es ps
    (past_expr code tree routine own (pc + 1) e
    (put own (ops.Binary operators.Equal) (put own (ops.JumpTrue list) (values_code tree routine own list (pc + 1 + expr_size e + 1 + 1) es ps))) h.1).1.1)

-- a statement without a list of its own
past_plain : (code : CodeData) (tree : TypedTree) (routine : TypedRoutine) (labels : List ℕ) (own : Own) (pc : ℕ) (list : List Piece) (ps : List Placed)
    → StandsAt code pc (put own ops.Look (pieces_code tree routine labels own (pc + 1) list ps)) → StandsAt code (pc + (1 + pieces_size list)) ps
past_plain code tree routine labels own pc list ps h =
    moved code (pc + 1 + pieces_size list) (pc + (1 + pieces_size list)) ps (omega arith) (past_pieces code tree routine labels own (pc + 1) list ps h.1)

mutual
  pub past_stmt : (code : CodeData) (tree : TypedTree) (routine : TypedRoutine) (labels : List ℕ) (own : Own) (pc : ℕ) (s : TypedStmt) (ps : List Placed)
      → StandsAt code pc (stmt_code tree routine labels own pc s ps) → StandsAt code (pc + stmt_size tree routine s) ps
  past_stmt code tree routine labels own pc (trees.Label at label) ps h = moved code pc (pc + 0) ps (omega arith) h
  past_stmt code tree routine labels own pc (trees.If at arms other) ps h =
      moved code (pc + 1 + arms_size tree routine arms + else_size tree routine other) (pc + (1 + arms_size tree routine arms + else_size tree routine other)) ps (omega arith)
      (past_else code tree routine labels (pc + 1 + arms_size tree routine arms) other ps
      (past_arms code tree routine labels own (pc + 1) arms (else_code tree routine labels (pc + 1 + arms_size tree routine arms) other ps) h.1))
  past_stmt code tree routine labels own pc (trees.IfOne at e one) ps h =
      moved code (pc + 1 + expr_size e + 1 + stmt_size tree routine one) (pc + (1 + expr_size e + 1 + stmt_size tree routine one)) ps (omega arith)
      (past_stmt code tree routine labels (own_of tree routine (pc + 1 + expr_size e + 1) one) (pc + 1 + expr_size e + 1) one ps
      (past_expr code tree routine own (pc + 1) e
      (put own (ops.JumpFalse own.next) (stmt_code tree routine labels (own_of tree routine (pc + 1 + expr_size e + 1) one) (pc + 1 + expr_size e + 1) one ps)) h.1).1)
  past_stmt code tree routine labels own pc (trees.For at local first last step list) ps h =
      moved code (pc + 1 + bounds_size routine local first last step + 1 + 1 + stmts_size tree routine list + 1)
      (pc + (1 + bounds_size routine local first last step + 1 + 1 + stmts_size tree routine list + 1)) ps (omega arith)
      (past_stmts code tree routine labels (pc + 1 + bounds_size routine local first last step + 1 + 1) list
      (put own (ops.Step (local_start routine local) (pc + 1 + bounds_size routine local first last step)) ps)
      (past_pieces code tree routine labels own (pc + 1) (bounds_pieces (local_start routine local) first last step)
      (put own (ops.Turn (local_start routine local) own.next) (put own ops.Look
      (stmts_code tree routine labels (pc + 1 + bounds_size routine local first last step + 1 + 1) list
      (put own (ops.Step (local_start routine local) (pc + 1 + bounds_size routine local first last step)) ps)))) h.1).1.1).1
  past_stmt code tree routine labels own pc (trees.While at e list) ps h =
      moved code (pc + 1 + expr_size e + 1 + stmts_size tree routine list + 1) (pc + (1 + expr_size e + 1 + stmts_size tree routine list + 1)) ps (omega arith)
      (past_stmts code tree routine labels (pc + 1 + expr_size e + 1) list (put own (ops.Jump own.retry) ps)
      (past_expr code tree routine own (pc + 1) e
      (put own (ops.JumpFalse own.next) (stmts_code tree routine labels (pc + 1 + expr_size e + 1) list (put own (ops.Jump own.retry) ps))) h.1).1).1
  past_stmt code tree routine labels own pc (trees.Test at e cases other) ps h =
      moved code (pc + 1 + expr_size e + cases_size tree routine cases + 1 + else_size tree routine other)
      (pc + (1 + expr_size e + cases_size tree routine cases + 1 + else_size tree routine other)) ps (omega arith)
      (past_else code tree routine labels (pc + 1 + expr_size e + cases_size tree routine cases + 1) other ps
      (past_cases code tree routine labels own (pc + 1 + expr_size e) cases
      (put own ops.Drop (else_code tree routine labels (pc + 1 + expr_size e + cases_size tree routine cases + 1) other ps))
      (past_expr code tree routine own (pc + 1) e
      (cases_code tree routine labels own (pc + 1 + expr_size e) cases
      (put own ops.Drop (else_code tree routine labels (pc + 1 + expr_size e + cases_size tree routine cases + 1) other ps))) h.1)).1)
  past_stmt code tree routine labels own pc s ps h = past_plain code tree routine labels own pc (pieces tree routine s) ps h

  pub past_stmts : (code : CodeData) (tree : TypedTree) (routine : TypedRoutine) (labels : List ℕ) (pc : ℕ) (list : TypedStmts) (ps : List Placed)
      → StandsAt code pc (stmts_code tree routine labels pc list ps) → StandsAt code (pc + stmts_size tree routine list) ps
  past_stmts code tree routine labels pc NoStmts ps h = moved code pc (pc + 0) ps (omega arith) h
  past_stmts code tree routine labels pc (MoreStmts s more) ps h =
      moved code (pc + stmt_size tree routine s + stmts_size tree routine more) (pc + (stmt_size tree routine s + stmts_size tree routine more)) ps (omega arith)
      (past_stmts code tree routine labels (pc + stmt_size tree routine s) more ps
      (past_stmt code tree routine labels (own_of tree routine pc s) pc s (stmts_code tree routine labels (pc + stmt_size tree routine s) more ps) h))

  pub past_arms : (code : CodeData) (tree : TypedTree) (routine : TypedRoutine) (labels : List ℕ) (own : Own) (pc : ℕ) (arms : TypedArms) (ps : List Placed)
      → StandsAt code pc (arms_code tree routine labels own pc arms ps) → StandsAt code (pc + arms_size tree routine arms) ps
  past_arms code tree routine labels own pc NoArms ps h = moved code pc (pc + 0) ps (omega arith) h
  past_arms code tree routine labels own pc (MoreArms e list more) ps h =
      moved code (pc + expr_size e + 1 + stmts_size tree routine list + 1 + arms_size tree routine more)
      (pc + (expr_size e + 1 + stmts_size tree routine list + 1 + arms_size tree routine more)) ps (omega arith)
      (past_arms code tree routine labels own (pc + expr_size e + 1 + stmts_size tree routine list + 1) more ps
      (past_stmts code tree routine labels (pc + expr_size e + 1) list
      (put own (ops.Jump own.next) (arms_code tree routine labels own (pc + expr_size e + 1 + stmts_size tree routine list + 1) more ps))
      (past_expr code tree routine own pc e
      (put own (ops.JumpFalse (pc + expr_size e + 1 + stmts_size tree routine list + 1)) (stmts_code tree routine labels (pc + expr_size e + 1) list
      (put own (ops.Jump own.next) (arms_code tree routine labels own (pc + expr_size e + 1 + stmts_size tree routine list + 1) more ps)))) h).1).1)

  pub past_cases : (code : CodeData) (tree : TypedTree) (routine : TypedRoutine) (labels : List ℕ) (own : Own) (pc : ℕ) (cases : TypedCases) (ps : List Placed)
      → StandsAt code pc (cases_code tree routine labels own pc cases ps) → StandsAt code (pc + cases_size tree routine cases) ps
  past_cases code tree routine labels own pc NoCases ps h = moved code pc (pc + 0) ps (omega arith) h
  past_cases code tree routine labels own pc (MoreCases es list more) ps h =
      moved code (pc + values_size es + 1 + 1 + stmts_size tree routine list + 1 + cases_size tree routine more)
      (pc + (values_size es + 1 + 1 + stmts_size tree routine list + 1 + cases_size tree routine more)) ps (omega arith)
      (past_cases code tree routine labels own (pc + values_size es + 1 + 1 + stmts_size tree routine list + 1) more ps
      (past_stmts code tree routine labels (pc + values_size es + 1 + 1) list
      (put own (ops.Jump own.next) (cases_code tree routine labels own (pc + values_size es + 1 + 1 + stmts_size tree routine list + 1) more ps))
      (past_values code tree routine own (pc + values_size es + 1) pc es
      (put own (ops.Jump (pc + values_size es + 1 + 1 + stmts_size tree routine list + 1)) (put own ops.Drop
      (stmts_code tree routine labels (pc + values_size es + 1 + 1) list (put own (ops.Jump own.next)
      (cases_code tree routine labels own (pc + values_size es + 1 + 1 + stmts_size tree routine list + 1) more ps))))) h).1.1).1)

  pub past_else : (code : CodeData) (tree : TypedTree) (routine : TypedRoutine) (labels : List ℕ) (pc : ℕ) (other : TypedElse) (ps : List Placed)
      → StandsAt code pc (else_code tree routine labels pc other ps) → StandsAt code (pc + else_size tree routine other) ps
  past_else code tree routine labels pc NoElse ps h = moved code pc (pc + 0) ps (omega arith) h
  past_else code tree routine labels pc (Else list) ps h = past_stmts code tree routine labels pc list ps h
