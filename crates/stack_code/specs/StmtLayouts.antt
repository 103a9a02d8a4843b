-- The code of statements at a place, followed by other code. Each begins with its Look and an empty stack.
use Rattle.std.specs.Prelude.{ℕ, ◌+◌, List, [], ◌∷◌, ◌++◌, slice_get}
use Rattle.std.specs.Option.{unwrap_or}
use Rattle.rapid_model.specs.declared.operator.Operator.TheVariants as operators
use Rattle.rapid_model.specs.declared.at.At.{At}
use Rattle.typed_trees.specs.Plain as trees
use Rattle.typed_trees.specs.Plain.{TypedArms, TypedCases, TypedElse, TypedExpr, TypedExprs, TypedRoutine, TypedStmt, TypedStmts, TypedTree, NoExprs, MoreExprs, NoStmts, MoreStmts, NoArms, MoreArms, NoCases, MoreCases, NoElse, Else}
use Rattle.rapid_meaning.specs.Layouts.{local_start}
use Rattle.rapid_meaning.specs.Statements.{byte_of}
use Rattle.stack_code.specs.ExprLayouts.{args_code, expr_code, place_code, put}
use Rattle.stack_code.specs.Pieces.{Piece, OfExpr, OfPlace, OfArgs, Does, Waits, GoesTo, Chooses, Travels, bounds_pieces, pieces}
use Rattle.stack_code.specs.Placed.{Own, Placed}
use Rattle.stack_code.specs.Sizes.{args_size, arms_size, bounds_size, cases_size, expr_size, place_size, stmt_size, stmts_size, values_size}
use Rattle.stack_code.specs.declared.op.Op.TheVariants as ops

abbrev pub at_byte : TypedRoutine → ℕ → At
at_byte routine byte = record { «module» = routine.«module»; byte = byte }

-- the owner of the operations of a statement at this place
abbrev pub own_of : TypedTree → TypedRoutine → ℕ → TypedStmt → Own
own_of tree routine pc s = record { retry = pc; next = pc + stmt_size tree routine s; at = at_byte routine (byte_of s) }

-- the place of a label, by its number; labels are numbered in text order in their routine
abbrev pub label_at : List ℕ → ℕ → ℕ
label_at labels label = unwrap_or (slice_get labels label) 0

unfoldable pub pieces_code : TypedTree → TypedRoutine → List ℕ → Own → ℕ → List Piece → List Placed → List Placed
pieces_code tree routine labels own pc [] ps = ps
pieces_code tree routine labels own pc (OfExpr e ∷ more) ps = expr_code tree routine own pc e (pieces_code tree routine labels own (pc + expr_size e) more ps)
pieces_code tree routine labels own pc (OfPlace p ∷ more) ps = place_code tree routine own pc p (pieces_code tree routine labels own (pc + place_size p) more ps)
pieces_code tree routine labels own pc (OfArgs args ∷ more) ps = args_code tree routine own pc args (pieces_code tree routine labels own (pc + args_size args) more ps)
pieces_code tree routine labels own pc (Does op ∷ more) ps = put own op (pieces_code tree routine labels own (pc + 1) more ps)
pieces_code tree routine labels own pc (Waits ∷ more) ps = put own (ops.Wait own.retry) (pieces_code tree routine labels own (pc + 1) more ps)
pieces_code tree routine labels own pc (GoesTo label ∷ more) ps = put own (ops.Jump (label_at labels label)) (pieces_code tree routine labels own (pc + 1) more ps)
pieces_code tree routine labels own pc (Chooses a b ∷ more) ps =
    put own (ops.JumpFalse (pc + 1 + 1 + 1)) (put own a (put own (ops.Jump (pc + 1 + 1 + 1 + 1)) (put own b
    (pieces_code tree routine labels own (pc + 1 + 1 + 1 + 1) more ps))))
pieces_code tree routine labels own pc (Travels ∷ more) ps =
    put own ops.Aim (put own (ops.Point (pc + 1 + 1 + 1 + 1)) (put own ops.Look (put own (ops.Jump (pc + 1))
    (pieces_code tree routine labels own (pc + 1 + 1 + 1 + 1) more ps))))

-- the values of a CASE; the first one that equals the tested value jumps to the list
unfoldable pub values_code : TypedTree → TypedRoutine → Own → ℕ → ℕ → TypedExprs → List Placed → List Placed
values_code tree routine own list pc NoExprs ps = ps
values_code tree routine own list pc (MoreExprs e es) ps =
    put own ops.Dup (expr_code tree routine own (pc + 1) e (put own (ops.Binary operators.Equal) (put own (ops.JumpTrue list)
    (values_code tree routine own list (pc + 1 + expr_size e + 1 + 1) es ps))))

-- a statement, with the owner of its operations; statements of lists inside it have their own
abbrev mutual
  pub stmt_code : TypedTree → TypedRoutine → List ℕ → Own → ℕ → TypedStmt → List Placed → List Placed
  stmt_code tree routine labels own pc (trees.Label at label) ps = ps
  stmt_code tree routine labels own pc (trees.If at arms other) ps =
      put own ops.Look (arms_code tree routine labels own (pc + 1) arms
      (else_code tree routine labels (pc + 1 + arms_size tree routine arms) other ps))
  stmt_code tree routine labels own pc (trees.IfOne at e one) ps =
      put own ops.Look (expr_code tree routine own (pc + 1) e (put own (ops.JumpFalse own.next)
      (stmt_code tree routine labels (own_of tree routine (pc + 1 + expr_size e + 1) one) (pc + 1 + expr_size e + 1) one ps)))
  stmt_code tree routine labels own pc (trees.For at local first last step list) ps =
      put own ops.Look (pieces_code tree routine labels own (pc + 1) (bounds_pieces (local_start routine local) first last step)
      (put own (ops.Turn (local_start routine local) own.next) (put own ops.Look
      (stmts_code tree routine labels (pc + 1 + bounds_size routine local first last step + 1 + 1) list
      (put own (ops.Step (local_start routine local) (pc + 1 + bounds_size routine local first last step)) ps)))))
  stmt_code tree routine labels own pc (trees.While at e list) ps =
      put own ops.Look (expr_code tree routine own (pc + 1) e (put own (ops.JumpFalse own.next)
      (stmts_code tree routine labels (pc + 1 + expr_size e + 1) list (put own (ops.Jump own.retry) ps))))
  stmt_code tree routine labels own pc (trees.Test at e cases other) ps =
      put own ops.Look (expr_code tree routine own (pc + 1) e
      (cases_code tree routine labels own (pc + 1 + expr_size e) cases (put own ops.Drop
      (else_code tree routine labels (pc + 1 + expr_size e + cases_size tree routine cases + 1) other ps))))
  stmt_code tree routine labels own pc s ps = put own ops.Look (pieces_code tree routine labels own (pc + 1) (pieces tree routine s) ps)

  pub stmts_code : TypedTree → TypedRoutine → List ℕ → ℕ → TypedStmts → List Placed → List Placed
  stmts_code tree routine labels pc NoStmts ps = ps
  stmts_code tree routine labels pc (MoreStmts s more) ps =
      stmt_code tree routine labels (own_of tree routine pc s) pc s (stmts_code tree routine labels (pc + stmt_size tree routine s) more ps)

  -- a condition that is FALSE goes on to the next one; a list that reaches its end goes on after the statement
  pub arms_code : TypedTree → TypedRoutine → List ℕ → Own → ℕ → TypedArms → List Placed → List Placed
  arms_code tree routine labels own pc NoArms ps = ps
  arms_code tree routine labels own pc (MoreArms e list more) ps =
      expr_code tree routine own pc e (put own (ops.JumpFalse (pc + expr_size e + 1 + stmts_size tree routine list + 1))
      (stmts_code tree routine labels (pc + expr_size e + 1) list (put own (ops.Jump own.next)
      (arms_code tree routine labels own (pc + expr_size e + 1 + stmts_size tree routine list + 1) more ps))))

  -- the tested value is on the stack until a list begins
  pub cases_code : TypedTree → TypedRoutine → List ℕ → Own → ℕ → TypedCases → List Placed → List Placed
  cases_code tree routine labels own pc NoCases ps = ps
  cases_code tree routine labels own pc (MoreCases es list more) ps =
      values_code tree routine own (pc + values_size es + 1) pc es
      (put own (ops.Jump (pc + values_size es + 1 + 1 + stmts_size tree routine list + 1)) (put own ops.Drop
      (stmts_code tree routine labels (pc + values_size es + 1 + 1) list (put own (ops.Jump own.next)
      (cases_code tree routine labels own (pc + values_size es + 1 + 1 + stmts_size tree routine list + 1) more ps)))))

  pub else_code : TypedTree → TypedRoutine → List ℕ → ℕ → TypedElse → List Placed → List Placed
  else_code tree routine labels pc NoElse ps = ps
  else_code tree routine labels pc (Else list) ps = stmts_code tree routine labels pc list ps

-- the places of the labels, in text order
abbrev mutual
  pub stmt_labels : TypedTree → TypedRoutine → ℕ → TypedStmt → List ℕ
  stmt_labels tree routine pc (trees.Label at label) = pc ∷ []
  stmt_labels tree routine pc (trees.If at arms other) =
      arms_labels tree routine (pc + 1) arms ++ else_labels tree routine (pc + 1 + arms_size tree routine arms) other
  stmt_labels tree routine pc (trees.IfOne at e one) = stmt_labels tree routine (pc + 1 + expr_size e + 1) one
  stmt_labels tree routine pc (trees.For at local first last step list) =
      stmts_labels tree routine (pc + 1 + bounds_size routine local first last step + 1 + 1) list
  stmt_labels tree routine pc (trees.While at e list) = stmts_labels tree routine (pc + 1 + expr_size e + 1) list
  stmt_labels tree routine pc (trees.Test at e cases other) =
      cases_labels tree routine (pc + 1 + expr_size e) cases ++ else_labels tree routine (pc + 1 + expr_size e + cases_size tree routine cases + 1) other
  stmt_labels tree routine pc s = []

  pub stmts_labels : TypedTree → TypedRoutine → ℕ → TypedStmts → List ℕ
  stmts_labels tree routine pc NoStmts = []
  stmts_labels tree routine pc (MoreStmts s more) = stmt_labels tree routine pc s ++ stmts_labels tree routine (pc + stmt_size tree routine s) more

  pub arms_labels : TypedTree → TypedRoutine → ℕ → TypedArms → List ℕ
  arms_labels tree routine pc NoArms = []
  arms_labels tree routine pc (MoreArms e list more) =
      stmts_labels tree routine (pc + expr_size e + 1) list ++ arms_labels tree routine (pc + expr_size e + 1 + stmts_size tree routine list + 1) more

  pub cases_labels : TypedTree → TypedRoutine → ℕ → TypedCases → List ℕ
  cases_labels tree routine pc NoCases = []
  cases_labels tree routine pc (MoreCases es list more) =
      stmts_labels tree routine (pc + values_size es + 1 + 1) list
      ++ cases_labels tree routine (pc + values_size es + 1 + 1 + stmts_size tree routine list + 1) more

  pub else_labels : TypedTree → TypedRoutine → ℕ → TypedElse → List ℕ
  else_labels tree routine pc NoElse = []
  else_labels tree routine pc (Else list) = stmts_labels tree routine pc list
