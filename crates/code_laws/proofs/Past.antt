-- What follows the code of a form.
use Rattle.std.proofs.Common.{◌≡◌, ℕ, ◌+◌, Bool, true, false, List, ◌∷◌, arith}
use Rattle.rapid_model.specs.declared.function.Function.{Function}
use Rattle.rapid_model.specs.declared.function.Function.TheVariants as functions
use Rattle.rapid_model.specs.declared.part_name.PartName.{PartName}
use Rattle.rapid_model.specs.declared.part_name.PartName.TheVariants as parts
use Rattle.rapid_model.specs.declared.operator.Operator.TheVariants as operators
use Rattle.typed_trees.specs.Plain as trees
use Rattle.typed_trees.specs.Plain.{TypedArgs, TypedExpr, TypedExprs, TypedPlace, TypedRoutine, TypedSteps, TypedTree, NoExprs, MoreExprs, NoSteps, MoreSteps, NotHeld, Held, PlaceOf, Given, Lent, OfSignal, NoArgs, MoreArgs}
use Rattle.stack_code.specs.CodeData.{CodeData}
use Rattle.stack_code.specs.ExprLayouts.{args_code, builtin_code, expr_code, exprs_code, index_op, part_code, place_code, put, sign_code, signal_code, steps_code}
use Rattle.stack_code.specs.Placed.{Own, Placed, StandsAt}
use Rattle.stack_code.specs.Sizes.{args_size, builtin_size, expr_size, exprs_size, part_size, place_size, sign_size, signal_size, steps_size}
use Rattle.stack_code.specs.declared.op.Op.TheVariants as ops
use Rattle.stack_code.specs.declared.unary_op.UnaryOp.TheVariants as unary
use Rattle.code_laws.proofs.Spots.{moved}

-- after one operation
past_op : (code : CodeData) (a b : ℕ) (p : Placed) (ps : List Placed) → a + 1 ≡ b → StandsAt code a (p ∷ ps) → StandsAt code b ps
past_op code a b p ps e h = moved code (a + 1) b ps e h.1

past_part : (code : CodeData) (own : Own) (pc : ℕ) (part : PartName) (ps : List Placed) → StandsAt code pc (part_code own part ps) → StandsAt code (pc + part_size part) ps
past_part code own pc parts.Whole ps h = moved code pc (pc + 0) ps (omega arith) h
past_part code own pc part ps h = h.1

past_sign : (code : CodeData) (own : Own) (pc : ℕ) (minus : Bool) (ps : List Placed) → StandsAt code pc (sign_code own minus ps) → StandsAt code (pc + sign_size minus) ps
past_sign code own pc true ps h = h.1
past_sign code own pc false ps h = moved code pc (pc + 0) ps (omega arith) h

past_signal : (code : CodeData) (own : Own) (pc : ℕ) (function : Function) (signal : ℕ) (ps : List Placed)
    → StandsAt code pc (signal_code own function signal ps) → StandsAt code (pc + signal_size function) ps
past_signal code own pc functions.TestDI signal ps h = moved code (pc + 1 + 1 + 1) (pc + 3) ps (omega arith) h.1.1.1
past_signal code own pc function signal ps h = h.1

mutual
  pub past_expr : (code : CodeData) (tree : TypedTree) (routine : TypedRoutine) (own : Own) (pc : ℕ) (e : TypedExpr) (ps : List Placed)
      → StandsAt code pc (expr_code tree routine own pc e ps) → StandsAt code (pc + expr_size e) ps
  past_expr code tree routine own pc (trees.Known at sort v) ps h = h.1
  past_expr code tree routine own pc (trees.ErrorNumber at sort) ps h = h.1
  past_expr code tree routine own pc (trees.SignalValue at sort signal) ps h = h.1
  past_expr code tree routine own pc (trees.Stored at sort p) ps h =
      past_op code (pc + place_size p) (pc + (place_size p + 1)) _ ps (omega arith) (past_place code tree routine own pc p (put own ops.Load ps) h)
  past_expr code tree routine own pc (trees.Group at sort e) ps h = past_expr code tree routine own pc e ps h
  past_expr code tree routine own pc (trees.Aggregate at sort es) ps h =
      past_op code (pc + exprs_size es) (pc + (exprs_size es + 1)) _ ps (omega arith) (past_exprs code tree routine own pc es (put own (ops.Pack sort) ps) h)
  past_expr code tree routine own pc (trees.Builtin at sort function args) ps h = past_builtin code tree routine own pc function args ps h
  past_expr code tree routine own pc (trees.Invoke at sort called args) ps h =
      past_op code (pc + args_size args) (pc + (args_size args + 1)) _ ps (omega arith) (past_args code tree routine own pc args (put own (ops.Call called) ps) h)
  past_expr code tree routine own pc (trees.Not at sort e) ps h =
      past_op code (pc + expr_size e) (pc + (expr_size e + 1)) _ ps (omega arith) (past_expr code tree routine own pc e (put own (ops.Unary unary.Not) ps) h)
  past_expr code tree routine own pc (trees.Signed at sort minus e) ps h =
      moved code (pc + expr_size e + sign_size minus) (pc + (expr_size e + sign_size minus)) ps (omega arith)
      (past_sign code own (pc + expr_size e) minus ps (past_expr code tree routine own pc e (sign_code own minus ps) h))
  past_expr code tree routine own pc (trees.Chain at sort e steps) ps h =
      moved code (pc + expr_size e + steps_size steps) (pc + (expr_size e + steps_size steps)) ps (omega arith)
      (past_steps code tree routine own (pc + expr_size e) steps ps (past_expr code tree routine own pc e (steps_code tree routine own (pc + expr_size e) steps ps) h))

  pub past_exprs : (code : CodeData) (tree : TypedTree) (routine : TypedRoutine) (own : Own) (pc : ℕ) (es : TypedExprs) (ps : List Placed)
      → StandsAt code pc (exprs_code tree routine own pc es ps) → StandsAt code (pc + exprs_size es) ps
  past_exprs code tree routine own pc NoExprs ps h = moved code pc (pc + 0) ps (omega arith) h
  past_exprs code tree routine own pc (MoreExprs e es) ps h =
      moved code (pc + expr_size e + exprs_size es) (pc + (expr_size e + exprs_size es)) ps (omega arith)
      (past_exprs code tree routine own (pc + expr_size e) es ps (past_expr code tree routine own pc e (exprs_code tree routine own (pc + expr_size e) es ps) h))

  pub past_steps : (code : CodeData) (tree : TypedTree) (routine : TypedRoutine) (own : Own) (pc : ℕ) (steps : TypedSteps) (ps : List Placed)
      → StandsAt code pc (steps_code tree routine own pc steps ps) → StandsAt code (pc + steps_size steps) ps
  past_steps code tree routine own pc NoSteps ps h = moved code pc (pc + 0) ps (omega arith) h
  past_steps code tree routine own pc (MoreSteps operators.And e steps) ps h =
      moved code (pc + 1 + 1 + 1 + expr_size e + steps_size steps) (pc + (3 + expr_size e + steps_size steps)) ps (omega arith)
      (past_steps code tree routine own (pc + 1 + 1 + 1 + expr_size e) steps ps
      (past_expr code tree routine own (pc + 1 + 1 + 1) e (steps_code tree routine own (pc + 1 + 1 + 1 + expr_size e) steps ps) h.1.1.1))
  past_steps code tree routine own pc (MoreSteps operators.Or e steps) ps h =
      moved code (pc + 1 + 1 + 1 + expr_size e + steps_size steps) (pc + (3 + expr_size e + steps_size steps)) ps (omega arith)
      (past_steps code tree routine own (pc + 1 + 1 + 1 + expr_size e) steps ps
      (past_expr code tree routine own (pc + 1 + 1 + 1) e (steps_code tree routine own (pc + 1 + 1 + 1 + expr_size e) steps ps) h.1.1.1))
  past_steps code tree routine own pc (MoreSteps o e steps) ps h =
      moved code (pc + expr_size e + 1 + steps_size steps) (pc + (1 + expr_size e + steps_size steps)) ps (omega arith)
      (past_steps code tree routine own (pc + expr_size e + 1) steps ps
      (past_expr code tree routine own pc e (put own (ops.Binary o) (steps_code tree routine own (pc + expr_size e + 1) steps ps)) h).1)

  pub past_place : (code : CodeData) (tree : TypedTree) (routine : TypedRoutine) (own : Own) (pc : ℕ) (p : TypedPlace) (ps : List Placed)
      → StandsAt code pc (place_code tree routine own pc p ps) → StandsAt code (pc + place_size p) ps
  past_place code tree routine own pc (PlaceOf root NotHeld part sort) ps h =
      moved code (pc + 1 + part_size part) (pc + (1 + part_size part)) ps (omega arith) (past_part code own (pc + 1) part ps h.1)
  past_place code tree routine own pc (PlaceOf root (Held e) part sort) ps h =
      moved code (pc + 1 + expr_size e + 1 + part_size part) (pc + (1 + expr_size e + 1 + part_size part)) ps (omega arith)
      (past_part code own (pc + 1 + expr_size e + 1) part ps
      (past_expr code tree routine own (pc + 1) e (put own (index_op tree routine root) (part_code own part ps)) h.1).1)

  pub past_args : (code : CodeData) (tree : TypedTree) (routine : TypedRoutine) (own : Own) (pc : ℕ) (args : TypedArgs) (ps : List Placed)
      → StandsAt code pc (args_code tree routine own pc args ps) → StandsAt code (pc + args_size args) ps
  past_args code tree routine own pc NoArgs ps h = moved code pc (pc + 0) ps (omega arith) h
  past_args code tree routine own pc (MoreArgs (Given e) more) ps h =
      moved code (pc + expr_size e + args_size more) (pc + (expr_size e + args_size more)) ps (omega arith)
      (past_args code tree routine own (pc + expr_size e) more ps (past_expr code tree routine own pc e (args_code tree routine own (pc + expr_size e) more ps) h))
  past_args code tree routine own pc (MoreArgs (Lent p) more) ps h =
      moved code (pc + place_size p + args_size more) (pc + (place_size p + args_size more)) ps (omega arith)
      (past_args code tree routine own (pc + place_size p) more ps (past_place code tree routine own pc p (args_code tree routine own (pc + place_size p) more ps) h))
  past_args code tree routine own pc (MoreArgs other more) ps h = past_args code tree routine own pc more ps h

  past_builtin : (code : CodeData) (tree : TypedTree) (routine : TypedRoutine) (own : Own) (pc : ℕ) (function : Function) (args : TypedArgs) (ps : List Placed)
      → StandsAt code pc (builtin_code tree routine own pc function args ps) → StandsAt code (pc + builtin_size function args) ps
  past_builtin code tree routine own pc function NoArgs ps h = h.1
  past_builtin code tree routine own pc function (MoreArgs (Given e) NoArgs) ps h =
      past_op code (pc + expr_size e) (pc + (expr_size e + 1)) _ ps (omega arith) (past_expr code tree routine own pc e (put own (ops.Func function) ps) h)
  past_builtin code tree routine own pc function (MoreArgs (Given e) (MoreArgs (Given f) NoArgs)) ps h =
      past_op code (pc + expr_size e + expr_size f) (pc + (expr_size e + expr_size f + 1)) _ ps (omega arith)
      (past_expr code tree routine own (pc + expr_size e) f (put own (ops.Func function) ps)
      (past_expr code tree routine own pc e (expr_code tree routine own (pc + expr_size e) f (put own (ops.Func function) ps)) h))
  past_builtin code tree routine own pc function (MoreArgs (OfSignal signal) NoArgs) ps h = past_signal code own pc function signal ps h
  past_builtin code tree routine own pc function (MoreArgs (Lent p) NoArgs) ps h =
      past_op code (pc + place_size p) (pc + (place_size p + 1)) _ ps (omega arith) (past_place code tree routine own pc p (put own ops.TestSet ps) h)
  past_builtin code tree routine own pc function (MoreArgs (Lent p) (MoreArgs one NoArgs)) ps h = h.1
  past_builtin code tree routine own pc function other ps h = moved code pc (pc + 0) ps (omega arith) h
