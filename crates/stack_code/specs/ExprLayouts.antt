-- The code of expressions at a place, followed by other code.
use Rattle.std.specs.Prelude.{ℕ, ◌+◌, Bool, true, false, List, ◌∷◌}
use Rattle.std.specs.Option.{unwrap_or}
use Rattle.rapid_model.specs.declared.function.Function.{Function}
use Rattle.rapid_model.specs.declared.function.Function.TheVariants as functions
use Rattle.rapid_model.specs.declared.part_name.PartName.{PartName}
use Rattle.rapid_model.specs.declared.part_name.PartName.TheVariants as parts
use Rattle.rapid_model.specs.declared.operator.Operator.TheVariants as operators
use Rattle.typed_trees.specs.Plain as trees
use Rattle.typed_trees.specs.Plain.{TypedArgs, TypedExpr, TypedExprs, TypedPlace, TypedRoutine, TypedSteps, TypedTree, NoExprs, MoreExprs, NoSteps, MoreSteps, NotHeld, Held, PlaceOf, Given, Lent, OfSignal, NoArgs, MoreArgs}
use Rattle.typed_trees.specs.declared.datum.Datum.TheVariants.{Plain}
use Rattle.typed_trees.specs.declared.expr.TreeRoot.{TreeRoot}
use Rattle.typed_trees.specs.declared.expr.TreeRoot.TheVariants as roots
use Rattle.rapid_meaning.specs.Expressions.{lent_length}
use Rattle.rapid_meaning.specs.Layouts.{length_at, local_start, slot_start}
use Rattle.stack_code.specs.Pieces.{cell_number, push}
use Rattle.stack_code.specs.Placed.{Own, Placed}
use Rattle.stack_code.specs.Sizes.{expr_size, place_size}
use Rattle.stack_code.specs.declared.op.Op.{Op}
use Rattle.stack_code.specs.declared.op.Op.TheVariants as ops
use Rattle.stack_code.specs.declared.unary_op.UnaryOp.TheVariants as unary

-- an operation of a statement
abbrev pub put : Own → Op → List Placed → List Placed
put own op ps = record { own = own; op = op } ∷ ps

abbrev pub root_op : TypedTree → TypedRoutine → TreeRoot → Op
root_op tree routine (roots.Slot row) = ops.Slot (slot_start tree row)
root_op tree routine (roots.Local row) = ops.Local (local_start routine row)
root_op tree routine (roots.Ref row) = ops.Ref (local_start routine row)
root_op tree routine (roots.Pers row) = ops.Pers (cell_number tree (roots.Pers row))

abbrev pub part_code : Own → PartName → List Placed → List Placed
part_code own parts.Whole ps = ps
part_code own part ps = put own (ops.Part part) ps

abbrev pub sign_code : Own → Bool → List Placed → List Placed
sign_code own true ps = put own (ops.Unary unary.Minus) ps
sign_code own false ps = ps

abbrev pub signal_code : Own → Function → ℕ → List Placed → List Placed
signal_code own functions.TestDI signal ps = put own (ops.GetSignal signal) (put own (push 1) (put own (ops.Binary operators.Equal) ps))
signal_code own function signal ps = put own (ops.GetSignal signal) ps

-- an index of an array of this length
abbrev pub index_op : TypedTree → TypedRoutine → TreeRoot → Op
index_op tree routine root = ops.Index (unwrap_or (length_at tree routine root) 0)

abbrev mutual
  pub expr_code : TypedTree → TypedRoutine → Own → ℕ → TypedExpr → List Placed → List Placed
  expr_code tree routine own pc (trees.Known at sort v) ps = put own (ops.Push (Plain v)) ps
  expr_code tree routine own pc (trees.ErrorNumber at sort) ps = put own ops.Errno ps
  expr_code tree routine own pc (trees.SignalValue at sort signal) ps = put own (ops.GetSignal signal) ps
  expr_code tree routine own pc (trees.Stored at sort p) ps = place_code tree routine own pc p (put own ops.Load ps)
  expr_code tree routine own pc (trees.Group at sort e) ps = expr_code tree routine own pc e ps
  expr_code tree routine own pc (trees.Aggregate at sort es) ps = exprs_code tree routine own pc es (put own (ops.Pack sort) ps)
  expr_code tree routine own pc (trees.Builtin at sort function args) ps = builtin_code tree routine own pc function args ps
  expr_code tree routine own pc (trees.Invoke at sort called args) ps = args_code tree routine own pc args (put own (ops.Call called) ps)
  expr_code tree routine own pc (trees.Not at sort e) ps = expr_code tree routine own pc e (put own (ops.Unary unary.Not) ps)
  expr_code tree routine own pc (trees.Signed at sort minus e) ps = expr_code tree routine own pc e (sign_code own minus ps)
  expr_code tree routine own pc (trees.Chain at sort e steps) ps = expr_code tree routine own pc e (steps_code tree routine own (pc + expr_size e) steps ps)

  pub exprs_code : TypedTree → TypedRoutine → Own → ℕ → TypedExprs → List Placed → List Placed
  exprs_code tree routine own pc NoExprs ps = ps
  exprs_code tree routine own pc (MoreExprs e es) ps = expr_code tree routine own pc e (exprs_code tree routine own (pc + expr_size e) es ps)

  -- the right operand of AND and OR is skipped if the left one decides
  pub steps_code : TypedTree → TypedRoutine → Own → ℕ → TypedSteps → List Placed → List Placed
  steps_code tree routine own pc NoSteps ps = ps
  steps_code tree routine own pc (MoreSteps operators.And e steps) ps =
      put own ops.Dup (put own (ops.JumpFalse (pc + 1 + 1 + 1 + expr_size e)) (put own ops.Drop
      (expr_code tree routine own (pc + 1 + 1 + 1) e (steps_code tree routine own (pc + 1 + 1 + 1 + expr_size e) steps ps))))
  steps_code tree routine own pc (MoreSteps operators.Or e steps) ps =
      put own ops.Dup (put own (ops.JumpTrue (pc + 1 + 1 + 1 + expr_size e)) (put own ops.Drop
      (expr_code tree routine own (pc + 1 + 1 + 1) e (steps_code tree routine own (pc + 1 + 1 + 1 + expr_size e) steps ps))))
  steps_code tree routine own pc (MoreSteps o e steps) ps =
      expr_code tree routine own pc e (put own (ops.Binary o) (steps_code tree routine own (pc + expr_size e + 1) steps ps))

  -- the root, then the index, then the part
  pub place_code : TypedTree → TypedRoutine → Own → ℕ → TypedPlace → List Placed → List Placed
  place_code tree routine own pc (PlaceOf root NotHeld part sort) ps = put own (root_op tree routine root) (part_code own part ps)
  place_code tree routine own pc (PlaceOf root (Held e) part sort) ps =
      put own (root_op tree routine root) (expr_code tree routine own (pc + 1) e (put own (index_op tree routine root) (part_code own part ps)))

  pub args_code : TypedTree → TypedRoutine → Own → ℕ → TypedArgs → List Placed → List Placed
  args_code tree routine own pc NoArgs ps = ps
  args_code tree routine own pc (MoreArgs (Given e) more) ps = expr_code tree routine own pc e (args_code tree routine own (pc + expr_size e) more ps)
  args_code tree routine own pc (MoreArgs (Lent p) more) ps = place_code tree routine own pc p (args_code tree routine own (pc + place_size p) more ps)
  args_code tree routine own pc (MoreArgs other more) ps = args_code tree routine own pc more ps

  -- a predefined function, by the form of its arguments
  pub builtin_code : TypedTree → TypedRoutine → Own → ℕ → Function → TypedArgs → List Placed → List Placed
  builtin_code tree routine own pc function NoArgs ps = put own ops.Here ps
  builtin_code tree routine own pc function (MoreArgs (Given e) NoArgs) ps = expr_code tree routine own pc e (put own (ops.Func function) ps)
  builtin_code tree routine own pc function (MoreArgs (Given e) (MoreArgs (Given f) NoArgs)) ps =
      expr_code tree routine own pc e (expr_code tree routine own (pc + expr_size e) f (put own (ops.Func function) ps))
  builtin_code tree routine own pc function (MoreArgs (OfSignal signal) NoArgs) ps = signal_code own function signal ps
  builtin_code tree routine own pc function (MoreArgs (Lent p) NoArgs) ps = place_code tree routine own pc p (put own ops.TestSet ps)
  builtin_code tree routine own pc function (MoreArgs (Lent p) (MoreArgs one NoArgs)) ps = put own (push (unwrap_or (lent_length tree routine p) 0)) ps
  builtin_code tree routine own pc function other ps = ps
