-- The value of a form needs room itself.
use Rattle.std.proofs.Common.{◌≤◌, arith}
use Rattle.rapid_model.specs.declared.function.Function.{Function}
use Rattle.rapid_model.specs.declared.function.Function.TheVariants as functions
use Rattle.typed_trees.specs.Plain as trees
use Rattle.typed_trees.specs.Plain.{TypedArgs, TypedExpr, TypedPlace, NotHeld, Held, PlaceOf, Given, Lent, OfSignal, NoArgs, MoreArgs}
use Rattle.stack_code.specs.Needs.{builtin_need, expr_need, place_need, signal_need}

signal_needs : (function : Function) → 1 ≤ signal_need function
signal_needs functions.TestDI = omega arith
signal_needs function = omega arith

pub place_needs : (p : TypedPlace) → 1 ≤ place_need p
place_needs (PlaceOf root NotHeld part sort) = omega arith
place_needs (PlaceOf root (Held e) part sort) = omega arith

mutual
  pub expr_needs : (e : TypedExpr) → 1 ≤ expr_need e
  expr_needs (trees.Known at sort v) = omega arith
  expr_needs (trees.ErrorNumber at sort) = omega arith
  expr_needs (trees.SignalValue at sort signal) = omega arith
  expr_needs (trees.Stored at sort p) = place_needs p
  expr_needs (trees.Group at sort e) = expr_needs e
  expr_needs (trees.Aggregate at sort es) = omega arith
  expr_needs (trees.Builtin at sort function args) = builtin_needs function args
  expr_needs (trees.Invoke at sort called args) = omega arith
  expr_needs (trees.Not at sort e) = expr_needs e
  expr_needs (trees.Signed at sort minus e) = expr_needs e
  expr_needs (trees.Chain at sort e steps) = omega (arith, expr_needs e)

  builtin_needs : (function : Function) (args : TypedArgs) → 1 ≤ builtin_need function args
  builtin_needs function (MoreArgs (Given e) NoArgs) = expr_needs e
  builtin_needs function (MoreArgs (Given e) (MoreArgs (Given f) NoArgs)) = omega (arith, expr_needs e)
  builtin_needs function (MoreArgs (OfSignal signal) NoArgs) = signal_needs function
  builtin_needs function (MoreArgs (Lent p) NoArgs) = place_needs p
  builtin_needs function other = omega arith
