-- The code of well typed expressions of a task without an arm has no operation that needs one.
use Rattle.std.proofs.Common.{◌≡◌, ℕ, ◌+◌, Bool, true, false, not, ◌||◌, nat_lt, IsTrue, List, [], ◌∷◌, map, refl, ap}
use Rattle.rapid_model.specs.declared.function.Function.{Function}
use Rattle.rapid_model.specs.declared.function.Function.TheVariants as functions
use Rattle.rapid_model.specs.declared.operator.Operator.TheVariants as operators
use Rattle.rapid_model.specs.declared.part_name.PartName.{PartName}
use Rattle.rapid_model.specs.declared.part_name.PartName.TheVariants as parts
use Rattle.rapid_model.specs.declared.sort.Sort.{Sort}
use Rattle.rapid_model.specs.declared.sort.Sort.TheVariants as sorts
use Rattle.rapid_values.specs.Components.{Component, components}
use Rattle.rapid_builtins.specs.Calls.{function_needs, function_needs_arm}
use Rattle.rapid_builtins.specs.declared.need.Need.{Need}
use Rattle.rapid_builtins.specs.declared.need.Need.TheVariants as needs
use Rattle.typed_trees.specs.Plain as trees
use Rattle.typed_trees.specs.Plain.{TypedArg, TypedArgs, TypedExpr, TypedExprs, TypedPlace, TypedRoutine, TypedSteps, NoExprs, MoreExprs, NoSteps, MoreSteps, NotHeld, Held, PlaceOf, Given, Lent, OfSignal, OfMeeting, Itself, Optional, NoArgs, MoreArgs}
use Rattle.typed_trees.specs.declared.expr.TreeRoot.{TreeRoot}
use Rattle.typed_trees.specs.declared.expr.TreeRoot.TheVariants as roots
use Rattle.tree_typing.specs.Expressions.{AreArgs, AreComponents, AreSteps, IsArg, IsArray, IsExpr, IsPersName, IsPlace}
use Rattle.tree_typing.specs.Kinds.{Kind, need_of}
use Rattle.tree_typing.specs.Setting.{Setting, has_arm}
use Rattle.stack_code.specs.ExprLayouts.{args_code, builtin_code, expr_code, exprs_code, index_op, part_code, place_code, put, root_op, sign_code, signal_code, steps_code}
use Rattle.stack_code.specs.Placed.{Own, Placed}
use Rattle.stack_code.specs.Sizes.{expr_size, place_size}
use Rattle.stack_code.specs.declared.op.Op.TheVariants as ops
use Rattle.stack_code.specs.declared.unary_op.UnaryOp.TheVariants as unary
use Rattle.task_code.specs.Armless.{is_armless}

-- none of these operations needs an arm
abbrev pub Free : List Placed → Type 0
Free ps = is_armless (map (λ p. p.op) ps) ≡ true

-- a task without an arm, and one of its routines
pub record Without : Type 0 where
  pub c : Setting
  pub none : c.tree.axes ≡ 0
  pub kinds : List Kind
  pub routine : TypedRoutine

-- what needs an arm is not in the tree
pub armless_need : (c : Setting) (need : Bool) → c.tree.axes ≡ 0 → IsTrue (not need || has_arm c) → need ≡ false
armless_need c true none arm = absurd (let no_arm : has_arm c ≡ false = ap (nat_lt 0) none in cc)
armless_need c false none arm = refl

-- the only function without arguments needs an arm
takes_some : (function : Function) → function_needs_arm function ≡ false → function_needs function ≡ [] → ⊥
takes_some functions.CJointT arm takes = absurd cc
takes_some functions.Abs arm takes = absurd cc
takes_some functions.Trunc arm takes = absurd cc
takes_some functions.StrLen arm takes = absurd cc
takes_some functions.NumToStr arm takes = absurd cc
takes_some functions.Dim arm takes = absurd cc
takes_some functions.TestDI arm takes = absurd cc
takes_some functions.DOutput arm takes = absurd cc
takes_some functions.TestAndSet arm takes = absurd cc

part_free : (own : Own) (part : PartName) (ps : List Placed) → Free ps → Free (part_code own part ps)
part_free own parts.Whole ps h = h
part_free own part ps h = h

root_free : (w : Without) (own : Own) (root : TreeRoot) (ps : List Placed) → Free ps → Free (put own (root_op w.c.tree w.routine root) ps)
root_free w own (roots.Slot row) ps h = h
root_free w own (roots.Local row) ps h = h
root_free w own (roots.Ref row) ps h = h
root_free w own (roots.Pers row) ps h = h

sign_free : (own : Own) (minus : Bool) (ps : List Placed) → Free ps → Free (sign_code own minus ps)
sign_free own true ps h = h
sign_free own false ps h = h

signal_free : (own : Own) (function : Function) (signal : ℕ) (ps : List Placed) → Free ps → Free (signal_code own function signal ps)
signal_free own functions.TestDI signal ps h = h
signal_free own function signal ps h = h

-- an argument is an expression of some type, or a place whose index, if it has one, is an expression of some type

given_is : (w : Without) (e : TypedExpr) (need : Need) → IsArg w.c w.kinds (Given e) need → (sort : Sort) × IsExpr w.c w.kinds e sort
given_is w e (needs.Value sort) is = (sort, is)
given_is w e needs.One is = (sorts.Num, is)
given_is w e need is = absurd is

abbrev IsHeldWell : Without → TypedPlace → Type 0
IsHeldWell w (PlaceOf root NotHeld part given) = Unit {0}
IsHeldWell w (PlaceOf root (Held e) part given) = (sort : Sort) × IsExpr w.c w.kinds e sort

place_is : (w : Without) (written : Bool) (p : TypedPlace) (sort : Sort) → IsPlace w.c w.kinds written p sort → IsHeldWell w p
place_is w written (PlaceOf root NotHeld part given) sort is = tt
place_is w written (PlaceOf root (Held e) part given) sort is = (sorts.Num, is.5)

array_is : (w : Without) (p : TypedPlace) (sort : Sort) → IsArray w.c w.kinds p sort → IsHeldWell w p
array_is w (PlaceOf root NotHeld part given) sort is = tt
array_is w (PlaceOf root (Held e) part given) sort is = absurd is

name_is : (w : Without) (p : TypedPlace) → IsPersName w.c p → IsHeldWell w p
name_is w (PlaceOf root NotHeld part given) is = tt
name_is w (PlaceOf (roots.Pers row) (Held e) part given) is = absurd is
name_is w (PlaceOf root (Held e) part given) is = absurd is

lent_is : (w : Without) (p : TypedPlace) (need : Need) → IsArg w.c w.kinds (Lent p) need → IsHeldWell w p
lent_is w p (needs.Var sort) is = place_is w true p sort is
lent_is w p (needs.Pers sort) is = place_is w true p sort is
lent_is w p (needs.VarOrPers sort) is = place_is w true p sort is
lent_is w p (needs.Written sort) is = place_is w true p sort is
lent_is w p (needs.Place sort) is = place_is w false p sort is
lent_is w p needs.WorldZone is = place_is w true p is.0 is.2
lent_is w p needs.Array is = array_is w p is.0 is.2
lent_is w p needs.TaskList is = array_is w p sorts.Tasks is
lent_is w p needs.PersName is = name_is w p is
lent_is w p need is = absurd is

mutual
  pub expr_free : (w : Without) (own : Own) (pc : ℕ) (e : TypedExpr) (sort : Sort) (ps : List Placed) → IsExpr w.c w.kinds e sort → Free ps → Free (expr_code w.c.tree w.routine own pc e ps)
  expr_free w own pc (trees.Known at given v) sort ps is h = h
  expr_free w own pc (trees.ErrorNumber at given) sort ps is h = h
  expr_free w own pc (trees.SignalValue at given signal) sort ps is h = h
  expr_free w own pc (trees.Stored at given p) sort ps is h = held_free w own pc p (put own ops.Load ps) (place_is w false p sort is.2) h
  expr_free w own pc (trees.Group at given e) sort ps is h = expr_free w own pc e sort ps is.1 h
  expr_free w own pc (trees.Aggregate at given es) sort ps is h = exprs_free w own pc es (components given) (put own (ops.Pack given) ps) is.2 h
  expr_free w own pc (trees.Builtin at given function args) sort ps is h =
      builtin_free w own pc function args (function_needs function) ps (takes_some function (armless_need w.c (function_needs_arm function) w.none is.2)) is.3 h
  expr_free w own pc (trees.Invoke at given called args) sort ps is h = args_free w own pc args (map need_of is.1.params) (put own (ops.Call called) ps) is.5 h
  expr_free w own pc (trees.Not at given e) sort ps is h = expr_free w own pc e _ (put own (ops.Unary unary.Not) ps) is.2 h
  expr_free w own pc (trees.Signed at given minus e) sort ps is h = expr_free w own pc e _ (sign_code own minus ps) is.2 (sign_free own minus ps h)
  expr_free w own pc (trees.Chain at given e steps) sort ps is h =
      expr_free w own pc e is.1 (steps_code w.c.tree w.routine own (pc + expr_size e) steps ps) is.2 (steps_free w own (pc + expr_size e) steps is.1 sort ps is.3 h)

  exprs_free : (w : Without) (own : Own) (pc : ℕ) (es : TypedExprs) (list : List Component) (ps : List Placed) → AreComponents w.c w.kinds es list → Free ps → Free (exprs_code w.c.tree w.routine own pc es ps)
  exprs_free w own pc NoExprs list ps are h = h
  exprs_free w own pc (MoreExprs e es) [] ps are h = absurd are
  exprs_free w own pc (MoreExprs e es) (component ∷ more) ps are h =
      expr_free w own pc e component.sort (exprs_code w.c.tree w.routine own (pc + expr_size e) es ps) are.0 (exprs_free w own (pc + expr_size e) es more ps are.1 h)

  steps_free : (w : Without) (own : Own) (pc : ℕ) (steps : TypedSteps) (first sort : Sort) (ps : List Placed) → AreSteps w.c w.kinds steps first sort → Free ps → Free (steps_code w.c.tree w.routine own pc steps ps)
  steps_free w own pc NoSteps first sort ps are h = h
  steps_free w own pc (MoreSteps operators.And e steps) first sort ps are h =
      expr_free w own (pc + 1 + 1 + 1) e first (steps_code w.c.tree w.routine own (pc + 1 + 1 + 1 + expr_size e) steps ps) are.2 (steps_free w own (pc + 1 + 1 + 1 + expr_size e) steps are.0 sort ps are.3 h)
  steps_free w own pc (MoreSteps operators.Or e steps) first sort ps are h =
      expr_free w own (pc + 1 + 1 + 1) e first (steps_code w.c.tree w.routine own (pc + 1 + 1 + 1 + expr_size e) steps ps) are.2 (steps_free w own (pc + 1 + 1 + 1 + expr_size e) steps are.0 sort ps are.3 h)
  steps_free w own pc (MoreSteps o e steps) first sort ps are h =
      expr_free w own pc e first (put own (ops.Binary o) (steps_code w.c.tree w.routine own (pc + expr_size e + 1) steps ps)) are.2 (steps_free w own (pc + expr_size e + 1) steps are.0 sort ps are.3 h)

  held_free : (w : Without) (own : Own) (pc : ℕ) (p : TypedPlace) (ps : List Placed) → IsHeldWell w p → Free ps → Free (place_code w.c.tree w.routine own pc p ps)
  held_free w own pc (PlaceOf root NotHeld part given) ps is h = root_free w own root (part_code own part ps) (part_free own part ps h)
  held_free w own pc (PlaceOf root (Held e) part given) ps is h =
      let behind : List Placed = put own (index_op w.c.tree w.routine root) (part_code own part ps) in
      root_free w own root (expr_code w.c.tree w.routine own (pc + 1) e behind) (expr_free w own (pc + 1) e is.0 behind is.1 (part_free own part ps h))

  pub args_free : (w : Without) (own : Own) (pc : ℕ) (args : TypedArgs) (list : List Need) (ps : List Placed) → AreArgs w.c w.kinds args list → Free ps → Free (args_code w.c.tree w.routine own pc args ps)
  args_free w own pc NoArgs list ps are h = h
  args_free w own pc (MoreArgs arg more) [] ps are h = absurd are
  args_free w own pc (MoreArgs (Given e) more) (need ∷ others) ps are h =
      let is = given_is w e need are.0 in
      expr_free w own pc e is.0 (args_code w.c.tree w.routine own (pc + expr_size e) more ps) is.1 (args_free w own (pc + expr_size e) more others ps are.1 h)
  args_free w own pc (MoreArgs (Lent p) more) (need ∷ others) ps are h =
      held_free w own pc p (args_code w.c.tree w.routine own (pc + place_size p) more ps) (lent_is w p need are.0) (args_free w own (pc + place_size p) more others ps are.1 h)
  args_free w own pc (MoreArgs arg more) (need ∷ others) ps are h = args_free w own pc more others ps are.1 h

  builtin_free : (w : Without) (own : Own) (pc : ℕ) (function : Function) (args : TypedArgs) (list : List Need) (ps : List Placed) → (list ≡ [] → ⊥) → AreArgs w.c w.kinds args list → Free ps
      → Free (builtin_code w.c.tree w.routine own pc function args ps)
  builtin_free w own pc function NoArgs [] ps some are h = absurd (some refl)
  builtin_free w own pc function NoArgs (need ∷ others) ps some are h = absurd are
  builtin_free w own pc function (MoreArgs arg more) [] ps some are h = absurd are
  builtin_free w own pc function (MoreArgs (Given e) NoArgs) (need ∷ others) ps some are h =
      let is = given_is w e need are.0 in
      expr_free w own pc e is.0 (put own (ops.Func function) ps) is.1 h
  builtin_free w own pc function (MoreArgs (Given e) (MoreArgs (Given f) NoArgs)) (need ∷ []) ps some are h = absurd are.1
  builtin_free w own pc function (MoreArgs (Given e) (MoreArgs (Given f) NoArgs)) (need ∷ second ∷ others) ps some are h =
      let is = given_is w e need are.0 in
      let too = given_is w f second are.1.0 in
      expr_free w own pc e is.0 (expr_code w.c.tree w.routine own (pc + expr_size e) f (put own (ops.Func function) ps)) is.1
      (expr_free w own (pc + expr_size e) f too.0 (put own (ops.Func function) ps) too.1 h)
  builtin_free w own pc function (MoreArgs (OfSignal signal) NoArgs) (need ∷ others) ps some are h = signal_free own function signal ps h
  builtin_free w own pc function (MoreArgs (Lent p) NoArgs) (need ∷ others) ps some are h = held_free w own pc p (put own ops.TestSet ps) (lent_is w p need are.0) h
  builtin_free w own pc function (MoreArgs (Lent p) (MoreArgs one NoArgs)) (need ∷ others) ps some are h = h
  builtin_free w own pc function args (need ∷ others) ps some are h = h

-- the same for what is known of a place or an argument

pub place_free : (w : Without) (own : Own) (pc : ℕ) (written : Bool) (p : TypedPlace) (sort : Sort) (ps : List Placed) → IsPlace w.c w.kinds written p sort → Free ps → Free (place_code w.c.tree w.routine own pc p ps)
place_free w own pc written p sort ps is h = held_free w own pc p ps (place_is w written p sort is) h

pub given_free : (w : Without) (own : Own) (pc : ℕ) (e : TypedExpr) (need : Need) (ps : List Placed) → IsArg w.c w.kinds (Given e) need → Free ps → Free (expr_code w.c.tree w.routine own pc e ps)
given_free w own pc e need ps is h = let of = given_is w e need is in expr_free w own pc e of.0 ps of.1 h

pub lent_free : (w : Without) (own : Own) (pc : ℕ) (p : TypedPlace) (need : Need) (ps : List Placed) → IsArg w.c w.kinds (Lent p) need → Free ps → Free (place_code w.c.tree w.routine own pc p ps)
lent_free w own pc p need ps is h = held_free w own pc p ps (lent_is w p need is) h
