-- The leaves of expressions, appended to a block.
use Rattle.std.proofs.Common.{◌≡◌, ℕ, ◌+◌, Bool, true, List, Option, refl, sym, ap, subst, ◌∙◌, arith}
use Rattle.std.specs.declared.alloc.Global.{Global}
use Rattle.std.specs.declared.boxed.Box.{Box}
use Rattle.rapid_model.specs.declared.function.Function.{Function}
use Rattle.rapid_model.specs.declared.function.Function.TheVariants as functions
use Rattle.rapid_model.specs.declared.part_name.PartName.{PartName}
use Rattle.rapid_model.specs.declared.part_name.PartName.TheVariants as parts
use Rattle.rapid_model.specs.declared.operator.Operator.{Operator}
use Rattle.rapid_model.specs.declared.operator.Operator.TheVariants as operators
use Rattle.stack_code.specs.ExprLayouts.{args_code, builtin_code, expr_code, part_code, place_code, put, sign_code, signal_code, steps_code}
use Rattle.stack_code.specs.Placed.{Own, Placed}
use Rattle.stack_code.specs.Sizes.{args_size, builtin_size, expr_size, part_size, place_size, sign_size, signal_size, steps_size}
use Rattle.stack_code.specs.declared.op.Op.{Op}
use Rattle.stack_code.specs.declared.op.Op.TheVariants as ops
use Rattle.stack_code.specs.declared.unary_op.UnaryOp.TheVariants as unary
use Rattle.typed_trees.specs.Plain.{TypedArg, TypedArgs, TypedExpr, TypedRoutine, TypedTree, MoreArgs, MoreSteps, NoArgs, NoSteps, PlaceOf}
use Rattle.typed_trees.specs.Views.{view_place}
use Rattle.typed_trees.specs.declared.expr.Expr.{Expr}
use Rattle.typed_trees.specs.declared.expr.TreePlace.{TreePlace, out-TreePlace}
use Rattle.code_expr.specs.BuiltinForms.{form_of}
use Rattle.code_expr.specs.Follows.{Follows}
use Rattle.code_expr.specs.declared.builtin_form.BuiltinForm.{BuiltinForm}
use Rattle.code_expr.proofs.Builtins.{code_by_form, code_in, size_by_form, size_in}
use Rattle.code_expr.proofs.Follow.{follows_as, follows_then}
use Rattle.code_expr.proofs.Forms.{held_in, place_form}

-- the same operation
pub put_as : {X : Type 0} {a b : List Placed → X} {i j : ℕ} {own : Own} {op other : Op} → op ≡ other → Follows a b i j 1 (λ pc ps. put own op ps) → Follows a b i j 1 (λ pc ps. put own other ps)
put_as {a = a} {b = b} {i = i} {j = j} {own = own} is h = subst (λ o. Follows a b i j 1 (λ pc ps. put own o ps)) is h

pub part_laid : {X : Type 0} {a b : List Placed → X} {i j : ℕ} (own : Own) (part : PartName) → (part ≡ parts.Whole → ⊥) → Follows a b i j 1 (λ pc ps. put own (ops.Part part) ps) → Follows a b i j (part_size part) (λ pc ps. part_code own part ps)
part_laid own parts.Whole differs h = absurd (differs refl)
part_laid own part differs h = h

pub sign_laid : {X : Type 0} {a b : List Placed → X} {i j : ℕ} (own : Own) (minus : Bool) → minus ≡ true → Follows a b i j 1 (λ pc ps. put own (ops.Unary unary.Minus) ps) → Follows a b i j (sign_size minus) (λ pc ps. sign_code own minus ps)
sign_laid {a = a} {b = b} {i = i} {j = j} own minus is h = subst (λ m. Follows a b i j (sign_size m) (λ pc ps. sign_code own m ps)) (sym is) h

pub input_laid : {X : Type 0} {a b : List Placed → X} {i j : ℕ} (own : Own) (function : Function) (signal : ℕ) → function ≡ functions.TestDI →
    Follows a b i j 3 (λ pc ps. signal_code own functions.TestDI signal ps) → Follows a b i j (signal_size function) (λ pc ps. signal_code own function signal ps)
input_laid {a = a} {b = b} {i = i} {j = j} own function signal is h = subst (λ f. Follows a b i j (signal_size f) (λ pc ps. signal_code own f signal ps)) (sym is) h

pub signal_laid : {X : Type 0} {a b : List Placed → X} {i j : ℕ} (own : Own) (function : Function) (signal : ℕ) → (function ≡ functions.TestDI → ⊥) →
    Follows a b i j 1 (λ pc ps. put own (ops.GetSignal signal) ps) → Follows a b i j (signal_size function) (λ pc ps. signal_code own function signal ps)
signal_laid own functions.TestDI signal differs h = absurd (differs refl)
signal_laid own function signal differs h = h

-- the same expression
pub expr_laid : {X : Type 0} {a b : List Placed → X} {i j : ℕ} (tree : TypedTree) (routine : TypedRoutine) (own : Own) (view e : TypedExpr) → view ≡ e →
    Follows a b i j (expr_size e) (λ pc ps. expr_code tree routine own pc e ps) → Follows a b i j (expr_size view) (λ pc ps. expr_code tree routine own pc view ps)
expr_laid {a = a} {b = b} {i = i} {j = j} tree routine own view e is h = subst (λ t. Follows a b i j (expr_size t) (λ pc ps. expr_code tree routine own pc t ps)) (sym is) h

-- the same argument
pub arg_laid : {X : Type 0} {a b : List Placed → X} {i j : ℕ} (tree : TypedTree) (routine : TypedRoutine) (own : Own) (view arg : TypedArg) → view ≡ arg →
    Follows a b i j (args_size (MoreArgs arg NoArgs)) (λ pc ps. args_code tree routine own pc (MoreArgs arg NoArgs) ps) → Follows a b i j (args_size (MoreArgs view NoArgs)) (λ pc ps. args_code tree routine own pc (MoreArgs view NoArgs) ps)
arg_laid {a = a} {b = b} {i = i} {j = j} tree routine own view arg is h = subst (λ t. Follows a b i j (args_size (MoreArgs t NoArgs)) (λ pc ps. args_code tree routine own pc (MoreArgs t NoArgs) ps)) (sym is) h

-- an operator and its right operand, which AND and OR skip
pub and_laid : {X : Type 0} {a b d : List Placed → X} {i j k : ℕ} (tree : TypedTree) (routine : TypedRoutine) (own : Own) (operator : Operator) (e : TypedExpr) (past : ℕ) → operator ≡ operators.And → past ≡ i + (3 + expr_size e) →
    Follows a d i k 3 (λ pc ps. put own ops.Dup (put own (ops.JumpFalse past) (put own ops.Drop ps))) → Follows d b k j (expr_size e) (λ pc ps. expr_code tree routine own pc e ps) →
    Follows a b i j (steps_size (MoreSteps operator e NoSteps)) (λ pc ps. steps_code tree routine own pc (MoreSteps operator e NoSteps) ps)
and_laid {a = a} {b = b} {i = i} {j = j} tree routine own operator e past is place skip laid =
    let there : past ≡ i + 1 + 1 + 1 + expr_size e = omega (arith, place) in
    subst (λ o. Follows a b i j (steps_size (MoreSteps o e NoSteps)) (λ pc ps. steps_code tree routine own pc (MoreSteps o e NoSteps) ps)) (sym is)
    (follows_as _ _ (follows_then skip laid) (omega arith) (λ ps.
    ap (λ to. put own ops.Dup (put own (ops.JumpFalse to) (put own ops.Drop (expr_code tree routine own (i + 3) e ps)))) there
    ∙ ap (λ pc. put own ops.Dup (put own (ops.JumpFalse (i + 1 + 1 + 1 + expr_size e)) (put own ops.Drop (expr_code tree routine own pc e ps)))) (omega arith)))

pub or_laid : {X : Type 0} {a b d : List Placed → X} {i j k : ℕ} (tree : TypedTree) (routine : TypedRoutine) (own : Own) (operator : Operator) (e : TypedExpr) (past : ℕ) → operator ≡ operators.Or → past ≡ i + (3 + expr_size e) →
    Follows a d i k 3 (λ pc ps. put own ops.Dup (put own (ops.JumpTrue past) (put own ops.Drop ps))) → Follows d b k j (expr_size e) (λ pc ps. expr_code tree routine own pc e ps) →
    Follows a b i j (steps_size (MoreSteps operator e NoSteps)) (λ pc ps. steps_code tree routine own pc (MoreSteps operator e NoSteps) ps)
or_laid {a = a} {b = b} {i = i} {j = j} tree routine own operator e past is place skip laid =
    let there : past ≡ i + 1 + 1 + 1 + expr_size e = omega (arith, place) in
    subst (λ o. Follows a b i j (steps_size (MoreSteps o e NoSteps)) (λ pc ps. steps_code tree routine own pc (MoreSteps o e NoSteps) ps)) (sym is)
    (follows_as _ _ (follows_then skip laid) (omega arith) (λ ps.
    ap (λ to. put own ops.Dup (put own (ops.JumpTrue to) (put own ops.Drop (expr_code tree routine own (i + 3) e ps)))) there
    ∙ ap (λ pc. put own ops.Dup (put own (ops.JumpTrue (i + 1 + 1 + 1 + expr_size e)) (put own ops.Drop (expr_code tree routine own pc e ps)))) (omega arith)))

pub operator_laid : {X : Type 0} {a b d : List Placed → X} {i j k : ℕ} (tree : TypedTree) (routine : TypedRoutine) (own : Own) (operator : Operator) (e : TypedExpr) → (operator ≡ operators.And → ⊥) → (operator ≡ operators.Or → ⊥) →
    Follows a d i k (expr_size e) (λ pc ps. expr_code tree routine own pc e ps) → Follows d b k j 1 (λ pc ps. put own (ops.Binary operator) ps) →
    Follows a b i j (steps_size (MoreSteps operator e NoSteps)) (λ pc ps. steps_code tree routine own pc (MoreSteps operator e NoSteps) ps)
operator_laid tree routine own operators.And e other another laid op = absurd (other refl)
operator_laid tree routine own operators.Or e other another laid op = absurd (another refl)
operator_laid tree routine own operator e other another laid op = follows_as _ _ (follows_then laid op) (omega arith) (λ ps. refl)

-- a call of a predefined function, by the form of its arguments
pub builtin_laid : {X : Type 0} {a b : List Placed → X} {i j : ℕ} (tree : TypedTree) (routine : TypedRoutine) (own : Own) (function : Function) (args : TypedArgs) (form : BuiltinForm) → form ≡ form_of args →
    Follows a b i j (size_in function form (args_size args)) (λ pc ps. code_in tree routine own function form (args_code tree routine own pc args) ps) →
    Follows a b i j (builtin_size function args) (λ pc ps. builtin_code tree routine own pc function args ps)
builtin_laid {i = i} tree routine own function args form is h = follows_as _ _ h
    (ap (λ f. size_in function f (args_size args)) is ∙ sym (size_by_form function args))
    (λ ps. ap (λ f. code_in tree routine own function f (args_code tree routine own i args) ps) is ∙ sym (code_by_form tree routine own i function args ps))

-- a place, by its index if it has one
pub place_laid : {X : Type 0} {a b : List Placed → X} {i j : ℕ} (tree : TypedTree) (routine : TypedRoutine) (own : Own) (p : TreePlace) (index : Option (Box Expr Global)) → (out-TreePlace p).index ≡ index →
    let place = out-TreePlace p in let q = PlaceOf place.root (held_in index) place.part place.sort in
    Follows a b i j (place_size q) (λ pc ps. place_code tree routine own pc q ps) → Follows a b i j (place_size (view_place p)) (λ pc ps. place_code tree routine own pc (view_place p) ps)
place_laid {a = a} {b = b} {i = i} {j = j} tree routine own p index is h =
    let place = out-TreePlace p in
    subst (λ t. Follows a b i j (place_size t) (λ pc ps. place_code tree routine own pc t ps))
    (ap (λ held. PlaceOf place.root (held_in held) place.part place.sort) (sym is) ∙ sym (place_form p)) h
