-- Calls of predefined functions, by the forms of their arguments.
use Rattle.std.proofs.Common.{◌≡◌, ℕ, ◌+◌, ◌≤◌, List, [], ◌∷◌, length, map, refl, arith}
use Rattle.std.specs.Option.{unwrap_or}
use Rattle.rapid_model.specs.declared.function.Function.{Function}
use Rattle.rapid_meaning.specs.Layouts.{length_at}
use Rattle.stack_code.specs.ExprLayouts.{args_code, builtin_code, put, signal_code}
use Rattle.stack_code.specs.Needs.{args_need, builtin_need, signal_need}
use Rattle.stack_code.specs.Pieces.{push}
use Rattle.stack_code.specs.Placed.{Own, Placed}
use Rattle.stack_code.specs.Sizes.{args_size, builtin_size, signal_size}
use Rattle.stack_code.specs.declared.op.Op.TheVariants as ops
use Rattle.typed_trees.specs.Plain.{TypedArg, TypedArgs, TypedRoutine, TypedTree, Given, Lent, OfSignal, OfMeeting, Itself, Optional, PlaceOf, MoreArgs, NoArgs, args_of}
use Rattle.typed_trees.specs.Views.{view_arg}
use Rattle.typed_trees.specs.declared.expr.Arg.{Arg}
use Rattle.stack_code.proofs.Needs.{expr_needs, place_needs}
use Rattle.code_expr.specs.BuiltinForms.{form_of}
use Rattle.code_expr.specs.declared.builtin_form.BuiltinForm.{BuiltinForm}
use Rattle.code_expr.specs.declared.builtin_form.BuiltinForm.TheVariants.{Nothing, Values, Signal, Place, Array, Other}

-- three or more
many_form : (a b c : TypedArg) (more : TypedArgs) → form_of (MoreArgs a (MoreArgs b (MoreArgs c more))) ≡ Other
many_form (Given e) (Given f) c more = refl
many_form (Given e) b c more = refl
many_form (Lent (PlaceOf root index part sort)) b c more = refl
many_form a b c more = refl

pub many_args : (list : List Arg) → 3 ≤ length list → form_of (args_of (map view_arg list)) ≡ Other
many_args [] count = absurd (omega (arith, count))
many_args (x ∷ []) count = absurd (omega (arith, count))
many_args (x ∷ y ∷ []) count = absurd (omega (arith, count))
many_args (x ∷ y ∷ z ∷ list) count = many_form (view_arg x) (view_arg y) (view_arg z) (args_of (map view_arg list))

-- the number of operations of a call, by that of its arguments
abbrev pub size_in : Function → BuiltinForm → ℕ → ℕ
size_in function Nothing size = 1
size_in function Values size = size + 1
size_in function (Signal signal) size = signal_size function
size_in function Place size = size + 1
size_in function (Array root) size = 1
size_in function Other size = 0

pub size_by_form : (function : Function) (args : TypedArgs) → builtin_size function args ≡ size_in function (form_of args) (args_size args)
size_by_form function NoArgs = refl
size_by_form function (MoreArgs (Given e) NoArgs) = omega arith
size_by_form function (MoreArgs (Given e) (MoreArgs (Given f) NoArgs)) = omega arith
size_by_form function (MoreArgs (OfSignal signal) NoArgs) = refl
size_by_form function (MoreArgs (Lent p) NoArgs) = omega arith
size_by_form function (MoreArgs (Lent (PlaceOf root index part sort)) (MoreArgs one NoArgs)) = refl
size_by_form function other = refl

-- its code, before what follows it
abbrev pub code_in : TypedTree → TypedRoutine → Own → Function → BuiltinForm → (List Placed → List Placed) → List Placed → List Placed
code_in tree routine own function Nothing args ps = put own ops.Here ps
code_in tree routine own function Values args ps = args (put own (ops.Func function) ps)
code_in tree routine own function (Signal signal) args ps = signal_code own function signal ps
code_in tree routine own function Place args ps = args (put own ops.TestSet ps)
code_in tree routine own function (Array root) args ps = put own (push (unwrap_or (length_at tree routine root) 0)) ps
code_in tree routine own function Other args ps = ps

pub code_by_form : (tree : TypedTree) (routine : TypedRoutine) (own : Own) (pc : ℕ) (function : Function) (args : TypedArgs) (ps : List Placed) →
    builtin_code tree routine own pc function args ps ≡ code_in tree routine own function (form_of args) (args_code tree routine own pc args) ps
code_by_form tree routine own pc function NoArgs ps = refl
code_by_form tree routine own pc function (MoreArgs (Given e) NoArgs) ps = refl
code_by_form tree routine own pc function (MoreArgs (Given e) (MoreArgs (Given f) NoArgs)) ps = refl
code_by_form tree routine own pc function (MoreArgs (OfSignal signal) NoArgs) ps = refl
code_by_form tree routine own pc function (MoreArgs (Lent p) NoArgs) ps = refl
code_by_form tree routine own pc function (MoreArgs (Lent (PlaceOf root index part sort)) (MoreArgs one NoArgs)) ps = refl
code_by_form tree routine own pc function other ps = refl

-- the operands that a call needs, by those that its arguments need
abbrev pub need_in : Function → BuiltinForm → ℕ → ℕ
need_in function Values need = need
need_in function (Signal signal) need = signal_need function
need_in function Place need = need
need_in function form need = 1

pub need_by_form : (function : Function) (args : TypedArgs) → builtin_need function args ≡ need_in function (form_of args) (args_need args)
need_by_form function NoArgs = refl
need_by_form function (MoreArgs (Given e) NoArgs) = omega (arith, expr_needs e)
need_by_form function (MoreArgs (Given e) (MoreArgs (Given f) NoArgs)) = omega (arith, expr_needs f)
need_by_form function (MoreArgs (OfSignal signal) NoArgs) = refl
need_by_form function (MoreArgs (Lent p) NoArgs) = omega (arith, place_needs p)
need_by_form function (MoreArgs (Lent (PlaceOf root index part sort)) (MoreArgs one NoArgs)) = refl
need_by_form function other = refl
