-- The plain view of expressions and places.
use Rattle.std.proofs.Common.{◌≡◌, ℕ, Option, None, Some, map, Result, IfOk, refl, ap, subst, ◌∙◌}
use Rattle.std.specs.declared.alloc.Global.{Global}
use Rattle.std.specs.declared.boxed.Box.{Box}
use Rattle.std.specs.declared.vec.Vec.{Vec}
use Rattle.rapid_model.specs.declared.operator.Operator.{Operator}
use Rattle.rapid_model.specs.declared.function.Function.{Function}
use Rattle.typed_trees.specs.Plain as trees
use Rattle.typed_trees.specs.Plain.{TypedHeld, Held, NotHeld, PlaceOf, args_of, exprs_of, steps_of}
use Rattle.typed_trees.specs.Views.{view_arg, view_expr, view_form, view_place, view_step}
use Rattle.typed_trees.specs.declared.expr.Arg.{Arg}
use Rattle.typed_trees.specs.declared.expr.Expr.{Expr}
use Rattle.typed_trees.specs.declared.expr.ExprForm.{ExprForm, Aggregate, Builtin, Call, Chain}
use Rattle.typed_trees.specs.declared.expr.TreePlace.{TreePlace, TreePlace', TreePlace-index-None', TreePlace-index-Some', out-TreePlace}
use Rattle.typed_trees.proofs.Rows.{aggregate_view, builtin_view, chain_view, invoke_view}

pub aggregate_form : (e : Expr) (values : Vec Expr Global) → e.form ≡ Aggregate values → view_expr e ≡ trees.Aggregate e.at e.sort (exprs_of (map view_expr values.items))
aggregate_form e values is = ap (view_form e.at e.sort) is ∙ aggregate_view e.at e.sort values

pub builtin_form : (e : Expr) (function : Function) (args : Vec Arg Global) → e.form ≡ Builtin function args → view_expr e ≡ trees.Builtin e.at e.sort function (args_of (map view_arg args.items))
builtin_form e function args is = ap (view_form e.at e.sort) is ∙ builtin_view e.at e.sort function args

pub invoke_form : (e : Expr) (routine : ℕ) (args : Vec Arg Global) → e.form ≡ Call routine args → view_expr e ≡ trees.Invoke e.at e.sort routine (args_of (map view_arg args.items))
invoke_form e routine args is = ap (view_form e.at e.sort) is ∙ invoke_view e.at e.sort routine args

pub chain_form : (e : Expr) (first : Box Expr Global) (rest : Vec (Operator × Expr) Global) → e.form ≡ Chain first rest → view_expr e ≡ trees.Chain e.at e.sort (view_expr first.value) (steps_of (map view_step rest.items))
chain_form e first rest is = ap (view_form e.at e.sort) is ∙ chain_view e.at e.sort first rest

-- the same number in other words
pub gives_as : {E : Type 0} (r : Result ℕ E) (m n : ℕ) → m ≡ n → IfOk r (λ k. k ≡ m) → IfOk r (λ k. k ≡ n)
gives_as r m n is h = subst (λ k. IfOk r (λ j. j ≡ k)) is h

-- the index of a place
abbrev pub held_in : Option (Box Expr Global) → TypedHeld
held_in None = NotHeld
held_in (Some index) = Held (view_expr index.value)

pub place_form : (p : TreePlace) → let place = out-TreePlace p in view_place p ≡ PlaceOf place.root (held_in place.index) place.part place.sort
unfolding out-TreePlace denote.Hole.Carrier.out
place_form (TreePlace' root TreePlace-index-None' part sort) = refl
place_form (TreePlace' root (TreePlace-index-Some' pointer begin kind form) part sort) = refl

pub form_is : (e : Expr) (form : ExprForm) → e.form ≡ form → view_expr e ≡ view_form e.at e.sort form
form_is e form is = ap (view_form e.at e.sort) is
