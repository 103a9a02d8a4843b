-- The rest of a list of children, from one on.
use Rattle.std.proofs.Common.{◌≡◌, ℕ, ◌+◌, ◌<◌, ◌≤◌, List, length, get_or, map, drop, sym, ap, ◌∙◌}
use Rattle.std.proofs.lemmas.List.{at_drop_all, at_drop_more}
use Rattle.rapid_model.specs.declared.operator.Operator.{Operator}
use Rattle.typed_trees.specs.Plain.{TypedArgs, TypedExprs, TypedSteps, MoreArgs, MoreExprs, MoreSteps, NoArgs, NoExprs, NoSteps, args_of, exprs_of, steps_of}
use Rattle.typed_trees.specs.Views.{view_arg, view_expr, view_step}
use Rattle.typed_trees.specs.declared.expr.Arg.{Arg}
use Rattle.typed_trees.specs.declared.expr.Expr.{Expr}

abbrev pub exprs_from : ℕ → List Expr → TypedExprs
exprs_from i list = exprs_of (map view_expr (drop i list))

abbrev pub steps_from : ℕ → List (Operator × Expr) → TypedSteps
steps_from i list = steps_of (map view_step (drop i list))

abbrev pub args_from : ℕ → List Arg → TypedArgs
args_from i list = args_of (map view_arg (drop i list))

pub exprs_more : (list : List Expr) (i : ℕ) (e : Expr) → i < length list → e ≡ get_or list i e → exprs_from i list ≡ MoreExprs (view_expr e) (exprs_from (i + 1) list)
exprs_more list i e lt is =
    at_drop_more (λ left. exprs_of (map view_expr left)) list i e lt ∙ ap (λ x. MoreExprs (view_expr x) (exprs_from (i + 1) list)) (sym is)

pub exprs_end : (list : List Expr) (i : ℕ) → length list ≤ i → exprs_from i list ≡ NoExprs
exprs_end list i le = at_drop_all (λ left. exprs_of (map view_expr left)) list i le

pub steps_more : (list : List (Operator × Expr)) (i : ℕ) (s : Operator × Expr) → i < length list → s ≡ get_or list i s → steps_from i list ≡ MoreSteps s.0 (view_expr s.1) (steps_from (i + 1) list)
steps_more list i s lt is =
    at_drop_more (λ left. steps_of (map view_step left)) list i s lt ∙ ap (λ x. MoreSteps x.0 (view_expr x.1) (steps_from (i + 1) list)) (sym is)

pub steps_end : (list : List (Operator × Expr)) (i : ℕ) → length list ≤ i → steps_from i list ≡ NoSteps
steps_end list i le = at_drop_all (λ left. steps_of (map view_step left)) list i le

pub args_more : (list : List Arg) (i : ℕ) (a : Arg) → i < length list → a ≡ get_or list i a → args_from i list ≡ MoreArgs (view_arg a) (args_from (i + 1) list)
args_more list i a lt is =
    at_drop_more (λ left. args_of (map view_arg left)) list i a lt ∙ ap (λ x. MoreArgs (view_arg x) (args_from (i + 1) list)) (sym is)

pub args_end : (list : List Arg) (i : ℕ) → length list ≤ i → args_from i list ≡ NoArgs
args_end list i le = at_drop_all (λ left. args_of (map view_arg left)) list i le
