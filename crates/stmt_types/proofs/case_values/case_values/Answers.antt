use Rattle.std.proofs.Common.{◌≡◌, ◌∙◌, ◌+◌, List, ap, drop, map, subst, sym}
use Rattle.std.proofs.lemmas.List.{map_push}
use Rattle.raw_trees.specs.Views.{view_expr as view_raw}
use Rattle.typed_trees.specs.declared.expr.Expr.{Expr}
use Rattle.typed_trees.specs.Plain.{TypedExpr, MoreExprs}
use Rattle.typed_trees.specs.Views.{view_expr}
use Rattle.rule_checks.specs.Checks.{◌>>=◌}
use Rattle.rule_checks.specs.TypeChecks.{Checked}
use Rattle.named_data.specs.Views.{view_site}
use Rattle.stmt_types.specs.Bodies.{case_values}
use Rattle.expr_types.proofs.Loops.{behind, then_more}
use Rattle.stmt_types.proofs.Behind.{further}
use Rattle.stmt_types.proofs.Lists.{values_end, values_more}
use Rattle.stmt_types.proofs.case_values.case_values.Goals as goal

pub loop-value-preserved : goal.loop-value-preserved
loop-value-preserved c =
    let site = view_site c.args.site.now in
    let sort = c.args.sort in
    let list = c.args.values.now in
    let i = c.loop-value.value-index in
    let front = c.loop-value.done.items in
    let value = c.in_ok-typed.field-0 in
    let rest = case_values site sort (map view_raw (drop (i + 1) list)) in
    subst (λ (done : List Expr). behind MoreExprs (map view_expr done) rest ≡ case_values site sort (map view_raw list)) (sym c.in_ok-push.ensures.items)
    (ap (λ done. behind MoreExprs done rest) (map_push view_expr front value)
    ∙ further MoreExprs (map view_expr front) (view_expr value) (case_values site sort (map view_raw (drop i list))) rest _ c.loop-value.invariant
    (values_more site sort list i c.value-item.result c.loop-value-test.true c.value-item.is ∙ ap (λ (r : Checked TypedExpr). r >>= (λ t. then_more MoreExprs t rest)) c.in_ok-typed.ensures))

pub returns : goal.returns
returns c =
    let site = view_site c.args.site.now in
    sym c.loop-value.invariant ∙ values_end site c.args.sort c.args.values.now c.loop-value.value-index (map view_expr c.loop-value.done.items) c.loop-value-test.false
