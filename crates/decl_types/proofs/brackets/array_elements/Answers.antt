use Rattle.std.proofs.Common.{◌∙◌, ◌+◌, map, drop, Ok, sym, ap}
use Rattle.std.proofs.lemmas.List.{map_push}
use Rattle.raw_trees.specs.Plain.{exprs_of}
use Rattle.raw_trees.specs.Views.{view_expr as view_raw}
use Rattle.typed_trees.specs.Plain.{MoreExprs}
use Rattle.typed_trees.specs.Views.{view_expr}
use Rattle.rule_checks.specs.Checks.{◌>>=◌}
use Rattle.named_data.specs.Views.{view_site}
use Rattle.decl_types.specs.Values.{array_elements}
use Rattle.expr_types.proofs.Loops.{all_exprs, behind, goes_on, then_more}
use Rattle.decl_types.proofs.Elements.{elements_end, elements_more}
use Rattle.decl_types.proofs.brackets.array_elements.Goals as goal

pub loop-element-preserved : goal.loop-element-preserved
loop-element-preserved c =
    let site = view_site c.args.site.now in
    let front = map view_expr c.loop-element.trees.items in
    let more = array_elements site c.args.sort (exprs_of (map view_raw (drop (c.loop-element.element-index + 1) c.args.elements.now))) in
    ap (λ trees. behind MoreExprs (map view_expr trees) more) c.in_ok-push.ensures.items
    ∙ ap (λ trees. behind MoreExprs trees more) (map_push view_expr c.loop-element.trees.items c.in_ok-tree.tree)
    ∙ sym (goes_on MoreExprs front (view_expr c.in_ok-tree.tree) more)
    ∙ ap (λ checked. behind MoreExprs front (checked >>= (λ t. then_more MoreExprs t more))) (sym c.in_ok-tree.ensures)
    ∙ ap (behind MoreExprs front) (sym (elements_more site c.args.sort c.args.elements.now c.loop-element.element-index c.element-item.result c.loop-element-test.true c.element-item.is))
    ∙ c.loop-element.invariant

pub returns : goal.returns
returns c =
    let site = view_site c.args.site.now in
    let front = map view_expr c.loop-element.trees.items in
    sym c.loop-element.invariant
    ∙ ap (behind MoreExprs front) (elements_end site c.args.sort c.args.elements.now c.loop-element.element-index c.loop-element-test.false)
    ∙ ap Ok (all_exprs front)
