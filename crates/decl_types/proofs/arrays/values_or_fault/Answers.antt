use Rattle.std.proofs.Common.{◌∙◌, ◌+◌, map, drop, sym, ap, subst}
use Rattle.std.proofs.lemmas.Result.{err_from_is_err_and}
use Rattle.std.specs.List.{list_all}
use Rattle.typed_trees.specs.Plain.{exprs_of}
use Rattle.typed_trees.specs.Views.{view_expr}
use Rattle.constant_meaning.specs.Constants.{and_more, constant_values, elements_of}
use Rattle.constant_meaning.proofs.Lists.{behind, kept, values_end, values_more}
use Rattle.rule_checks.specs.TypeChecks.{Fails}
use Rattle.data_scopes.proofs.All.{all_more}
use Rattle.rapid_model.specs.Sorts.{is_value_of}
use Rattle.named_data.specs.Views.{view_site}
use Rattle.decl_types.specs.Values.{values_or_fault}
use Rattle.decl_types.proofs.Elements.{all_found, found, stops_at}
use Rattle.decl_types.proofs.arrays.values_or_fault.Goals as goal

pub returns-in_err-value : goal.returns-in_err-value
returns-in_err-value c =
    let site = view_site c.args.site.now in
    let known = elements_of c.args.known.now in
    let front = c.loop-element.values.items in
    let more = constant_values known (exprs_of (map view_expr (drop (c.loop-element.element-index + 1) c.args.elements.now))) in
    let same =
    ap (λ o. values_or_fault site c.args.at c.args.sort (behind front (and_more o more))) c.constant_value.ensures
    ∙ ap (λ os. values_or_fault site c.args.at c.args.sort (behind front os)) (sym (values_more known c.args.elements.now c.loop-element.element-index c.element-item.result c.loop-element-test.true c.element-item.is))
    ∙ c.loop-element.invariant.rest in
    let stops = subst (Fails c.in_err-value.field-0.0) same (stops_at site c.args.at c.args.sort front c.constant_value.result more _ c.in_err-value.ensures) in
    let p = err_from_is_err_and c.from_residual-in_err-value.result c.from_residual-in_err-value.ensures.1 in
    rw (p.1, p.2) stops

pub loop-element-preserved : goal.loop-element-preserved
loop-element-preserved c =
    let site = view_site c.args.site.now in
    let known = elements_of c.args.known.now in
    let front = c.loop-element.values.items in
    let more = constant_values known (exprs_of (map view_expr (drop (c.loop-element.element-index + 1) c.args.elements.now))) in
    let one = found site c.args.at c.args.sort c.in_ok-value.value c.constant_value.result c.in_ok-value.ensures in
    record {
      fit = ap (list_all (is_value_of c.args.sort)) c.in_ok-push.ensures.items ∙ all_more (is_value_of c.args.sort) front c.in_ok-value.value c.loop-element.invariant.fit one.fits;
      rest = ap (λ vs. values_or_fault site c.args.at c.args.sort (behind vs more)) c.in_ok-push.ensures.items
          ∙ ap (values_or_fault site c.args.at c.args.sort) (sym (kept front c.in_ok-value.value more))
          ∙ ap (λ o. values_or_fault site c.args.at c.args.sort (behind front (and_more o more))) (sym one.is ∙ c.constant_value.ensures)
          ∙ ap (λ os. values_or_fault site c.args.at c.args.sort (behind front os)) (sym (values_more known c.args.elements.now c.loop-element.element-index c.element-item.result c.loop-element-test.true c.element-item.is))
          ∙ c.loop-element.invariant.rest;
    }

pub returns : goal.returns
returns c =
    let site = view_site c.args.site.now in
    let known = elements_of c.args.known.now in
    let front = c.loop-element.values.items in
    sym c.loop-element.invariant.rest
    ∙ ap (λ os. values_or_fault site c.args.at c.args.sort (behind front os)) (values_end known c.args.elements.now c.loop-element.element-index c.loop-element-test.false)
    ∙ all_found site c.args.at c.args.sort front c.loop-element.invariant.fit
