use Rattle.std.proofs.Common.{◌∙◌, sym, ap, map, drop, take, ◌+◌}
use Rattle.typed_trees.specs.Plain.{exprs_of, steps_of}
use Rattle.typed_trees.specs.Views.{view_expr, view_step}
use Rattle.constant_meaning.specs.Constants.{along, and_more, constant_value, constant_values, elements_of, made, value_or_not_known}
use Rattle.constant_meaning.proofs.Lists.{aggregate_value, along_end, along_more, behind, chain_value, keeps, made_now, stopped, values_end, values_more}
use Rattle.constant_meaning.proofs.evaluate.+constants.Goals as goal

pub aggregate-returns-in_default : goal.aggregate-returns-in_default
aggregate-returns-in_default t c =
    let known = elements_of c.args.arrays.now in
    let front = take c.loop-component.count c.loop-component.values in
    let more = constant_values known (exprs_of (map view_expr (drop (c.loop-component.component-index + 1) c.deref-component-items.result.now))) in
    sym (stopped c.args.sort front c.constant_value.result more c.in_default.not-Value)
    ∙ ap (λ o. made c.args.sort (behind front (and_more o more))) c.constant_value.ensures
    ∙ ap (λ list. made c.args.sort (behind front list)) (sym (values_more known c.deref-component-items.result.now c.loop-component.component-index c.component-item.result c.loop-component-test.true c.component-item.is))
    ∙ c.loop-component.invariant.rest
    ∙ ap (λ list. made c.args.sort (constant_values known (exprs_of (map view_expr list)))) c.deref-component-items.ensures.value

pub aggregate-loop-component-preserved : goal.aggregate-loop-component-preserved
aggregate-loop-component-preserved t c =
    let known = elements_of c.args.arrays.now in
    let front = take c.loop-component.count c.loop-component.values in
    let more = constant_values known (exprs_of (map view_expr (drop (c.loop-component.component-index + 1) c.deref-component-items.result.now))) in
    record {
      bound = c.keep-count.ensures.bound;
      rest = keeps _ c.args.sort front _ c.in-Value.value more c.keep-count.ensures.values c.keep-count.ensures.full
          ∙ ap (λ o. made c.args.sort (behind front (and_more o more))) (sym c.in-Value.is ∙ c.constant_value.ensures)
          ∙ ap (λ list. made c.args.sort (behind front list)) (sym (values_more known c.deref-component-items.result.now c.loop-component.component-index c.component-item.result c.loop-component-test.true c.component-item.is))
          ∙ c.loop-component.invariant.rest;
    }

pub aggregate-returns : goal.aggregate-returns
aggregate-returns t c =
    let known = elements_of c.args.arrays.now in
    let front = take c.loop-component.count c.loop-component.values in
    c.value_or_not_known.ensures
    ∙ ap value_or_not_known c.record_of.ensures
    ∙ sym (made_now c.args.sort front)
    ∙ ap (λ list. made c.args.sort (behind front list)) (sym (values_end known c.deref-component-items.result.now c.loop-component.component-index c.loop-component-test.false))
    ∙ c.loop-component.invariant.rest
    ∙ ap (λ list. made c.args.sort (constant_values known (exprs_of (map view_expr list)))) c.deref-component-items.ensures.value

pub chain-loop-operator-preserved : goal.chain-loop-operator-preserved
chain-loop-operator-preserved t c =
    ap (λ left. along (elements_of c.args.arrays.now) left (steps_of (map view_step (drop (c.loop-operator.operator-index + 1) c.deref-operator-items.result.now)))) c.between-left.ensures
    ∙ sym (along_more (elements_of c.args.arrays.now) c.loop-operator.left c.deref-operator-items.result.now c.loop-operator.operator-index c.loop-operator-item.result c.loop-operator-test.true c.loop-operator-item.is)
    ∙ c.loop-operator.invariant

pub chain-returns : goal.chain-returns
chain-returns t c =
    sym (along_end (elements_of c.args.arrays.now) c.loop-operator.left c.deref-operator-items.result.now c.loop-operator.operator-index c.loop-operator-test.false)
    ∙ c.loop-operator.invariant
    ∙ ap (λ list. along (elements_of c.args.arrays.now) c.args.first (steps_of (map view_step list))) c.deref-operator-items.ensures.value

pub constant_value-returns-in-Aggregate : goal.constant_value-returns-in-Aggregate
constant_value-returns-in-Aggregate t c = c.aggregate.ensures ∙ sym (aggregate_value (elements_of c.args.arrays.now) c.args.expr.now c.in-Aggregate.components c.in-Aggregate.is)

pub constant_value-returns-in-Chain : goal.constant_value-returns-in-Chain
constant_value-returns-in-Chain t c =
    c.chain.ensures
    ∙ ap (λ left. along (elements_of c.args.arrays.now) left (steps_of (map view_step c.in-Chain.rest.items))) c.constant_value-in-Chain.ensures
    ∙ ap (λ e. along (elements_of c.args.arrays.now) (constant_value (elements_of c.args.arrays.now) (view_expr e)) (steps_of (map view_step c.in-Chain.rest.items))) c.deref-in-Chain.ensures
    ∙ sym (chain_value (elements_of c.args.arrays.now) c.args.expr.now c.in-Chain.first c.in-Chain.rest c.in-Chain.is)
