use Rattle.std.proofs.Common.{◌∙◌, ◌&&◌, sym, ap, map, drop, ◌+◌}
use Rattle.typed_trees.specs.Plain.{exprs_of, steps_of}
use Rattle.typed_trees.specs.Views.{view_expr, view_step}
use Rattle.constant_meaning.specs.Constants.{are_constant, are_constant_steps, elements_of, is_constant}
use Rattle.constant_meaning.proofs.Lists.{constant_aggregate, constant_chain, constant_end, constant_more, constant_steps_end, constant_steps_more}
use Rattle.constant_meaning.proofs.evaluate.+constants_only.Goals as goal

pub are_constant-returns-then-not-is_constant : goal.are_constant-returns-then-not-is_constant
are_constant-returns-then-not-is_constant t c =
    ap (λ b. b && are_constant (elements_of c.args.arrays.now) (exprs_of (map view_expr (drop (c.loop-component.component-index + 1) c.deref-component-items.result.now)))) (sym c.if-not-is_constant.true ∙ c.is_constant.ensures)
    ∙ sym (constant_more (elements_of c.args.arrays.now) c.deref-component-items.result.now c.loop-component.component-index c.component-item.result c.loop-component-test.true c.component-item.is)
    ∙ c.loop-component.invariant
    ∙ ap (λ list. are_constant (elements_of c.args.arrays.now) (exprs_of (map view_expr list))) c.deref-component-items.ensures.value

pub are_constant-loop-component-preserved : goal.are_constant-loop-component-preserved
are_constant-loop-component-preserved t c =
    ap (λ b. b && are_constant (elements_of c.args.arrays.now) (exprs_of (map view_expr (drop (c.loop-component.component-index + 1) c.deref-component-items.result.now)))) (sym c.if-not-is_constant.false ∙ c.is_constant.ensures)
    ∙ sym (constant_more (elements_of c.args.arrays.now) c.deref-component-items.result.now c.loop-component.component-index c.component-item.result c.loop-component-test.true c.component-item.is)
    ∙ c.loop-component.invariant

pub are_constant-returns : goal.are_constant-returns
are_constant-returns t c =
    sym (constant_end (elements_of c.args.arrays.now) c.deref-component-items.result.now c.loop-component.component-index c.loop-component-test.false)
    ∙ c.loop-component.invariant
    ∙ ap (λ list. are_constant (elements_of c.args.arrays.now) (exprs_of (map view_expr list))) c.deref-component-items.ensures.value

pub are_constant_steps-returns-then-not-is_constant :
    goal.are_constant_steps-returns-then-not-is_constant
are_constant_steps-returns-then-not-is_constant t c =
    ap (λ b. b && are_constant_steps (elements_of c.args.arrays.now) (steps_of (map view_step (drop (c.loop-right.right-index + 1) c.deref-right-items.result.now)))) (sym c.if-not-is_constant.true ∙ c.is_constant.ensures)
    ∙ sym (constant_steps_more (elements_of c.args.arrays.now) c.deref-right-items.result.now c.loop-right.right-index c.loop-right-item.result c.loop-right-test.true c.loop-right-item.is)
    ∙ c.loop-right.invariant
    ∙ ap (λ list. are_constant_steps (elements_of c.args.arrays.now) (steps_of (map view_step list))) c.deref-right-items.ensures.value

pub are_constant_steps-loop-right-preserved : goal.are_constant_steps-loop-right-preserved
are_constant_steps-loop-right-preserved t c =
    ap (λ b. b && are_constant_steps (elements_of c.args.arrays.now) (steps_of (map view_step (drop (c.loop-right.right-index + 1) c.deref-right-items.result.now)))) (sym c.if-not-is_constant.false ∙ c.is_constant.ensures)
    ∙ sym (constant_steps_more (elements_of c.args.arrays.now) c.deref-right-items.result.now c.loop-right.right-index c.loop-right-item.result c.loop-right-test.true c.loop-right-item.is)
    ∙ c.loop-right.invariant

pub are_constant_steps-returns : goal.are_constant_steps-returns
are_constant_steps-returns t c =
    sym (constant_steps_end (elements_of c.args.arrays.now) c.deref-right-items.result.now c.loop-right.right-index c.loop-right-test.false)
    ∙ c.loop-right.invariant
    ∙ ap (λ list. are_constant_steps (elements_of c.args.arrays.now) (steps_of (map view_step list))) c.deref-right-items.ensures.value

pub is_constant-returns-in-Aggregate : goal.is_constant-returns-in-Aggregate
is_constant-returns-in-Aggregate t c = c.are_constant.ensures ∙ sym (constant_aggregate (elements_of c.args.arrays.now) c.args.expr.now c.in-Aggregate.components c.in-Aggregate.is)

pub is_constant-returns-then-is_constant : goal.is_constant-returns-then-is_constant
is_constant-returns-then-is_constant t c =
    let steps = are_constant_steps (elements_of c.args.arrays.now) (steps_of (map view_step c.in-Chain.rest.items)) in
    c.are_constant_steps.ensures
    ∙ ap (λ b. b && steps) (sym c.if-is_constant.true ∙ c.is_constant-in-Chain.ensures ∙ ap (λ e. is_constant (elements_of c.args.arrays.now) (view_expr e)) c.deref-in-Chain.ensures)
    ∙ sym (constant_chain (elements_of c.args.arrays.now) c.args.expr.now c.in-Chain.first c.in-Chain.rest c.in-Chain.is)
