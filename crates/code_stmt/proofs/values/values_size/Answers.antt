use Rattle.std.proofs.Common.{map, ap, arith}
use Rattle.stack_code.specs.Sizes.{values_size}
use Rattle.typed_trees.specs.Plain.{exprs_of}
use Rattle.typed_trees.specs.Views.{view_expr}
use Rattle.code_expr.proofs.Rows.{exprs_end, exprs_more}
use Rattle.code_stmt.proofs.values.values_size.Goals as goal

pub loop-value-preserved : goal.loop-value-preserved
unfolding values_size
loop-value-preserved c =
    let more = ap values_size (exprs_more c.deref-value-items.result.now c.loop-value.value-index c.value-item.result c.loop-value-test.true c.value-item.is) in
    omega (arith, more, c.loop-value.invariant, c.in_ok-expr_size.ensures, c.in_ok-sum.ensures, c.in_ok-size.ensures)

pub returns : goal.returns
unfolding values_size
returns c =
    let end = ap values_size (exprs_end c.deref-value-items.result.now c.loop-value.value-index c.loop-value-test.false) in
    let all = ap (λ list. values_size (exprs_of (map view_expr list))) c.deref-value-items.ensures.value in
    omega (arith, end, all, c.loop-value.invariant)
