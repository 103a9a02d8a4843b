use Rattle.std.proofs.Common.{◌+◌, map, subst}
use Rattle.stack_code.specs.Sizes.{values_size}
use Rattle.stack_code.specs.StmtLayouts.{values_code}
use Rattle.typed_trees.specs.Plain.{exprs_of}
use Rattle.typed_trees.specs.Views.{view_expr}
use Rattle.code_expr.specs.Adds.{Adds}
use Rattle.code_expr.specs.Contexts.{routine_of, tree_of}
use Rattle.code_expr.proofs.Follow.{left_done}
use Rattle.code_expr.proofs.Rows.{exprs_end, exprs_from, exprs_more}
use Rattle.code_stmt.proofs.ValueLists.{LeftValues, one_value_more}
use Rattle.code_stmt.proofs.values.add_values.Goals as goal

pub loop-value-preserved : goal.loop-value-preserved
loop-value-preserved c = λ own.
    let at = c.args.context.now in
    let list = c.deref-value-items.result.now in
    let i = c.loop-value.value-index in
    let more = exprs_more list i c.value-item.result c.loop-value-test.true c.value-item.is in
    one_value_more own at c.args.list c.args.code.now c.loop-value.code c.put.new.self c.add_expr.new.code c.put-in-loop-value.new.self c.put-in-loop-value-2.new.self (exprs_from 0 list) (exprs_from (i + 1) list) (view_expr c.value-item.result)
    (subst (λ left. LeftValues own at c.args.list c.args.code.now c.loop-value.code (exprs_from 0 list) left) more (c.loop-value.invariant own))
    (c.in_ok-put.ensures own) (c.in_ok-add_expr.ensures own) (c.in_ok-put-2.ensures own) (c.in_ok-put-3.ensures own)

pub returns : goal.returns
unfolding values_size values_code
returns c = λ own.
    let at = c.args.context.now in
    let list = c.deref-value-items.result.now in
    let end = exprs_end list c.loop-value.value-index c.loop-value-test.false in
    subst (λ exprs. Adds own c.args.code.now c.loop-value.code (values_size (exprs_of (map view_expr exprs))) (λ pc ps. values_code (tree_of at) (routine_of at) own c.args.list pc (exprs_of (map view_expr exprs)) ps)) c.deref-value-items.ensures.value
    (left_done (subst (λ left. LeftValues own at c.args.list c.args.code.now c.loop-value.code (exprs_from 0 list) left) end (c.loop-value.invariant own)))
