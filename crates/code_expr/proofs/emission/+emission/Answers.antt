use Rattle.std.proofs.Common.{◌+◌, ap, map, subst, sym, arith, ◌∙◌}
use Rattle.std.proofs.lemmas.Result.{on_ok_weaker}
use Rattle.stack_code.specs.Pieces as pieces
use Rattle.stack_code.specs.declared.op.Op.TheVariants as ops
use Rattle.typed_trees.specs.Plain.{args_of, exprs_of, steps_of}
use Rattle.typed_trees.specs.Views.{view_arg, view_expr, view_step}
use Rattle.typed_trees.specs.declared.datum.Datum.TheVariants.{Plain}
use Rattle.code_expr.specs.Adds.{AddsArgs, AddsExprs, AddsSteps}
use Rattle.code_expr.proofs.Follow.{follows_sized, follows_then, left_done}
use Rattle.code_expr.proofs.Forms.{aggregate_form, builtin_form, chain_form, form_is, invoke_form}
use Rattle.code_expr.proofs.Laid.{and_laid, arg_laid, builtin_laid, expr_laid, operator_laid, or_laid, place_laid, put_as}
use Rattle.code_expr.proofs.Loops.{LeftArgs, LeftExprs, LeftSteps, one_arg_more, one_expr_more, one_step_more}
use Rattle.code_expr.proofs.Rows.{args_end, args_from, args_more, exprs_end, exprs_from, exprs_more, steps_end, steps_from, steps_more}
use Rattle.code_expr.proofs.emission.+emission.Goals as goal

pub add_expr-returns-in-Number : goal.add_expr-returns-in-Number
add_expr-returns-in-Number t c = on_ok_weaker c.put.result (λ h own.
    expr_laid _ _ own _ _ (form_is c.args.expr.now _ c.in-Number.is) (put_as (ap ops.Push c.number.ensures) (h own))) c.put.ensures

pub add_expr-returns-in_ok-value-in-Const : goal.add_expr-returns-in_ok-value-in-Const
add_expr-returns-in_ok-value-in-Const t c = on_ok_weaker c.put-in-Const.result (λ h own.
    expr_laid _ _ own _ _ (form_is c.args.expr.now _ c.in-Const.is)
    (put_as (ap ops.Push (c.in_ok-value-in-Const.ensures ∙ ap Plain (c.copy.ensures ∙ c.deref.ensures))) (h own))) c.put-in-Const.ensures

pub add_expr-returns-in-Errno : goal.add_expr-returns-in-Errno
add_expr-returns-in-Errno t c = on_ok_weaker c.put-in-Errno.result (λ h own.
    expr_laid _ _ own _ _ (form_is c.args.expr.now _ c.in-Errno.is) (h own)) c.put-in-Errno.ensures

pub add_expr-returns-in-Signal : goal.add_expr-returns-in-Signal
add_expr-returns-in-Signal t c = on_ok_weaker c.put-in-Signal.result (λ h own.
    expr_laid _ _ own _ _ (form_is c.args.expr.now _ c.in-Signal.is) (h own)) c.put-in-Signal.ensures

pub add_expr-returns-in_ok-add_place-in-Place : goal.add_expr-returns-in_ok-add_place-in-Place
add_expr-returns-in_ok-add_place-in-Place t c = on_ok_weaker c.put-in-Place.result (λ h own.
    expr_laid _ _ own _ _ (form_is c.args.expr.now _ c.in-Place.is) (follows_then (c.in_ok-add_place-in-Place.ensures own) (h own))) c.put-in-Place.ensures

pub add_expr-returns-in-Group : goal.add_expr-returns-in-Group
add_expr-returns-in-Group t c = on_ok_weaker c.add_expr.result (λ h own.
    expr_laid _ _ own _ _ (form_is c.args.expr.now _ c.in-Group.is) (expr_laid _ _ own _ _ (ap view_expr (sym c.deref-in-Group.ensures)) (h own))) c.add_expr.ensures

pub add_expr-returns-in_ok-add_exprs-in-Aggregate :
    goal.add_expr-returns-in_ok-add_exprs-in-Aggregate
add_expr-returns-in_ok-add_exprs-in-Aggregate t c = on_ok_weaker c.put-in-Aggregate.result (λ h own.
    expr_laid _ _ own _ _ (aggregate_form c.args.expr.now c.in-Aggregate.values c.in-Aggregate.is)
    (follows_then (c.in_ok-add_exprs-in-Aggregate.ensures own) (h own))) c.put-in-Aggregate.ensures

pub add_expr-returns-in-Builtin : goal.add_expr-returns-in-Builtin
add_expr-returns-in-Builtin t c = on_ok_weaker c.add_builtin.result (λ h own.
    expr_laid _ _ own _ _ (builtin_form c.args.expr.now c.in-Builtin.function c.in-Builtin.args c.in-Builtin.is) (h own)) c.add_builtin.ensures

pub add_expr-returns-in_ok-add_args-in-Call : goal.add_expr-returns-in_ok-add_args-in-Call
add_expr-returns-in_ok-add_args-in-Call t c = on_ok_weaker c.put-in-Call.result (λ h own.
    expr_laid _ _ own _ _ (invoke_form c.args.expr.now c.in-Call.routine c.in-Call.args c.in-Call.is)
    (follows_then (c.in_ok-add_args-in-Call.ensures own) (h own))) c.put-in-Call.ensures

pub add_expr-returns-in_ok-add_expr-in-Not : goal.add_expr-returns-in_ok-add_expr-in-Not
add_expr-returns-in_ok-add_expr-in-Not t c = on_ok_weaker c.put-in-Not.result (λ h own.
    expr_laid _ _ own _ _ (form_is c.args.expr.now _ c.in-Not.is)
    (follows_then (expr_laid _ _ own _ _ (ap view_expr (sym c.deref-in-Not.ensures)) (c.in_ok-add_expr-in-Not.ensures own)) (h own))) c.put-in-Not.ensures

pub add_expr-returns-in_ok-add_expr-in-Signed : goal.add_expr-returns-in_ok-add_expr-in-Signed
add_expr-returns-in_ok-add_expr-in-Signed t c = on_ok_weaker c.add_sign.result (λ h own.
    expr_laid _ _ own _ _ (form_is c.args.expr.now _ c.in-Signed.is)
    (follows_then (expr_laid _ _ own _ _ (ap view_expr (sym c.deref-in-Signed.ensures)) (c.in_ok-add_expr-in-Signed.ensures own)) (h own))) c.add_sign.ensures

pub add_expr-returns-in_ok-add_expr-in-Chain : goal.add_expr-returns-in_ok-add_expr-in-Chain
add_expr-returns-in_ok-add_expr-in-Chain t c = on_ok_weaker c.add_steps.result (λ h own.
    expr_laid _ _ own _ _ (chain_form c.args.expr.now c.in-Chain.first c.in-Chain.rest c.in-Chain.is)
    (follows_then (expr_laid _ _ own _ _ (ap view_expr (sym c.deref-in-Chain.ensures)) (c.in_ok-add_expr-in-Chain.ensures own)) (h own))) c.add_steps.ensures

pub add_exprs-loop-expr-preserved : goal.add_exprs-loop-expr-preserved
add_exprs-loop-expr-preserved t c = λ own.
    let list = c.deref-expr-items.result.now in
    let more = exprs_more list c.loop-expr.expr-index c.expr-item.result c.loop-expr-test.true c.expr-item.is in
    one_expr_more own c.args.context.now c.args.code.now c.loop-expr.code c.add_expr.new.code (exprs_from 0 list) (exprs_from (c.loop-expr.expr-index + 1) list) (view_expr c.expr-item.result)
    (subst (λ left. LeftExprs own c.args.context.now c.args.code.now c.loop-expr.code (exprs_from 0 list) left) more (c.loop-expr.invariant own))
    (c.in_ok-add_expr.ensures own)

pub add_exprs-returns : goal.add_exprs-returns
add_exprs-returns t c = λ own.
    let list = c.deref-expr-items.result.now in
    let end = exprs_end list c.loop-expr.expr-index c.loop-expr-test.false in
    subst (λ exprs. AddsExprs own c.args.context.now c.args.code.now c.loop-expr.code (exprs_of (map view_expr exprs))) c.deref-expr-items.ensures.value
    (left_done (subst (λ left. LeftExprs own c.args.context.now c.args.code.now c.loop-expr.code (exprs_from 0 list) left) end (c.loop-expr.invariant own)))

pub add_steps-loop-operator-preserved : goal.add_steps-loop-operator-preserved
add_steps-loop-operator-preserved t c = λ own.
    let list = c.deref-operator-items.result.now in
    let step = c.loop-operator-item.result in
    let more = steps_more list c.loop-operator.operator-index step c.loop-operator-test.true c.loop-operator-item.is in
    one_step_more own c.args.context.now c.args.code.now c.loop-operator.code c.add_step.new.code (steps_from 0 list) (steps_from (c.loop-operator.operator-index + 1) list) step.0 (view_expr step.1)
    (subst (λ left. LeftSteps own c.args.context.now c.args.code.now c.loop-operator.code (steps_from 0 list) left) more (c.loop-operator.invariant own))
    (c.in_ok-add_step.ensures own)

pub add_steps-returns : goal.add_steps-returns
add_steps-returns t c = λ own.
    let list = c.deref-operator-items.result.now in
    let end = steps_end list c.loop-operator.operator-index c.loop-operator-test.false in
    subst (λ steps. AddsSteps own c.args.context.now c.args.code.now c.loop-operator.code (steps_of (map view_step steps))) c.deref-operator-items.ensures.value
    (left_done (subst (λ left. LeftSteps own c.args.context.now c.args.code.now c.loop-operator.code (steps_from 0 list) left) end (c.loop-operator.invariant own)))

pub add_step-returns-in_ok-add_skip-in-And : goal.add_step-returns-in_ok-add_skip-in-And
add_step-returns-in_ok-add_skip-in-And t c = on_ok_weaker c.add_expr.result (λ h own.
    and_laid _ _ own c.args.operator (view_expr c.args.operand.now) c.in_ok-past-in-And.past c.in-And.is
    (omega (arith, c.in_ok-past-in-And.ensures, c.in_ok-sum-in-And.ensures, c.in_ok-expr_size-in-And.ensures))
    (c.in_ok-add_skip-in-And.ensures own) (h own)) c.add_expr.ensures

pub add_step-returns-in_ok-add_skip-in-Or : goal.add_step-returns-in_ok-add_skip-in-Or
add_step-returns-in_ok-add_skip-in-Or t c = on_ok_weaker c.add_expr-in-Or.result (λ h own.
    or_laid _ _ own c.args.operator (view_expr c.args.operand.now) c.in_ok-past-in-Or.past c.in-Or.is
    (omega (arith, c.in_ok-past-in-Or.ensures, c.in_ok-sum-in-Or.ensures, c.in_ok-expr_size-in-Or.ensures))
    (c.in_ok-add_skip-in-Or.ensures own) (h own)) c.add_expr-in-Or.ensures

pub add_step-returns-in_ok-add_expr-in_default : goal.add_step-returns-in_ok-add_expr-in_default
add_step-returns-in_ok-add_expr-in_default t c = on_ok_weaker c.put.result (λ h own.
    operator_laid _ _ own c.args.operator (view_expr c.args.operand.now) c.in_default.not-And c.in_default.not-Or
    (c.in_ok-add_expr-in_default.ensures own) (h own)) c.put.ensures

pub add_place-returns-in-None : goal.add_place-returns-in-None
add_place-returns-in-None t c = on_ok_weaker c.add_part.result (λ h own.
    place_laid _ _ own c.args.place.now _ c.in-None.is
    (follows_then (put_as c.root_op.ensures (c.in_ok-put.ensures own)) (h own))) c.add_part.ensures

pub add_place-returns-in_ok-put-in-Some : goal.add_place-returns-in_ok-put-in-Some
add_place-returns-in_ok-put-in-Some t c = on_ok_weaker c.add_part-in-Some.result (λ h own.
    place_laid _ _ own c.args.place.now _ c.in-Some.is
    (follows_sized _
    (follows_then (put_as c.root_op.ensures (c.in_ok-put.ensures own))
    (follows_then (expr_laid _ _ own _ _ (ap view_expr (sym c.deref.ensures)) (c.in_ok-add_expr-in-Some.ensures own))
    (follows_then (put_as c.index_op.ensures (c.in_ok-put-in-Some.ensures own)) (h own))))
    (omega arith))) c.add_part-in-Some.ensures

pub add_arg-returns-in-Value : goal.add_arg-returns-in-Value
add_arg-returns-in-Value t c = on_ok_weaker c.add_expr.result (λ h own.
    arg_laid _ _ own _ _ (ap view_arg c.in-Value.is) (follows_sized _ (h own) (omega arith))) c.add_expr.ensures

pub add_arg-returns-in-Place : goal.add_arg-returns-in-Place
add_arg-returns-in-Place t c = on_ok_weaker c.add_place.result (λ h own.
    arg_laid _ _ own _ _ (ap view_arg c.in-Place.is) (follows_sized _ (h own) (omega arith))) c.add_place.ensures

pub add_args-loop-arg-preserved : goal.add_args-loop-arg-preserved
add_args-loop-arg-preserved t c = λ own.
    let list = c.deref-arg-items.result.now in
    let more = args_more list c.loop-arg.arg-index c.arg-item.result c.loop-arg-test.true c.arg-item.is in
    one_arg_more own c.args.context.now c.args.code.now c.loop-arg.code c.add_arg.new.code (args_from 0 list) (args_from (c.loop-arg.arg-index + 1) list) (view_arg c.arg-item.result)
    (subst (λ left. LeftArgs own c.args.context.now c.args.code.now c.loop-arg.code (args_from 0 list) left) more (c.loop-arg.invariant own))
    (c.in_ok-add_arg.ensures own)

pub add_args-returns : goal.add_args-returns
add_args-returns t c = λ own.
    let list = c.deref-arg-items.result.now in
    let end = args_end list c.loop-arg.arg-index c.loop-arg-test.false in
    subst (λ args. AddsArgs own c.args.context.now c.args.code.now c.loop-arg.code (args_of (map view_arg args))) c.deref-arg-items.ensures.value
    (left_done (subst (λ left. LeftArgs own c.args.context.now c.args.code.now c.loop-arg.code (args_from 0 list) left) end (c.loop-arg.invariant own)))

pub add_builtin-returns-in-Nothing : goal.add_builtin-returns-in-Nothing
add_builtin-returns-in-Nothing t c = on_ok_weaker c.put.result (λ h own.
    builtin_laid _ _ own _ _ _ c.in-Nothing.ensures (h own)) c.put.ensures

pub add_builtin-returns-in_ok-add_args-in-Values :
    goal.add_builtin-returns-in_ok-add_args-in-Values
add_builtin-returns-in_ok-add_args-in-Values t c = on_ok_weaker c.put-in-Values.result (λ h own.
    builtin_laid _ _ own _ _ _ c.in-Values.ensures (follows_then (c.in_ok-add_args-in-Values.ensures own) (h own))) c.put-in-Values.ensures

pub add_builtin-returns-in-Signal : goal.add_builtin-returns-in-Signal
add_builtin-returns-in-Signal t c = on_ok_weaker c.add_signal.result (λ h own.
    builtin_laid _ _ own _ _ _ c.in-Signal.ensures (h own)) c.add_signal.ensures

pub add_builtin-returns-in_ok-add_args-in-Place : goal.add_builtin-returns-in_ok-add_args-in-Place
add_builtin-returns-in_ok-add_args-in-Place t c = on_ok_weaker c.put-in-Place.result (λ h own.
    builtin_laid _ _ own _ _ _ c.in-Place.ensures (follows_then (c.in_ok-add_args-in-Place.ensures own) (h own))) c.put-in-Place.ensures

pub add_builtin-returns-in-Array : goal.add_builtin-returns-in-Array
add_builtin-returns-in-Array t c = on_ok_weaker c.put-in-Array.result (λ h own.
    builtin_laid _ _ own _ _ _ c.in-Array.ensures (put_as (c.push.ensures ∙ ap pieces.push c.length_at.ensures) (h own))) c.put-in-Array.ensures
