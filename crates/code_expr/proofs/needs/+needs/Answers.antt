use Rattle.std.proofs.Common.{◌≡◌, ap, inl, inr, map, sym, arith, ◌∙◌}
use Rattle.stack_code.specs.Needs
use Rattle.typed_trees.specs.Plain.{args_of}
use Rattle.typed_trees.specs.Views.{view_arg, view_expr}
use Rattle.code_expr.proofs.Builtins.{need_by_form, need_in}
use Rattle.code_expr.proofs.Forms.{aggregate_form, builtin_form, chain_form, gives_as, invoke_form}
use Rattle.code_expr.proofs.needs.+needs.Goals as goal

pub expr_need-returns-in_ok-exprs_need-in-Aggregate :
    goal.expr_need-returns-in_ok-exprs_need-in-Aggregate
expr_need-returns-in_ok-exprs_need-in-Aggregate t c =
    let is = ap Needs.expr_need (aggregate_form c.args.expr.now c.in-Aggregate.values c.in-Aggregate.is) in
    omega (arith, is, c.more.ensures, c.in_ok-exprs_need-in-Aggregate.ensures)

pub expr_need-returns-in-Builtin : goal.expr_need-returns-in-Builtin
expr_need-returns-in-Builtin t c =
    let is = ap Needs.expr_need (builtin_form c.args.expr.now c.in-Builtin.function c.in-Builtin.args c.in-Builtin.is) in
    gives_as _ _ _ (sym is) c.builtin_need.ensures

pub expr_need-returns-in_ok-args_need-in-Call : goal.expr_need-returns-in_ok-args_need-in-Call
expr_need-returns-in_ok-args_need-in-Call t c =
    let is = ap Needs.expr_need (invoke_form c.args.expr.now c.in-Call.routine c.in-Call.args c.in-Call.is) in
    omega (arith, is, c.more-in-Call.ensures, c.in_ok-args_need-in-Call.ensures)

pub expr_need-returns-in_ok-steps_need-in-Chain : goal.expr_need-returns-in_ok-steps_need-in-Chain
expr_need-returns-in_ok-steps_need-in-Chain t c =
    let is = ap Needs.expr_need (chain_form c.args.expr.now c.in-Chain.first c.in-Chain.rest c.in-Chain.is) in
    let first = ap (λ e. Needs.expr_need (view_expr e)) c.deref-in-Chain.ensures in
    omega (arith, is, first, c.more-in-Chain.ensures, c.in_ok-expr_need-in-Chain.ensures, c.in_ok-steps_need-in-Chain.ensures)

pub builtin_need-returns-in-Values : goal.builtin_need-returns-in-Values
builtin_need-returns-in-Values t c =
    let function = c.args.function in
    let args = args_of (map view_arg c.args.args.now.items) in
    let need = Needs.args_need args in
    let same : need_in function c.form_of.result need ≡ need = elim c.in-Values.is [ inl e ↦ ap (λ form. need_in function form need) e | inr e ↦ ap (λ form. need_in function form need) e ] in
    gives_as c.args_need.result _ _
    (sym same ∙ (ap (λ form. need_in function form need) c.form_of.ensures ∙ sym (need_by_form function args)))
    c.args_need.ensures
