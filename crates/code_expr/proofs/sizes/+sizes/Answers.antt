use Rattle.std.proofs.Common.{◌≡◌, ◌+◌, ap, inl, inr, map, sym, arith, ◌∙◌}
use Rattle.typed_trees.specs.Plain.{args_of}
use Rattle.typed_trees.specs.Views.{view_arg, view_expr}
use Rattle.stack_code.specs.Sizes
use Rattle.code_expr.specs.BuiltinForms.{form_of}
use Rattle.code_expr.proofs.Builtins.{size_by_form, size_in}
use Rattle.code_expr.proofs.Forms.{aggregate_form, builtin_form, chain_form, gives_as, invoke_form}
use Rattle.code_expr.proofs.sizes.+sizes.Goals as goal

pub expr_size-returns-in_ok-exprs_size-in-Aggregate :
    goal.expr_size-returns-in_ok-exprs_size-in-Aggregate
expr_size-returns-in_ok-exprs_size-in-Aggregate t c =
    let is = ap Sizes.expr_size (aggregate_form c.args.expr.now c.in-Aggregate.values c.in-Aggregate.is) in
    gives_as _ _ (Sizes.expr_size (view_expr c.args.expr.now)) (omega (arith, is, c.in_ok-exprs_size-in-Aggregate.ensures)) c.sum-in-Aggregate.ensures

pub expr_size-returns-in-Builtin : goal.expr_size-returns-in-Builtin
expr_size-returns-in-Builtin t c =
    let is = ap Sizes.expr_size (builtin_form c.args.expr.now c.in-Builtin.function c.in-Builtin.args c.in-Builtin.is) in
    gives_as _ _ _ (sym is) c.builtin_size.ensures

pub expr_size-returns-in_ok-args_size-in-Call : goal.expr_size-returns-in_ok-args_size-in-Call
expr_size-returns-in_ok-args_size-in-Call t c =
    let is = ap Sizes.expr_size (invoke_form c.args.expr.now c.in-Call.routine c.in-Call.args c.in-Call.is) in
    gives_as _ _ (Sizes.expr_size (view_expr c.args.expr.now)) (omega (arith, is, c.in_ok-args_size-in-Call.ensures)) c.sum-in-Call.ensures

pub expr_size-returns-in_ok-steps_size-in-Chain : goal.expr_size-returns-in_ok-steps_size-in-Chain
expr_size-returns-in_ok-steps_size-in-Chain t c =
    let is = ap Sizes.expr_size (chain_form c.args.expr.now c.in-Chain.first c.in-Chain.rest c.in-Chain.is) in
    let first = ap (λ e. Sizes.expr_size (view_expr e)) c.deref-in-Chain.ensures in
    gives_as _ _ (Sizes.expr_size (view_expr c.args.expr.now)) (omega (arith, is, first, c.in_ok-expr_size-in-Chain.ensures, c.in_ok-steps_size-in-Chain.ensures)) c.sum-in-Chain.ensures

pub builtin_size-returns-in_ok-args_size-in-Values :
    goal.builtin_size-returns-in_ok-args_size-in-Values
builtin_size-returns-in_ok-args_size-in-Values t c =
    let function = c.args.function in
    let args = args_of (map view_arg c.args.args.now.items) in
    let size = c.in_ok-args_size-in-Values.field-0 in
    let plus : size_in function c.form_of.result size ≡ size + 1 = elim c.in-Values.is [ inl e ↦ ap (λ form. size_in function form size) e | inr e ↦ ap (λ form. size_in function form size) e ] in
    gives_as c.sum.result _ _
    (sym plus
    ∙ (ap (λ form. size_in function form size) c.form_of.ensures
    ∙ (ap (size_in function (form_of args)) c.in_ok-args_size-in-Values.ensures ∙ sym (size_by_form function args))))
    c.sum.ensures
