use Rattle.std.proofs.Common.{ap, arith, length, sym}
use Rattle.code_expr.proofs.Builtins.{many_args}
use Rattle.code_expr.proofs.builtin_form.form_of.Goals as goal

pub returns-in_default : goal.returns-in_default
returns-in_default c =
    let many = ap length c.as_slice.ensures.value in
    sym (many_args c.args.args.now.items (omega (arith, many, c.in_default.len_at_least)))
