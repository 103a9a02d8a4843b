use Rattle.std.proofs.Common.{sym}
use Rattle.expr_parser.proofs.Operands.{none_of, none_left}
use Rattle.expr_parser.proofs.operators.leads.Goals as goal

pub returns-in_default : goal.returns-in_default
returns-in_default c =
    let not = c.in_default in
    sym (none_of _ _ _ not.not-Not (none_of _ _ _ not.not-Plus (none_of _ _ _ not.not-Minus (none_left _))))
