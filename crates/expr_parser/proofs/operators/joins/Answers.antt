use Rattle.std.proofs.Common.{sym}
use Rattle.expr_parser.proofs.Operands.{none_of, none_left}
use Rattle.expr_parser.proofs.operators.joins.Goals as goal

pub returns-in_default : goal.returns-in_default
returns-in_default c =
    let not = c.in_default in
    sym (none_of _ _ _ not.not-Or (none_of _ _ _ not.not-Xor (none_of _ _ _ not.not-And (none_of _ _ _ not.not-Equal (none_of _ _ _ not.not-NotEqual (none_of _ _ _ not.not-Less (none_of _ _ _ not.not-Greater (none_of _ _ _ not.not-LessEqual (none_of _ _ _ not.not-GreaterEqual (none_of _ _ _ not.not-Plus (none_of _ _ _ not.not-Minus (none_of _ _ _ not.not-Star (none_of _ _ _ not.not-Slash (none_of _ _ _ not.not-Div (none_of _ _ _ not.not-Mod (none_left _))))))))))))))))
