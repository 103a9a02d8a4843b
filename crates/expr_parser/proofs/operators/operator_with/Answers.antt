use Rattle.rapid_forms.proofs.Arms.{not_there, either_way}
use Rattle.expr_parser.proofs.operators.operator_with.Goals as goal

pub returns-in_default : goal.returns-in_default
returns-in_default c =
    let not = c.in_default in
    rw (not_there _ _ not.not-Xor, not_there _ _ not.not-And, not_there _ _ not.not-Equal, not_there _ _ not.not-NotEqual, not_there _ _ not.not-Less, not_there _ _ not.not-Greater, not_there _ _ not.not-LessEqual, not_there _ _ not.not-GreaterEqual, not_there _ _ not.not-Plus, not_there _ _ not.not-Minus, not_there _ _ not.not-Star, not_there _ _ not.not-Slash, not_there _ _ not.not-Div, not_there _ _ not.not-Mod)
    (either_way _ _)
