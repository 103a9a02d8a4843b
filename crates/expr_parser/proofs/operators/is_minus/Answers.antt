use Rattle.std.proofs.Common.{sym}
use Rattle.rapid_forms.specs.Signs.{has}
use Rattle.expr_parser.specs.Operators.{is_minus}
use Rattle.rapid_forms.proofs.Arms.{not_there}
use Rattle.expr_parser.proofs.operators.is_minus.Goals as goal

pub returns-in-Minus : goal.returns-in-Minus
unfolding is_minus has
returns-in-Minus c = rw (← c.in-Minus.ensures)

pub returns-in_default : goal.returns-in_default
unfolding is_minus
returns-in_default c = rw (← c.sign_of.ensures) (sym (not_there _ _ c.in_default.not-Minus))
