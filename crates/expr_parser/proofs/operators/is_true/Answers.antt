use Rattle.std.proofs.Common.{sym}
use Rattle.rapid_forms.specs.Signs.{has}
use Rattle.expr_parser.specs.Operators.{is_true}
use Rattle.rapid_forms.proofs.Arms.{not_there}
use Rattle.expr_parser.proofs.operators.is_true.Goals as goal

pub returns-in-True : goal.returns-in-True
unfolding is_true has
returns-in-True c = rw (← c.in-True.ensures)

pub returns-in_default : goal.returns-in_default
unfolding is_true
returns-in_default c = rw (← c.sign_of.ensures) (sym (not_there _ _ c.in_default.not-True))
