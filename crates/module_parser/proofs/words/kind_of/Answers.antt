use Rattle.rapid_forms.specs.Signs.{has}
use Rattle.rapid_forms.proofs.Arms.{not_there}
use Rattle.module_parser.specs.Words.{kind_of}
use Rattle.module_parser.proofs.words.kind_of.Goals as goal

pub returns-in-Const : goal.returns-in-Const
unfolding kind_of has
returns-in-Const c = rw (← c.in-Const.ensures)

pub returns-in-Var : goal.returns-in-Var
unfolding kind_of has
returns-in-Var c = rw (← c.in-Var.ensures)

pub returns-in_default : goal.returns-in_default
unfolding kind_of
returns-in_default c =
    let not = c.in_default in
    rw (← c.sign_of.ensures, not_there _ _ not.not-Const, not_there _ _ not.not-Var)
