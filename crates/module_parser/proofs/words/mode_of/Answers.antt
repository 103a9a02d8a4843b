use Rattle.rapid_forms.specs.Signs.{has}
use Rattle.rapid_forms.proofs.Arms.{not_there}
use Rattle.module_parser.specs.Words.{mode_of}
use Rattle.module_parser.proofs.words.mode_of.Goals as goal

pub returns-in-Inout : goal.returns-in-Inout
unfolding mode_of has
returns-in-Inout c = rw (← c.in-Inout.ensures)

pub returns-in-Var : goal.returns-in-Var
unfolding mode_of has
returns-in-Var c = rw (← c.in-Var.ensures)

pub returns-in_default : goal.returns-in_default
unfolding mode_of
returns-in_default c =
    let not = c.in_default in
    rw (← c.sign_of.ensures, not_there _ _ not.not-Inout, not_there _ _ not.not-Var)
