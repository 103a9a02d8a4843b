use Rattle.rapid_forms.specs.Signs.{has}
use Rattle.rapid_forms.proofs.Arms.{not_there}
use Rattle.module_parser.specs.Words.{attribute_of}
use Rattle.module_parser.proofs.words.attribute_of.Goals as goal

pub returns-in-SysModule : goal.returns-in-SysModule
unfolding attribute_of has
returns-in-SysModule c = rw (← c.in-SysModule.ensures)

pub returns-in-NoView : goal.returns-in-NoView
unfolding attribute_of has
returns-in-NoView c = rw (← c.in-NoView.ensures)

pub returns-in-NoStepIn : goal.returns-in-NoStepIn
unfolding attribute_of has
returns-in-NoStepIn c = rw (← c.in-NoStepIn.ensures)

pub returns-in-ViewOnly : goal.returns-in-ViewOnly
unfolding attribute_of has
returns-in-ViewOnly c = rw (← c.in-ViewOnly.ensures)

pub returns-in_default : goal.returns-in_default
unfolding attribute_of
returns-in_default c =
    let not = c.in_default in
    rw (← c.sign_of.ensures, not_there _ _ not.not-SysModule, not_there _ _ not.not-NoView, not_there _ _ not.not-NoStepIn, not_there _ _ not.not-ViewOnly)
