use Rattle.rapid_forms.specs.Reading.{made_read, then_read}
use Rattle.rapid_forms.proofs.Placed.{one_placed}
use Rattle.expr_parser.proofs.primary.quoted.Goals as goal

pub returns : goal.returns
unfolding made_read then_read
returns c = let e = one_placed _ _ _ _ c.in_ok-token.ensures in rw (c.in_ok-token.ensures, e, c.text.ensures)
