use Rattle.expr_parser.specs.Parts.{view_exprs}
use Rattle.parse_laws.proofs.Answered.{one_answer, tells_answer}
use Rattle.parse_laws.proofs.Known.{exprs_known}
use Rattle.parse_laws.proofs.laws.exprs_have_one_answer.Goals as goal

pub returns : goal.returns
returns c = record { one = one_answer _ _ exprs_known; gives = tells_answer _ _ exprs_known view_exprs }
