use Rattle.expr_parser.specs.Parts.{view_args}
use Rattle.parse_laws.proofs.Answered.{one_answer, tells_answer}
use Rattle.parse_laws.proofs.Known.{args_known}
use Rattle.parse_laws.proofs.laws.args_have_one_answer.Goals as goal

pub returns : goal.returns
returns c = record { one = one_answer _ _ args_known; gives = tells_answer _ _ args_known view_args }
