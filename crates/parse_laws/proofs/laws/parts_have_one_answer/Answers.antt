use Rattle.expr_parser.specs.Parts.{view_parts}
use Rattle.parse_laws.proofs.Answered.{one_answer, tells_answer}
use Rattle.parse_laws.proofs.Known.{parts_known}
use Rattle.parse_laws.proofs.laws.parts_have_one_answer.Goals as goal

pub returns : goal.returns
returns c = record { one = one_answer _ _ parts_known; gives = tells_answer _ _ parts_known view_parts }
