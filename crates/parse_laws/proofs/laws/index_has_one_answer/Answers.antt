use Rattle.raw_trees.specs.Views.{view_expr}
use Rattle.parse_laws.proofs.Answered.{one_answer, tells_answer}
use Rattle.parse_laws.proofs.Known.{index_known}
use Rattle.parse_laws.proofs.laws.index_has_one_answer.Goals as goal

pub returns : goal.returns
returns c = record { one = one_answer _ _ index_known; gives = tells_answer _ _ index_known view_expr }
