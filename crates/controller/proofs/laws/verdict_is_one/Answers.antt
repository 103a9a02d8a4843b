use Rattle.module_parser.proofs.OneModule.{one_module}
use Rattle.controller.proofs.OneVerdict.{verdict_one}
use Rattle.controller.proofs.laws.verdict_is_one.Goals as goal

pub returns : goal.returns
returns c = λ words gave verdict other a b. verdict_one one_module words gave verdict other a b
