use Rattle.module_parser.proofs.OneModule.{one_module, one_tree}
use Rattle.module_parser.proofs.laws.one_module.Goals as goal

pub returns : goal.returns
returns c = record { one = one_module; tree = one_tree }
