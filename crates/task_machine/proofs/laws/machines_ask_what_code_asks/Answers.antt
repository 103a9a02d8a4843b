use Rattle.task_machine.proofs.Stands.{asked}
use Rattle.task_machine.proofs.laws.machines_ask_what_code_asks.Goals as goal

pub returns : goal.returns
returns c = λ m answers request stands due. asked m answers request stands due
