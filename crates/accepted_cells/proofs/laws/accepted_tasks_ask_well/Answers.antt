use Rattle.accepted_cells.proofs.Asking.{ask_well}
use Rattle.accepted_cells.proofs.laws.accepted_tasks_ask_well.Goals as goal

pub returns : goal.returns
returns c = ask_well
