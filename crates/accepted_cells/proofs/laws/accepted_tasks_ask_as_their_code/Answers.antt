use Rattle.accepted_cells.proofs.Programs.{ask_as_code}
use Rattle.accepted_cells.proofs.laws.accepted_tasks_ask_as_their_code.Goals as goal

pub returns : goal.returns
returns c = ask_as_code
