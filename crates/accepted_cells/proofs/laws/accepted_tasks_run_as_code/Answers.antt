use Rattle.accepted_cells.proofs.Accepted.{runs_as_code}
use Rattle.accepted_cells.proofs.laws.accepted_tasks_run_as_code.Goals as goal

pub returns : goal.returns
returns c = runs_as_code
