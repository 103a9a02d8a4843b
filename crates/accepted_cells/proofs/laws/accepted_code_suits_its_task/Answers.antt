use Rattle.accepted_cells.proofs.Courses.{suit_tasks}
use Rattle.accepted_cells.proofs.laws.accepted_code_suits_its_task.Goals as goal

pub returns : goal.returns
returns c = suit_tasks
