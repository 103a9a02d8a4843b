use Rattle.type_laws.proofs.TaskLaws.{task_law}
use Rattle.type_laws.proofs.tasks.tasks_are_typed.Goals as goal

pub returns : goal.returns
returns c = task_law
