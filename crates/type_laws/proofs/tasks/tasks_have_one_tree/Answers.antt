use Rattle.std.proofs.Common.{sym, ◌∙◌}
use Rattle.type_laws.proofs.Steps.{done}
use Rattle.type_laws.proofs.TaskLaws.{task_law}
use Rattle.type_laws.proofs.tasks.tasks_have_one_tree.Goals as goal

pub returns : goal.returns
returns c = λ modules tasks signals axes tree other is also.
    (done other tree).0 (sym ((task_law modules tasks signals axes other).1 also) ∙ (task_law modules tasks signals axes tree).1 is)
