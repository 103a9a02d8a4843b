use Rattle.name_laws.proofs.Means.{has_its_row}
use Rattle.name_laws.proofs.Tree.{task_checked}
use Rattle.name_laws.proofs.numbers_have_their_rows.Goals as goal

pub returns : goal.returns
returns c = λ modules tasks signals axes tree is spot name meant. has_its_row modules signals axes tree (task_checked modules tasks signals axes tree is) spot name meant
