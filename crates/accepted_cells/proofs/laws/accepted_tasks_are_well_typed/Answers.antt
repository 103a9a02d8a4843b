use Rattle.accepted_cells.proofs.Tree.{tree_right}
use Rattle.accepted_cells.proofs.laws.accepted_tasks_are_well_typed.Goals as goal

pub returns : goal.returns
returns c = tree_right
