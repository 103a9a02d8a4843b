use Rattle.std.proofs.Common.{length}
use Rattle.tree_typing.proofs.Constants.{constants_kept}
use Rattle.accepted_cells.proofs.Accepted.{accepted_right}
use Rattle.accepted_cells.proofs.laws.accepted_tasks_keep_constants.Goals as goal

pub returns : goal.returns
returns c = λ script made number tree answers d accepted there is.
    let h = accepted_right script made number tree accepted there in
    constants_kept (length made.cell.signals) made.cell number tree answers d h.typed h.numbered is
