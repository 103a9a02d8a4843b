use Rattle.std.proofs.Common.{length, is_some}
use Rattle.tree_typing.proofs.Own.{may_be_asked}
use Rattle.tree_typing.proofs.Until.{asks_on}
use Rattle.tree_typing.proofs.Whole as whole
use Rattle.accepted_cells.proofs.Accepted.{accepted_right}
use Rattle.accepted_cells.proofs.laws.accepted_tasks_go_on.Goals as goal

pub returns-clause-right : goal.returns-clause-right
returns-clause-right c = λ script made number tree accepted there. let h = accepted_right script made number tree accepted there in (h.row, h.there, h.typed, h.numbered)

pub returns-clause-goes : goal.returns-clause-goes
returns-clause-goes c = λ script made number tree answers accepted there fits.
    let h = accepted_right script made number tree accepted there in
    whole.goes (length made.cell.signals) made.cell number tree answers h.typed h.numbered fits

pub returns-clause-until : goal.returns-clause-until
returns-clause-until c = λ script made number tree mine accepted there own fit going.
    let h = accepted_right script made number tree accepted there in
    asks_on (length made.cell.signals) made.cell number tree mine h.typed h.numbered own fit going

pub returns-clause-suits : goal.returns-clause-suits
returns-clause-suits c = λ script made number tree answers request accepted there asking.
    let h = accepted_right script made number tree accepted there in
    may_be_asked made.cell number h.row tree answers request h.there h.typed h.numbered asking
