use Rattle.cell_meaning.proofs.InterruptsStay.{none_begins}
use Rattle.cell_meaning.proofs.told.disabled_tasks_begin_no_trap.Goals as goal

pub returns : goal.returns
returns c = λ cell history task number trap asked few since told. none_begins cell history task number trap asked few since told
