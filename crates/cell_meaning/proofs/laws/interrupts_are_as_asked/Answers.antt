use Rattle.cell_meaning.proofs.InterruptsTold as interrupts
use Rattle.cell_meaning.proofs.laws.interrupts_are_as_asked.Goals as goal

pub returns-clause-connected : goal.returns-clause-connected
returns-clause-connected c = λ cell history task number trap asked few. interrupts.connected cell history task number trap asked few

pub returns-clause-asleep : goal.returns-clause-asleep
returns-clause-asleep c = λ cell history task number entry asked few is. interrupts.asleep cell history task number entry asked few is

pub returns-clause-ordered : goal.returns-clause-ordered
returns-clause-ordered c = λ cell history task number entry on single asked few is. interrupts.is_ordered cell history task number entry on single asked few is
