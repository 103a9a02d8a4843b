use Rattle.std.proofs.Common.{arith}
use Rattle.cell_meaning.proofs.MoreChanges.{length-signals_after}
use Rattle.cell_meaning.proofs.SignalsKept.{all_kept, input_is, others_kept, others_kept_too, written_is}
use Rattle.cell_meaning.proofs.told.signals_are_as_set.Goals as goal

pub returns-clause-written : goal.returns-clause-written
returns-clause-written c = λ cell history actor signal value e is within.
    let count = length-signals_after cell history in written_is cell history actor signal value e is (omega (arith, count, within))

pub returns-clause-unwritten : goal.returns-clause-unwritten
returns-clause-unwritten c = λ cell history actor signal other value e is differ. others_kept cell history actor signal other value e is differ

pub returns-clause-fed : goal.returns-clause-fed
returns-clause-fed c = λ cell history actor index row e is there within.
    let count = length-signals_after cell history in input_is cell history actor index row e is there (omega (arith, count, within))

pub returns-clause-unfed : goal.returns-clause-unfed
returns-clause-unfed c = λ cell history actor index other row e is there differ. others_kept_too cell history actor index other row e is there differ

pub returns-clause-kept : goal.returns-clause-kept
returns-clause-kept c = λ cell history e never. all_kept cell history e never
