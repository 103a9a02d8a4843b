use Rattle.history_text.proofs.NextLines.{one_first_fault, spelled_has_no_fault}
use Rattle.history_text.proofs.laws.first_fault_is_one.Goals as goal

pub returns-clause-none : goal.returns-clause-none
returns-clause-none c = λ names text events fates number named spells fault. spelled_has_no_fault names text events fates number named spells fault

pub returns-clause-one : goal.returns-clause-one
returns-clause-one c = λ names text number other one another. one_first_fault names text number other one another
