use Rattle.cell_meaning.proofs.InterruptsStay.{number_free, number_least, number_some}
use Rattle.cell_meaning.proofs.told.new_numbers_are_least.Goals as goal

pub returns-clause-some : goal.returns-clause-some
returns-clause-some c = λ cell history task old trap number asked few told. number_some cell history task old trap number asked few told

pub returns-clause-free : goal.returns-clause-free
returns-clause-free c = λ cell history task old trap number other asked few told since. number_free cell history task old trap number other asked few told since

pub returns-clause-least : goal.returns-clause-least
returns-clause-least c = λ cell history task old trap number lower asked few told some below. number_least cell history task old trap number lower asked few told some below
