use Rattle.cell_meaning.proofs.ZonesTold.{sets, watches}
use Rattle.cell_meaning.proofs.laws.zones_are_as_given.Goals as goal

pub returns-clause-watches : goal.returns-clause-watches
returns-clause-watches c = λ cell history task number shape asked few. watches cell history task number shape asked

pub returns-clause-sets : goal.returns-clause-sets
returns-clause-sets c = λ cell history task number shape output asked few. sets cell history task number shape output asked
