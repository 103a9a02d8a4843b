use Rattle.name_laws.proofs.Tree.{meetings_checked}
use Rattle.name_laws.proofs.meetings_have_their_names.Goals as goal

pub returns : goal.returns
returns c = meetings_checked
