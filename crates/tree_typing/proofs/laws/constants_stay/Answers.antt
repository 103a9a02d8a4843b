use Rattle.tree_typing.proofs.Constants.{constants_kept}
use Rattle.tree_typing.proofs.laws.constants_stay.Goals as goal

pub returns : goal.returns
returns c = λ signals cell number tree answers d typed numbered is. constants_kept signals cell number tree answers d typed numbered is
