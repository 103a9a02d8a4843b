use Rattle.rapid_values.proofs.Equalities.{same_decides}
use Rattle.rapid_values.proofs.laws.equal_values.Goals as goal

pub returns : goal.returns
returns c = λ v w. same_decides v w
