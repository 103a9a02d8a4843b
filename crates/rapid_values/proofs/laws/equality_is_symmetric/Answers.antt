use Rattle.rapid_values.proofs.Equalities.{same_symmetric}
use Rattle.rapid_values.proofs.laws.equality_is_symmetric.Goals as goal

pub returns : goal.returns
returns c = λ v w. same_symmetric v w
