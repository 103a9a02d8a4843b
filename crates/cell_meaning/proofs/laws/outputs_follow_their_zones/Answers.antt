use Rattle.cell_meaning.proofs.Follow.{outputs_follow}
use Rattle.cell_meaning.proofs.laws.outputs_follow_their_zones.Goals as goal

pub returns : goal.returns
returns g c = λ cell history limits may legal. outputs_follow g.A.Askers.asks cell history limits may legal
