use Rattle.cell_meaning.proofs.Orders.{by_turns_one}
use Rattle.cell_meaning.proofs.laws.run_by_turns_is_one.Goals as goal

pub returns : goal.returns
returns g c = λ cell history other one run that. by_turns_one g.A.Askers.asks cell history other one run that
