use Rattle.cell_meaning.proofs.Orders.{in_order_one}
use Rattle.cell_meaning.proofs.laws.run_in_order_is_one.Goals as goal

pub returns : goal.returns
returns g c = λ cell choices history other one run that. in_order_one g.A.Askers.asks cell choices history other one run that
