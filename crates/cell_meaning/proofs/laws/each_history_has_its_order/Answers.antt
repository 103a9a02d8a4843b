use Rattle.cell_meaning.proofs.Orders.{in_its_order}
use Rattle.cell_meaning.proofs.laws.each_history_has_its_order.Goals as goal

pub returns : goal.returns
returns g c = λ cell history legal whole. in_its_order g.A.Askers.asks cell history legal whole
