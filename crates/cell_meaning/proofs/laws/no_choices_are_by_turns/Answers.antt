use Rattle.cell_meaning.proofs.Orders.{in_no_order, no_order_by_turns}
use Rattle.cell_meaning.proofs.laws.no_choices_are_by_turns.Goals as goal

pub returns : goal.returns
returns g c = λ cell history. (λ run. no_order_by_turns g.A.Askers.asks cell history run, λ run. in_no_order g.A.Askers.asks cell history run)
