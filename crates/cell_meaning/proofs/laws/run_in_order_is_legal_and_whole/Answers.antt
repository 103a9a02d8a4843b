use Rattle.cell_meaning.proofs.Orders.{in_order_legal, in_order_whole}
use Rattle.cell_meaning.proofs.laws.run_in_order_is_legal_and_whole.Goals as goal

pub returns-clause-legal : goal.returns-clause-legal
returns-clause-legal g c = λ cell choices history limits full may run. in_order_legal g.A.Askers.asks cell choices history limits full may run

pub returns-clause-whole : goal.returns-clause-whole
returns-clause-whole g c = λ cell choices history only run. in_order_whole g.A.Askers.asks cell choices history only run
