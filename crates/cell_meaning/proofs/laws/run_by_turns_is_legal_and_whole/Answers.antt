use Rattle.cell_meaning.proofs.Orders.{by_turns_legal, by_turns_whole}
use Rattle.cell_meaning.proofs.laws.run_by_turns_is_legal_and_whole.Goals as goal

pub returns-clause-legal : goal.returns-clause-legal
returns-clause-legal g c = λ cell history limits full may run. by_turns_legal g.A.Askers.asks cell history limits full may run

pub returns-clause-whole : goal.returns-clause-whole
returns-clause-whole g c = λ cell history only run. by_turns_whole g.A.Askers.asks cell history only run
