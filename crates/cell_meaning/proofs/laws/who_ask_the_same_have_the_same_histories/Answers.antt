use Rattle.cell_meaning.proofs.Same.{by_turns_there, in_order_there, legal_there, whole_there}
use Rattle.cell_meaning.proofs.laws.who_ask_the_same_have_the_same_histories.Goals as goal

pub returns-clause-legal : goal.returns-clause-legal
returns-clause-legal g c = λ cell history same legal. legal_there g.A.Askers.asks g.B.Askers.asks cell history same legal

pub returns-clause-whole : goal.returns-clause-whole
returns-clause-whole g c = λ cell history same whole. whole_there g.A.Askers.asks g.B.Askers.asks cell history same whole

pub returns-clause-by_turns : goal.returns-clause-by_turns
returns-clause-by_turns g c = λ cell history same run. by_turns_there g.A.Askers.asks g.B.Askers.asks cell history same run

pub returns-clause-in_order : goal.returns-clause-in_order
returns-clause-in_order g c = λ cell choices history same run. in_order_there g.A.Askers.asks g.B.Askers.asks cell choices history same run
