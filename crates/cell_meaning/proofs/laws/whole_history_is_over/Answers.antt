use Rattle.cell_meaning.proofs.Ending.{whole_over}
use Rattle.cell_meaning.proofs.laws.whole_history_is_over.Goals as goal

pub returns : goal.returns
returns g c = λ cell history task lt until legal whole. whole_over g.A.Askers.asks cell history task lt until legal whole
