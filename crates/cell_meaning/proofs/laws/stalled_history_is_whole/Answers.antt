use Rattle.cell_meaning.proofs.Stalls.{stalled_whole, whole_stalled}
use Rattle.cell_meaning.proofs.laws.stalled_history_is_whole.Goals as goal

pub returns-clause-whole : goal.returns-clause-whole
returns-clause-whole g c = λ cell history may legal stalled. stalled_whole g.A.Askers.asks cell history may legal stalled

pub returns-clause-stalled : goal.returns-clause-stalled
returns-clause-stalled g c = λ cell history may until inputs legal whole going left. whole_stalled g.A.Askers.asks cell history may until inputs legal whole going left
