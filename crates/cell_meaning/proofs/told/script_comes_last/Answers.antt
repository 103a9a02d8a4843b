use Rattle.cell_meaning.proofs.LastOfRound.{script_last}
use Rattle.cell_meaning.proofs.told.script_comes_last.Goals as goal

pub returns : goal.returns
returns g c = λ cell before after front back e round cut by. script_last g.A.Askers.asks cell before after front back e round cut by
