use Rattle.accepted_cells.proofs.Grammar.{traps_take}
use Rattle.accepted_cells.proofs.laws.read_traps_take_nothing.Goals as goal

pub returns : goal.returns
returns c = traps_take
