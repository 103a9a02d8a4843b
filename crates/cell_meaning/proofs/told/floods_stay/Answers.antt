use Rattle.cell_meaning.proofs.InterruptsStay.{flood_stays}
use Rattle.cell_meaning.proofs.told.floods_stay.Goals as goal

pub returns : goal.returns
returns c = λ cell before later task few asked told. flood_stays cell before later task few asked told
