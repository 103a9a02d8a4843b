use Rattle.cell_meaning.proofs.WrittenStay.{written_stays}
use Rattle.cell_meaning.proofs.told.written_signals_stay.Goals as goal

pub returns : goal.returns
returns c = λ cell history signal value asked within since. written_stays cell history signal value asked within since
