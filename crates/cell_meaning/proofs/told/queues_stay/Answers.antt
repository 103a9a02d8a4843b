use Rattle.cell_meaning.proofs.InterruptsStay.{queue_stays}
use Rattle.cell_meaning.proofs.told.queues_stay.Goals as goal

pub returns : goal.returns
returns c = λ cell history e task few asked begins deletes. queue_stays cell history e task few asked begins deletes
