use Rattle.history_pages.proofs.Packed.{event_in-there}
use Rattle.history_pages.proofs.laws.events_come_back.Goals as goal

pub returns : goal.returns
returns c = event_in-there
