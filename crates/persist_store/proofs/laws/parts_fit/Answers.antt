use Rattle.persist_store.proofs.PartsFit.{part_there, put_fits}
use Rattle.persist_store.proofs.laws.parts_fit.Goals as goal

pub returns : goal.returns
returns c = record { there = part_there; put = put_fits }
