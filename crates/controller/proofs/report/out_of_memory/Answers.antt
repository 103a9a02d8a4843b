use Rattle.controller.proofs.Exits.{memory_refused}
use Rattle.controller.proofs.report.out_of_memory.Goals as goal

pub returns : goal.returns
returns g c = λ held. memory_refused _ held _ c.refuse.ensures.refused c.refuse.ensures.status c.refuse.ensures.history c.refuse.ensures.fates c.refuse.ensures.told
