use Rattle.std.proofs.Common.{rules}
use Rattle.cell_gate.proofs.Keeps.{rest_allowed}
use Rattle.cell_gate.proofs.steps.wait_past.Goals as goal

pub load-found-requires : goal.load-found-requires
load-found-requires g c = (search rules, search rules, rest_allowed _ _ _ _)
