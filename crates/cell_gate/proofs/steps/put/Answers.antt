use Rattle.std.proofs.Common.{rules}
use Rattle.cell_gate.proofs.Turning.{slot_again}
use Rattle.cell_gate.proofs.steps.put.Goals as goal

pub exchange-requires : goal.exchange-requires
exchange-requires c = (search rules, (_, slot_again _ _ _ c.requires.slot))
