use Rattle.std.proofs.Common.{sym}
use Rattle.cell_meaning.proofs.MoreFirings.{fired-none}
use Rattle.cell_core.proofs.interrupts.fire.Goals as goal

pub returns-in-Nothing : goal.returns-in-Nothing
returns-in-Nothing c = rw c.in-Nothing.is (sym (fired-none c.args.traps.now c.requires))

pub returns-in-Arrival : goal.returns-in-Arrival
returns-in-Arrival c = rw c.in-Arrival.is (sym (fired-none c.args.traps.now c.requires))
