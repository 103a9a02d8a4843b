use Rattle.cell_core.proofs.Parts.{part_read}
use Rattle.cell_core.proofs.values.read.Goals as goal

pub returns-clause-there : goal.returns-clause-there
returns-clause-there c = part_read c.args.store.now c.args.pers c.args.path.now c.unwrap.result c.requires (rw c.unwrap.ensures at c.get.ensures.part)
