use Rattle.cell_loading.proofs.ReadModules.{later_reads}
use Rattle.cell_loading.proofs.modules.later_modules.Goals as goal

pub returns-clause-dropped : goal.returns-clause-dropped
returns-clause-dropped c = later_reads c.args.modules.now.first c.args.modules.now.texts.now c.args.modules.now.trees.now c.args.count c.min-count.result c.requires.same c.min-count.ensures
