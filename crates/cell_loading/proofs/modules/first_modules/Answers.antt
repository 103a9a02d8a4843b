use Rattle.cell_loading.proofs.ReadModules.{first_reads}
use Rattle.cell_loading.proofs.modules.first_modules.Goals as goal

pub returns-clause-taken : goal.returns-clause-taken
returns-clause-taken c = first_reads c.args.modules.now.first c.args.modules.now.texts.now c.args.modules.now.trees.now c.args.count c.min-count.result c.requires.same c.min-count.ensures
