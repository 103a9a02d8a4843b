use Rattle.std.proofs.Common.{sym}
use Rattle.cell_loading.proofs.ReadModules.{file_at, no_file_at}
use Rattle.cell_loading.proofs.modules.file_at.Goals as goal

pub returns-then-number-modules : goal.returns-then-number-modules
returns-then-number-modules c =
    sym (file_at c.args.modules.now.first c.args.modules.now.texts.now c.args.modules.now.trees.now c.args.number c.requires.same c.if-number-modules.true)

pub returns-else-number-modules : goal.returns-else-number-modules
returns-else-number-modules c = sym (no_file_at c.args.modules.now.first c.args.modules.now.texts.now c.args.modules.now.trees.now c.args.number c.if-number-modules.false)
