use Rattle.typed_trees.proofs.Rows.{while_view}
use Rattle.typed_trees.proofs.stmt.Stmt.repeat.Goals as goal

pub returns : goal.returns
returns c = while_view c.args.at c.args.test c.args.list
