use Rattle.raw_trees.proofs.Rows.{while_view}
use Rattle.raw_trees.proofs.raw_stmt.RawStmt.while_loop.Goals as goal

pub returns : goal.returns
returns c = while_view c.args.at c.args.test c.args.list
