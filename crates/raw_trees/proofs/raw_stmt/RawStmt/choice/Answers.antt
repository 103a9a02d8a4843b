use Rattle.raw_trees.proofs.Rows.{choice_view}
use Rattle.raw_trees.proofs.raw_stmt.RawStmt.choice.Goals as goal

pub returns : goal.returns
returns c = choice_view c.args.at c.args.arms c.args.other
