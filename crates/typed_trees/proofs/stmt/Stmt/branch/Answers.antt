use Rattle.typed_trees.proofs.Rows.{choice_view}
use Rattle.typed_trees.proofs.stmt.Stmt.branch.Goals as goal

pub returns : goal.returns
returns c = choice_view c.args.at c.args.arms c.args.other
