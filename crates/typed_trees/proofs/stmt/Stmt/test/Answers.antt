use Rattle.typed_trees.proofs.Rows.{test_view}
use Rattle.typed_trees.proofs.stmt.Stmt.test.Goals as goal

pub returns : goal.returns
returns c = test_view c.args.at c.args.value c.args.cases c.args.other
