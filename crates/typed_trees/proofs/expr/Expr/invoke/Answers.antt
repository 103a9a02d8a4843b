use Rattle.typed_trees.proofs.Rows.{invoke_view}
use Rattle.typed_trees.proofs.expr.Expr.invoke.Goals as goal

pub returns : goal.returns
returns c = invoke_view c.args.at c.args.sort c.args.routine c.args.args
