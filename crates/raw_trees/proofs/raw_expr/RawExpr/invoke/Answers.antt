use Rattle.raw_trees.proofs.Rows.{invoke_view}
use Rattle.raw_trees.proofs.raw_expr.RawExpr.invoke.Goals as goal

pub returns : goal.returns
returns c = invoke_view c.args.at c.args.name c.args.args
