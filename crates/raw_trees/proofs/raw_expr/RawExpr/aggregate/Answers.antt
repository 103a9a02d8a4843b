use Rattle.raw_trees.proofs.Rows.{aggregate_view}
use Rattle.raw_trees.proofs.raw_expr.RawExpr.aggregate.Goals as goal

pub returns : goal.returns
returns c = aggregate_view c.args.at c.args.values
