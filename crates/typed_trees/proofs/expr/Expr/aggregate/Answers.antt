use Rattle.typed_trees.proofs.Rows.{aggregate_view}
use Rattle.typed_trees.proofs.expr.Expr.aggregate.Goals as goal

pub returns : goal.returns
returns c = aggregate_view c.args.at c.args.sort c.args.values
