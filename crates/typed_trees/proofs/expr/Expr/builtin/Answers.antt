use Rattle.typed_trees.proofs.Rows.{builtin_view}
use Rattle.typed_trees.proofs.expr.Expr.builtin.Goals as goal

pub returns : goal.returns
returns c = builtin_view c.args.at c.args.sort c.args.function c.args.args
