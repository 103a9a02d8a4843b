use Rattle.typed_trees.proofs.Rows.{chain_view}
use Rattle.typed_trees.proofs.expr.Expr.chain.Goals as goal

pub returns : goal.returns
returns c = rw (← c.in_ok-first.ensures.ok) (chain_view c.args.at c.args.sort c.in_ok-first.first c.args.rest)
