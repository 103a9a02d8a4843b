use Rattle.raw_trees.proofs.Rows.{chain_view}
use Rattle.raw_trees.proofs.raw_expr.RawExpr.chain.Goals as goal

pub returns : goal.returns
returns c = rw (← c.in_ok-first.ensures.ok) (chain_view c.args.at c.in_ok-first.first c.args.rest)
