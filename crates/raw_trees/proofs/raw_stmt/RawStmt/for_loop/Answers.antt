use Rattle.raw_trees.proofs.Rows.{for_view}
use Rattle.raw_trees.proofs.raw_stmt.RawStmt.for_loop.Goals as goal

pub returns : goal.returns
returns c = rw (← c.in_ok-bounds.ensures.ok) (for_view c.args.at c.args.name c.in_ok-bounds.bounds c.args.list)
