use Rattle.typed_trees.proofs.Rows.{for_view}
use Rattle.typed_trees.proofs.stmt.Stmt.count.Goals as goal

pub returns : goal.returns
returns c = rw (← c.in_ok-bounds.ensures.ok) (for_view c.args.at c.args.local c.in_ok-bounds.bounds c.args.list)
