use Rattle.typed_trees.specs.Views.{view_tree}
use Rattle.code_stmt.proofs.MarkedCode.{stands}
use Rattle.code_stmt.proofs.marked.emit_routine.Goals as goal

pub returns-in-Ok-clause-laid : goal.returns-in-Ok-clause-laid
returns-in-Ok-clause-laid c = λ r placed is stand.
    stands (view_tree c.args.tree.now) r c.args.code.now.items c.emit_numbered.new.code.items c.args.marks.now c.emit_numbered.new.marks placed (c.in-Ok.ensures.laid r is) stand

pub returns-in-Ok-clause-handler : goal.returns-in-Ok-clause-handler
returns-in-Ok-clause-handler c = λ r is. (c.in-Ok.ensures.laid r is).handler
