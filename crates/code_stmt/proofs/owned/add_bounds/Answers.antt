use Rattle.code_expr.specs.Contexts.{routine_of, tree_of}
use Rattle.code_expr.proofs.Follow.{follows_then}
use Rattle.code_stmt.specs.Views.{view_own}
use Rattle.code_stmt.proofs.Closing.{closed_run}
use Rattle.code_stmt.proofs.PieceLists.{pieces_laid}
use Rattle.code_stmt.proofs.owned.add_bounds.Goals as goal

pub returns-clause-laid : goal.returns-clause-laid
returns-clause-laid c =
    let own = view_own c.args.own.now in
    let pieces = pieces_laid (tree_of c.args.context.now) (routine_of c.args.context.now) c.args.labels.now own _ _ c.in_ok-pieces.ensures c.in_ok-add_pieces.ensures in
    closed_run own c.args.out.now c.close.new.self c.add_pieces.new.code _ _ c.in_ok-first.first (follows_then (c.in_ok-put.ensures own) pieces) c.close.ensures.code c.in_ok-close.ensures.owners c.in_ok-first.ensures
