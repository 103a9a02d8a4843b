use Rattle.std.proofs.Common.{◌≡◌, length}
use Rattle.std.specs.Vec.Iter.{into_iter_items, into_iter_len}
use Rattle.code_expr.specs.Adds.{end_of, with_code}
use Rattle.code_expr.specs.Contexts.{routine_of, tree_of}
use Rattle.code_stmt.specs.Views.{view_own, view_pieces}
use Rattle.code_stmt.proofs.PieceLists.{LeftPieces}
use Rattle.code_stmt.proofs.piece_code.add_pieces.Given as goal

abbrev pub invariant-loop-piece : goal.invariant-loop-piece
invariant-loop-piece l = let own = view_own l.own in record {
  laid :
      LeftPieces (with_code own l.initial.code) (with_code own l.code) (end_of l.initial.code) (end_of l.code) (tree_of l.context) (routine_of l.context) l.labels own
      (view_pieces l.fn.pieces.items) (view_pieces (into_iter_items l.piece-iterator));
  count : into_iter_len l.piece-iterator ≡ length (into_iter_items l.piece-iterator);
}
