use Rattle.std.proofs.Common.{◌≡◌, ◌+◌, drop}
use Rattle.stack_code.specs.Sizes.{pieces_size}
use Rattle.code_stmt.specs.Views.{view_pieces}
use Rattle.code_stmt.proofs.piece_sizes.pieces_size.Given as goal

abbrev pub invariant-loop-piece : goal.invariant-loop-piece
invariant-loop-piece l = l.size + pieces_size (view_pieces (drop l.piece-index l.piece-items)) ≡ pieces_size (view_pieces l.piece-items)
