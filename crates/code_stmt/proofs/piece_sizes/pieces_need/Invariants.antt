use Rattle.std.proofs.Common.{◌≡◌, max, drop}
use Rattle.stack_code.specs.Needs.{pieces_need}
use Rattle.code_stmt.specs.Views.{view_pieces}
use Rattle.code_stmt.proofs.piece_sizes.pieces_need.Given as goal

abbrev pub invariant-loop-piece : goal.invariant-loop-piece
invariant-loop-piece l = max l.most (pieces_need l.depth (view_pieces (drop l.piece-index l.piece-items))) ≡ pieces_need 0 (view_pieces l.piece-items)
