use Rattle.std.proofs.Common.{ap, arith}
use Rattle.stack_code.specs.Sizes.{pieces_size}
use Rattle.code_stmt.specs.Views.{view_pieces}
use Rattle.code_stmt.proofs.Rows.{pieces_end, pieces_more}
use Rattle.code_stmt.proofs.piece_sizes.pieces_size.Goals as goal

pub loop-piece-preserved : goal.loop-piece-preserved
unfolding pieces_size
loop-piece-preserved c =
    let more = ap pieces_size (pieces_more c.deref-piece-items.result.now c.loop-piece.piece-index c.piece-item.result c.loop-piece-test.true c.piece-item.is) in
    omega (arith, more, c.loop-piece.invariant, c.in_ok-piece_size.ensures, c.in_ok-size.ensures)

pub returns : goal.returns
unfolding pieces_size
returns c =
    let end = ap pieces_size (pieces_end c.deref-piece-items.result.now c.loop-piece.piece-index c.loop-piece-test.false) in
    let all = ap (λ list. pieces_size (view_pieces list)) c.deref-piece-items.ensures.value in
    omega (arith, end, all, c.loop-piece.invariant)
