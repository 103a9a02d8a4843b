use Rattle.std.proofs.Common.{◌≡◌, ◌+◌, max, drop, sym, ap, ◌∙◌, arith}
use Rattle.stack_code.specs.Needs.{pieces_need}
use Rattle.code_stmt.specs.Depths.{depth_behind, piece_need}
use Rattle.code_stmt.specs.Views.{view_piece, view_pieces}
use Rattle.code_stmt.proofs.PieceLists.{need_more}
use Rattle.code_stmt.proofs.Rows.{pieces_end, pieces_more}
use Rattle.code_stmt.proofs.piece_sizes.pieces_need.Goals as goal

pub loop-piece-preserved : goal.loop-piece-preserved
loop-piece-preserved c =
    let list = c.deref-piece-items.result.now in
    let i = c.loop-piece.piece-index in
    let most = c.loop-piece.most in
    let depth = c.loop-piece.depth in
    let piece = view_piece c.piece-item.result in
    let rest = view_pieces (drop (i + 1) list) in
    let more = pieces_more list i c.piece-item.result c.loop-piece-test.true c.piece-item.is in
    let need : c.more-most.result ≡ max most (depth + piece_need piece) = omega (arith, c.more-most.ensures, c.in_ok-sum.ensures, c.in_ok-piece_need.ensures) in
    ap (λ d. max c.more-most.result (pieces_need d rest)) c.in_ok-depth.ensures
    ∙ (ap (λ m. max m (pieces_need (depth_behind piece depth) rest)) need
    ∙ (sym (need_more most depth piece rest)
    ∙ (ap (λ left. max most (pieces_need depth left)) (sym more) ∙ c.loop-piece.invariant)))

pub returns : goal.returns
unfolding pieces_need
returns c =
    let end = ap (pieces_need c.loop-piece.depth) (pieces_end c.deref-piece-items.result.now c.loop-piece.piece-index c.loop-piece-test.false) in
    let all = ap (λ list. pieces_need 0 (view_pieces list)) c.deref-piece-items.ensures.value in
    omega (arith, end, all, c.loop-piece.invariant, c.more.ensures)
