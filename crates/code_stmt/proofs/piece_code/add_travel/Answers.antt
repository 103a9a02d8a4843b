use Rattle.std.proofs.Common.{◌≡◌, ◌+◌, [], ◌∷◌, ap, ◌∙◌, arith}
use Rattle.std.proofs.lemmas.Result.{on_ok_weaker}
use Rattle.stack_code.specs.ExprLayouts.{put}
use Rattle.stack_code.specs.Pieces
use Rattle.stack_code.specs.StmtLayouts.{pieces_code}
use Rattle.stack_code.specs.declared.op.Op.TheVariants as ops
use Rattle.code_expr.specs.Adds.{end_of}
use Rattle.code_expr.proofs.Follow.{follows_as, follows_then}
use Rattle.code_stmt.proofs.piece_code.add_travel.Goals as goal

pub returns : goal.returns
unfolding pieces_code
returns c = on_ok_weaker c.put-4.result (λ h tree routine labels own.
    let pc = end_of c.args.code.now in
    let next : c.in_ok-next.next ≡ pc + 1 = omega (arith, c.in_ok-next.ensures) in
    let past : c.in_ok-past.past ≡ pc + 1 + 1 + 1 + 1 = omega (arith, c.in_ok-past.ensures) in
    follows_as 4 (λ at ps. pieces_code tree routine labels own at (Pieces.Travels ∷ []) ps)
    (follows_then (c.in_ok-put.ensures own) (follows_then (c.in_ok-put-2.ensures own) (follows_then (c.in_ok-put-3.ensures own) (h own))))
    (omega arith) (λ ps.
    ap (λ to. put own ops.Aim (put own (ops.Point to) (put own ops.Look (put own (ops.Jump c.in_ok-next.next) ps)))) past
    ∙ ap (λ to. put own ops.Aim (put own (ops.Point (pc + 1 + 1 + 1 + 1)) (put own ops.Look (put own (ops.Jump to) ps)))) next)) c.put-4.ensures
