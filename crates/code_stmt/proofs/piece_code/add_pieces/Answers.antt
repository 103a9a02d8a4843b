use Rattle.std.proofs.Common.{◌≡◌, List, [], ◌∷◌, length, refl, subst, ap, arith}
use Rattle.std.specs.Vec.Iter.{into_iter_items}
use Rattle.stack_code.specs.Sizes.{pieces_size}
use Rattle.stack_code.specs.StmtLayouts.{pieces_code}
use Rattle.code_expr.specs.Adds.{end_of, with_code}
use Rattle.code_expr.specs.Contexts.{routine_of, tree_of}
use Rattle.code_expr.proofs.Follow.{left_done}
use Rattle.code_stmt.specs.Views.{view_own, view_piece, view_pieces}
use Rattle.code_stmt.specs.declared.piece.Piece.{Piece}
use Rattle.code_stmt.proofs.PieceLists.{LeftPieces, one_piece_more}
use Rattle.code_stmt.proofs.piece_code.add_pieces.Goals as goal

none_left : (pieces : List Piece) → length pieces ≡ 0 → pieces ≡ []
none_left [] none = refl
none_left (piece ∷ more) none = absurd (omega (arith, none))

pub loop-piece-preserved : goal.loop-piece-preserved
loop-piece-preserved c =
    let tree = tree_of c.args.context.now in
    let routine = routine_of c.args.context.now in
    let own = view_own c.args.own.now in
    let all = view_pieces c.args.pieces.items in
    let step = rw c.in-Some.is at c.next.ensures.steps in
    record {
      laid =
          one_piece_more tree routine c.args.labels.now own all (view_piece c.in-Some.piece) (view_pieces (into_iter_items c.next.new.self))
          (subst (λ left. LeftPieces (with_code own c.args.code.now) (with_code own c.loop-piece.code) (end_of c.args.code.now) (end_of c.loop-piece.code) tree routine c.args.labels.now own all left) (ap view_pieces step.0) c.loop-piece.invariant.laid)
          c.in_ok-add_piece.ensures;
      count = omega (arith, step.1, ap length step.0, c.loop-piece.invariant.count);
    }

pub returns : goal.returns
unfolding pieces_size pieces_code
returns c =
    let tree = tree_of c.args.context.now in
    let routine = routine_of c.args.context.now in
    let own = view_own c.args.own.now in
    let all = view_pieces c.args.pieces.items in
    let step = rw c.in-None.is at c.next.ensures.steps in
    let none = none_left (into_iter_items c.loop-piece.piece-iterator) (omega (arith, step.0, c.loop-piece.invariant.count)) in
    left_done (subst (λ left. LeftPieces (with_code own c.args.code.now) (with_code own c.loop-piece.code) (end_of c.args.code.now) (end_of c.loop-piece.code) tree routine c.args.labels.now own all left) (ap view_pieces none) c.loop-piece.invariant.laid)
