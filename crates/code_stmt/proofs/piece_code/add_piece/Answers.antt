use Rattle.std.proofs.Common.{[], ◌∷◌, ap, refl, sym}
use Rattle.std.proofs.lemmas.Result.{on_ok_weaker}
use Rattle.stack_code.specs.StmtLayouts.{pieces_code}
use Rattle.stack_code.specs.declared.op.Op.TheVariants as ops
use Rattle.code_expr.specs.Contexts.{routine_of, tree_of}
use Rattle.code_expr.proofs.Laid.{put_as}
use Rattle.code_stmt.specs.Views.{view_own, view_piece}
use Rattle.code_stmt.proofs.PieceLists.{one_code, pieces_laid}
use Rattle.code_stmt.proofs.piece_code.add_piece.Goals as goal

pub returns-in-Expr : goal.returns-in-Expr
unfolding pieces_code
returns-in-Expr c =
    let tree = tree_of c.args.context.now in
    let routine = routine_of c.args.context.now in
    let own = view_own c.args.own.now in
    on_ok_weaker c.add_expr.result (λ h. pieces_laid tree routine c.args.labels.now own _ _ (ap (λ p. view_piece p ∷ []) (sym c.in-Expr.is)) (one_code tree routine c.args.labels.now own _ refl (h own))) c.add_expr.ensures

pub returns-in-Place : goal.returns-in-Place
unfolding pieces_code
returns-in-Place c =
    let tree = tree_of c.args.context.now in
    let routine = routine_of c.args.context.now in
    let own = view_own c.args.own.now in
    on_ok_weaker c.add_place.result (λ h. pieces_laid tree routine c.args.labels.now own _ _ (ap (λ p. view_piece p ∷ []) (sym c.in-Place.is)) (one_code tree routine c.args.labels.now own _ refl (h own))) c.add_place.ensures

pub returns-in-Args : goal.returns-in-Args
unfolding pieces_code
returns-in-Args c =
    let tree = tree_of c.args.context.now in
    let routine = routine_of c.args.context.now in
    let own = view_own c.args.own.now in
    on_ok_weaker c.add_args.result (λ h. pieces_laid tree routine c.args.labels.now own _ _ (ap (λ p. view_piece p ∷ []) (sym c.in-Args.is)) (one_code tree routine c.args.labels.now own _ refl (h own))) c.add_args.ensures

pub returns-in-Does : goal.returns-in-Does
unfolding pieces_code
returns-in-Does c =
    let tree = tree_of c.args.context.now in
    let routine = routine_of c.args.context.now in
    let own = view_own c.args.own.now in
    on_ok_weaker c.put.result (λ h. pieces_laid tree routine c.args.labels.now own _ _ (ap (λ p. view_piece p ∷ []) (sym c.in-Does.is)) (one_code tree routine c.args.labels.now own _ refl (h own))) c.put.ensures

pub returns-in-Waits : goal.returns-in-Waits
unfolding pieces_code
returns-in-Waits c =
    let tree = tree_of c.args.context.now in
    let routine = routine_of c.args.context.now in
    let own = view_own c.args.own.now in
    on_ok_weaker c.put-in-Waits.result (λ h. pieces_laid tree routine c.args.labels.now own _ _ (ap (λ p. view_piece p ∷ []) (sym c.in-Waits.is)) (one_code tree routine c.args.labels.now own _ refl (h own))) c.put-in-Waits.ensures

pub returns-in-GoesTo : goal.returns-in-GoesTo
unfolding pieces_code
returns-in-GoesTo c =
    let tree = tree_of c.args.context.now in
    let routine = routine_of c.args.context.now in
    let own = view_own c.args.own.now in
    on_ok_weaker c.put-in-GoesTo.result (λ h. pieces_laid tree routine c.args.labels.now own _ _ (ap (λ p. view_piece p ∷ []) (sym c.in-GoesTo.is)) (one_code tree routine c.args.labels.now own _ refl (put_as (ap ops.Jump c.label_at.ensures) (h own)))) c.put-in-GoesTo.ensures

pub returns-in-Chooses : goal.returns-in-Chooses
unfolding pieces_code
returns-in-Chooses c =
    let tree = tree_of c.args.context.now in
    let routine = routine_of c.args.context.now in
    let own = view_own c.args.own.now in
    on_ok_weaker c.add_choice.result (λ h. pieces_laid tree routine c.args.labels.now own _ _ (ap (λ p. view_piece p ∷ []) (sym c.in-Chooses.is)) (one_code tree routine c.args.labels.now own _ refl (h tree routine c.args.labels.now own))) c.add_choice.ensures

pub returns-in-Travels : goal.returns-in-Travels
unfolding pieces_code
returns-in-Travels c =
    let tree = tree_of c.args.context.now in
    let routine = routine_of c.args.context.now in
    let own = view_own c.args.own.now in
    on_ok_weaker c.add_travel.result (λ h. pieces_laid tree routine c.args.labels.now own _ _ (ap (λ p. view_piece p ∷ []) (sym c.in-Travels.is)) (one_code tree routine c.args.labels.now own _ refl (h tree routine c.args.labels.now own))) c.add_travel.ensures
