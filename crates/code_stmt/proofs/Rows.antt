-- The rest of a list of children, from one on.
use Rattle.std.proofs.Common.{◌≡◌, ℕ, ◌+◌, ◌<◌, ◌≤◌, List, [], ◌∷◌, length, get_or, map, drop, sym, ap, ◌∙◌}
use Rattle.std.proofs.lemmas.List.{at_drop_all, at_drop_more}
use Rattle.std.specs.declared.alloc.Global.{Global}
use Rattle.std.specs.declared.vec.Vec.{Vec}
use Rattle.typed_trees.specs.Plain.{TypedArms, TypedCases, TypedStmts, MoreArms, MoreCases, MoreStmts, NoArms, NoCases, NoStmts, arms_of, cases_of, exprs_of, stmts_of}
use Rattle.typed_trees.specs.Views.{view_arm, view_case, view_expr, view_list, view_stmt}
use Rattle.typed_trees.specs.declared.expr.Expr.{Expr}
use Rattle.typed_trees.specs.declared.stmt.Stmt.{Stmt}
use Rattle.code_stmt.specs.Views.{view_piece, view_pieces}
use Rattle.code_stmt.specs.declared.piece.Piece.{Piece}

abbrev pub stmts_from : ℕ → List Stmt → TypedStmts
stmts_from i list = stmts_of (map view_stmt (drop i list))

abbrev pub arms_from : ℕ → List (Expr × Vec Stmt Global) → TypedArms
arms_from i list = arms_of (map view_arm (drop i list))

abbrev pub cases_from : ℕ → List (Vec Expr Global × Vec Stmt Global) → TypedCases
cases_from i list = cases_of (map view_case (drop i list))

pub stmts_more : (list : List Stmt) (i : ℕ) (s : Stmt) → i < length list → s ≡ get_or list i s → stmts_from i list ≡ MoreStmts (view_stmt s) (stmts_from (i + 1) list)
stmts_more list i s lt is =
    at_drop_more (λ left. stmts_of (map view_stmt left)) list i s lt ∙ ap (λ x. MoreStmts (view_stmt x) (stmts_from (i + 1) list)) (sym is)

pub stmts_end : (list : List Stmt) (i : ℕ) → length list ≤ i → stmts_from i list ≡ NoStmts
stmts_end list i le = at_drop_all (λ left. stmts_of (map view_stmt left)) list i le

pub arms_more : (list : List (Expr × Vec Stmt Global)) (i : ℕ) (a : Expr × Vec Stmt Global) → i < length list → a ≡ get_or list i a → arms_from i list ≡ MoreArms (view_expr a.0) (stmts_of (view_list a.1)) (arms_from (i + 1) list)
arms_more list i a lt is =
    at_drop_more (λ left. arms_of (map view_arm left)) list i a lt ∙ ap (λ x. MoreArms (view_expr x.0) (stmts_of (view_list x.1)) (arms_from (i + 1) list)) (sym is)

pub arms_end : (list : List (Expr × Vec Stmt Global)) (i : ℕ) → length list ≤ i → arms_from i list ≡ NoArms
arms_end list i le = at_drop_all (λ left. arms_of (map view_arm left)) list i le

pub cases_more : (list : List (Vec Expr Global × Vec Stmt Global)) (i : ℕ) (c : Vec Expr Global × Vec Stmt Global) → i < length list → c ≡ get_or list i c → cases_from i list ≡ MoreCases (exprs_of (map view_expr c.0.items)) (stmts_of (view_list c.1)) (cases_from (i + 1) list)
cases_more list i c lt is =
    at_drop_more (λ left. cases_of (map view_case left)) list i c lt ∙ ap (λ x. MoreCases (exprs_of (map view_expr x.0.items)) (stmts_of (view_list x.1)) (cases_from (i + 1) list)) (sym is)

pub cases_end : (list : List (Vec Expr Global × Vec Stmt Global)) (i : ℕ) → length list ≤ i → cases_from i list ≡ NoCases
cases_end list i le = at_drop_all (λ left. cases_of (map view_case left)) list i le

pub pieces_more : (list : List Piece) (i : ℕ) (p : Piece) → i < length list → p ≡ get_or list i p → view_pieces (drop i list) ≡ view_piece p ∷ view_pieces (drop (i + 1) list)
pieces_more list i p lt is = at_drop_more view_pieces list i p lt ∙ ap (λ x. view_piece x ∷ view_pieces (drop (i + 1) list)) (sym is)

pub pieces_end : (list : List Piece) (i : ℕ) → length list ≤ i → view_pieces (drop i list) ≡ []
pieces_end list i le = at_drop_all view_pieces list i le
