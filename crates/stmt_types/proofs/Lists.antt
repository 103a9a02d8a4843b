-- Lists of statements, arms, cases and values, one after the other.
use Rattle.std.proofs.Common.{◌≡◌, ℕ, ◌+◌, ◌<◌, ◌≤◌, List, [], ◌∷◌, length, get_or, map, drop, Ok, refl, sym, ap, ◌∙◌}
use Rattle.std.proofs.lemmas.List.{at_drop_all, at_drop_more}
use Rattle.std.specs.declared.alloc.Global.{Global}
use Rattle.std.specs.declared.vec.Vec.{Vec}
use Rattle.raw_trees.specs.declared.raw_expr.RawExpr.{RawExpr}
use Rattle.raw_trees.specs.declared.raw_stmt.RawStmt.{RawStmt}
use Rattle.raw_trees.specs.Plain.{arms_of as raw_arms_of, cases_of as raw_cases_of, stmts_of as raw_stmts_of}
use Rattle.raw_trees.specs.Views.{view_arm as view_raw_arm, view_case as view_raw_case, view_expr as view_raw, view_list as view_raw_list, view_stmt as view_raw_stmt}
use Rattle.rapid_model.specs.declared.sort.Sort.{Sort}
use Rattle.rapid_model.specs.declared.sort.Sort.TheVariants as sorts
use Rattle.typed_trees.specs.declared.expr.Expr.{Expr}
use Rattle.typed_trees.specs.declared.stmt.Stmt.{Stmt}
use Rattle.typed_trees.specs.Plain
use Rattle.typed_trees.specs.Views.{view_arm, view_case, view_expr, view_list}
use Rattle.rule_checks.specs.Checks.{◌>>=◌}
use Rattle.rule_checks.specs.TypeChecks.{Checked}
use Rattle.named_data.specs.Rules.{Site}
use Rattle.named_data.specs.declared.wanted.Wanted.TheVariants.{Is, Same}
use Rattle.expr_types.specs.Typing.{typed}
use Rattle.stmt_types.specs.Bodies.{Around, Body, Typed, branches, case_values, choices, into, stmt, stmts}
use Rattle.expr_types.proofs.Loops.{all, all_exprs, behind, then_more}

abbrev pub more_stmts : Plain.TypedStmt → Typed Plain.TypedStmts → Typed Plain.TypedStmts
more_stmts s r = record { tree = Plain.MoreStmts s r.tree; next = r.next }

abbrev pub more_arms : Plain.TypedExpr × Plain.TypedStmts → Typed Plain.TypedArms → Typed Plain.TypedArms
more_arms a r = record { tree = Plain.MoreArms a.0 a.1 r.tree; next = r.next }

abbrev pub more_cases : Plain.TypedExprs × Plain.TypedStmts → Typed Plain.TypedCases → Typed Plain.TypedCases
more_cases c r = record { tree = Plain.MoreCases c.0 c.1 r.tree; next = r.next }

-- an arm and a case, their statements as one tree
abbrev pub arm_front : Expr × Vec Stmt Global → Plain.TypedExpr × Plain.TypedStmts
arm_front a = (view_expr a.0, Plain.stmts_of (view_list a.1))

abbrev pub case_front : Vec Expr Global × Vec Stmt Global → Plain.TypedExprs × Plain.TypedStmts
case_front c = (Plain.exprs_of (map view_expr c.0.items), Plain.stmts_of (view_list c.1))

-- the statements of a list, with its labels added to the context
abbrev pub inside : Body → Around → Vec RawStmt Global → ℕ → Checked (Typed Plain.TypedStmts)
inside body around list next = stmts body (raw_stmts_of (view_raw_list list)) (into around (raw_stmts_of (view_raw_list list))) next

-- an arm and a case in front of what comes after its list
abbrev pub then_arms : (ℕ → Checked (Typed Plain.TypedArms)) → Plain.TypedExpr → Typed Plain.TypedStmts → Checked (Typed Plain.TypedArms)
then_arms rest t l = then_more more_arms (t, l.tree) (rest l.next)

abbrev pub then_cases : (ℕ → Checked (Typed Plain.TypedCases)) → Plain.TypedExprs → Typed Plain.TypedStmts → Checked (Typed Plain.TypedCases)
then_cases rest ts l = then_more more_cases (ts, l.tree) (rest l.next)

all_stmts : (ss : List Plain.TypedStmt) (next : ℕ) → all more_stmts ss (record { tree = Plain.NoStmts; next = next }) ≡ record { tree = Plain.stmts_of ss; next = next }
all_stmts [] next = refl
all_stmts (s ∷ ss) next = ap (more_stmts s) (all_stmts ss next)

all_arms : (arms : List (Expr × Vec Stmt Global)) (next : ℕ) → all more_arms (map arm_front arms) (record { tree = Plain.NoArms; next = next }) ≡ record { tree = Plain.arms_of (map view_arm arms); next = next }
all_arms [] next = refl
all_arms (a ∷ arms) next = ap (more_arms (arm_front a)) (all_arms arms next)

all_cases : (cases : List (Vec Expr Global × Vec Stmt Global)) (next : ℕ) → all more_cases (map case_front cases) (record { tree = Plain.NoCases; next = next }) ≡ record { tree = Plain.cases_of (map view_case cases); next = next }
all_cases [] next = refl
all_cases (c ∷ cases) next = ap (more_cases (case_front c)) (all_cases cases next)

-- the values of a CASE from one on
pub values_more : (site : Site) (sort : Sort) (list : List RawExpr) (i : ℕ) (e : RawExpr) → i < length list → e ≡ get_or list i e →
    case_values site sort (map view_raw (drop i list))
    ≡ (typed site (view_raw e) (Same sort) >>= (λ t. then_more Plain.MoreExprs t (case_values site sort (map view_raw (drop (i + 1) list)))))
values_more site sort list i e lt is =
    at_drop_more (λ left. case_values site sort (map view_raw left)) list i e lt
    ∙ ap (λ x. typed site (view_raw x) (Same sort) >>= (λ t. then_more Plain.MoreExprs t (case_values site sort (map view_raw (drop (i + 1) list))))) (sym is)

pub values_end : (site : Site) (sort : Sort) (list : List RawExpr) (i : ℕ) (front : List Plain.TypedExpr) → length list ≤ i →
    behind Plain.MoreExprs front (case_values site sort (map view_raw (drop i list))) ≡ Ok (Plain.exprs_of front)
values_end site sort list i front le =
    ap (behind Plain.MoreExprs front) (at_drop_all (λ left. case_values site sort (map view_raw left)) list i le) ∙ ap Ok (all_exprs front)

module _ (body : Body) (around : Around) where
  -- the statements of a list from one on
  pub stmts_more : (list : List RawStmt) (i next : ℕ) (s : RawStmt) → i < length list → s ≡ get_or list i s →
      stmts body (raw_stmts_of (map view_raw_stmt (drop i list))) around next
      ≡ (stmt body (view_raw_stmt s) around next >>= (λ x. then_more more_stmts x.tree (stmts body (raw_stmts_of (map view_raw_stmt (drop (i + 1) list))) around x.next)))
  unfolding stmts
  stmts_more list i next s lt is =
      at_drop_more (λ left. stmts body (raw_stmts_of (map view_raw_stmt left)) around next) list i s lt
      ∙ ap (λ y. stmt body (view_raw_stmt y) around next >>= (λ x. then_more more_stmts x.tree (stmts body (raw_stmts_of (map view_raw_stmt (drop (i + 1) list))) around x.next))) (sym is)

  pub stmts_end : (list : List RawStmt) (i next : ℕ) (front : List Plain.TypedStmt) → length list ≤ i →
      behind more_stmts front (stmts body (raw_stmts_of (map view_raw_stmt (drop i list))) around next) ≡ Ok (record { tree = Plain.stmts_of front; next = next })
  unfolding stmts
  stmts_end list i next front le =
      ap (behind more_stmts front) (at_drop_all (λ left. stmts body (raw_stmts_of (map view_raw_stmt left)) around next) list i le) ∙ ap Ok (all_stmts front next)

  -- IF and ELSEIF from one on
  pub arms_more : (site : Site) (list : List (RawExpr × Vec RawStmt Global)) (i next : ℕ) (a : RawExpr × Vec RawStmt Global) → i < length list → a ≡ get_or list i a →
      branches body (raw_arms_of (map view_raw_arm (drop i list))) site around next
      ≡ (typed site (view_raw a.0) (Is sorts.Bool) >>= (λ t. inside body around a.1 next >>= then_arms (branches body (raw_arms_of (map view_raw_arm (drop (i + 1) list))) site around) t))
  unfolding branches
  arms_more site list i next a lt is =
      at_drop_more (λ left. branches body (raw_arms_of (map view_raw_arm left)) site around next) list i a lt
      ∙ ap (λ (x : RawExpr × Vec RawStmt Global). typed site (view_raw x.0) (Is sorts.Bool) >>= (λ t.
      inside body around x.1 next >>= then_arms (branches body (raw_arms_of (map view_raw_arm (drop (i + 1) list))) site around) t)) (sym is)

  pub arms_end : (site : Site) (list : List (RawExpr × Vec RawStmt Global)) (i next : ℕ) (front : List (Expr × Vec Stmt Global)) → length list ≤ i →
      behind more_arms (map arm_front front) (branches body (raw_arms_of (map view_raw_arm (drop i list))) site around next) ≡ Ok (record { tree = Plain.arms_of (map view_arm front); next = next })
  unfolding branches
  arms_end site list i next front le =
      ap (behind more_arms (map arm_front front)) (at_drop_all (λ left. branches body (raw_arms_of (map view_raw_arm left)) site around next) list i le) ∙ ap Ok (all_arms front next)

  -- CASE from one on
  pub cases_more : (site : Site) (sort : Sort) (list : List (Vec RawExpr Global × Vec RawStmt Global)) (i next : ℕ) (c : Vec RawExpr Global × Vec RawStmt Global) → i < length list → c ≡ get_or list i c →
      choices body (raw_cases_of (map view_raw_case (drop i list))) site sort around next
      ≡ (case_values site sort (map view_raw c.0.items) >>= (λ vs. inside body around c.1 next >>= then_cases (choices body (raw_cases_of (map view_raw_case (drop (i + 1) list))) site sort around) vs))
  unfolding choices
  cases_more site sort list i next c lt is =
      at_drop_more (λ left. choices body (raw_cases_of (map view_raw_case left)) site sort around next) list i c lt
      ∙ ap (λ (x : Vec RawExpr Global × Vec RawStmt Global). case_values site sort (map view_raw x.0.items) >>= (λ vs.
      inside body around x.1 next >>= then_cases (choices body (raw_cases_of (map view_raw_case (drop (i + 1) list))) site sort around) vs)) (sym is)

  pub cases_end : (site : Site) (sort : Sort) (list : List (Vec RawExpr Global × Vec RawStmt Global)) (i next : ℕ) (front : List (Vec Expr Global × Vec Stmt Global)) → length list ≤ i →
      behind more_cases (map case_front front) (choices body (raw_cases_of (map view_raw_case (drop i list))) site sort around next) ≡ Ok (record { tree = Plain.cases_of (map view_case front); next = next })
  unfolding choices
  cases_end site sort list i next front le =
      ap (behind more_cases (map case_front front)) (at_drop_all (λ left. choices body (raw_cases_of (map view_raw_case left)) site sort around next) list i le) ∙ ap Ok (all_cases front next)
