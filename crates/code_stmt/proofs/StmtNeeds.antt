-- The operands that statements need, by their forms.
use Rattle.std.proofs.Common.{◌≡◌, ℕ, max, refl, sym, subst}
use Rattle.std.specs.Prelude.{Option}
use Rattle.rapid_meaning.specs.Layouts.{local_start}
use Rattle.stack_code.specs.Needs.{arms_need, cases_need, else_need, expr_need, pieces_need, stmt_need, stmts_need}
use Rattle.stack_code.specs.Pieces.{bounds_pieces}
use Rattle.typed_trees.specs.Plain as trees
use Rattle.typed_trees.specs.Plain.{TypedArms, TypedCases, TypedElse, TypedExpr, TypedRoutine, TypedStmt, TypedStmts, TypedTree}
use Rattle.code_stmt.specs.Parts.{arms_in, cases_in, else_in}

module _ (tree : TypedTree) (routine : TypedRoutine) (s : TypedStmt) where
  pub if_need : (at : ℕ) (arms : TypedArms) (other : TypedElse) → s ≡ trees.If at arms other → stmt_need tree routine s ≡ max (arms_need tree routine (arms_in s)) (else_need tree routine (else_in s))
  if_need at arms other is = subst (λ t. stmt_need tree routine t ≡ max (arms_need tree routine (arms_in t)) (else_need tree routine (else_in t))) (sym is) refl

  pub for_need : (at local : ℕ) (first last : TypedExpr) (step : Option TypedExpr) (list : TypedStmts) → s ≡ trees.For at local first last step list →
      stmt_need tree routine s ≡ max (pieces_need 0 (bounds_pieces (local_start routine local) first last step)) (stmts_need tree routine list)
  for_need at local first last step list is = subst (λ t. stmt_need tree routine t ≡ max (pieces_need 0 (bounds_pieces (local_start routine local) first last step)) (stmts_need tree routine list)) (sym is) refl

  pub while_need : (at : ℕ) (test : TypedExpr) (list : TypedStmts) → s ≡ trees.While at test list → stmt_need tree routine s ≡ max (expr_need test) (stmts_need tree routine list)
  while_need at test list is = subst (λ t. stmt_need tree routine t ≡ max (expr_need test) (stmts_need tree routine list)) (sym is) refl

  pub test_need : (at : ℕ) (value : TypedExpr) (cases : TypedCases) (other : TypedElse) → s ≡ trees.Test at value cases other →
      stmt_need tree routine s ≡ max (expr_need value) (max (cases_need tree routine (cases_in s)) (else_need tree routine (else_in s)))
  test_need at value cases other is = subst (λ t. stmt_need tree routine t ≡ max (expr_need value) (max (cases_need tree routine (cases_in t)) (else_need tree routine (else_in t)))) (sym is) refl
