-- Statements whose operations are appended to what was written.
use Rattle.std.proofs.Common.{◌≡◌, ℕ, ◌+◌, List, Option, option_map, refl, sym, ap, subst, ◌∙◌, arith}
use Rattle.rapid_meaning.specs.Layouts.{local_start}
use Rattle.stack_code.specs.ExprLayouts.{expr_code, put}
use Rattle.stack_code.specs.Pieces.{bounds_pieces, pieces}
use Rattle.stack_code.specs.Placed.{Own}
use Rattle.stack_code.specs.Sizes.{expr_size, pieces_size, stmt_size}
use Rattle.stack_code.specs.StmtLayouts.{own_of, pieces_code, stmt_code, stmts_code}
use Rattle.stack_code.specs.declared.op.Op.TheVariants as ops
use Rattle.typed_trees.specs.Plain as trees
use Rattle.typed_trees.specs.Views.{view_expr}
use Rattle.typed_trees.specs.declared.bounds.Bounds.{Bounds}
use Rattle.typed_trees.specs.Plain.{TypedArms, TypedCases, TypedElse, TypedExpr, TypedStmt, TypedStmts}
use Rattle.code_expr.specs.Adds.{end_of}
use Rattle.code_expr.specs.Contexts.{routine_of, tree_of}
use Rattle.code_expr.specs.declared.context.Context.{Context}
use Rattle.code_expr.proofs.Follow.{follows_as, follows_then, none_follows}
use Rattle.code_stmt.specs.Lays.{Lays, LaysArms, LaysCases, LaysElse, LaysList, LaysStmt, with_placed}
use Rattle.code_stmt.specs.Parts.{arms_in, cases_in, else_in}
use Rattle.code_stmt.specs.declared.written.Written.{Written}
use Rattle.code_stmt.proofs.Simple.{Simple}

-- an owner is determined by what its operations share
pub same_owner : (o p : Own) → o.retry ≡ p.retry → o.next ≡ p.next → o.at.«module» ≡ p.at.«module» → o.at.byte ≡ p.at.byte → o ≡ p
same_owner o p retry next «module» byte =
    ap (λ (n : ℕ). record { retry = n; next = o.next; at = o.at }) retry
    ∙ (ap (λ (n : ℕ). record { retry = p.retry; next = n; at = o.at }) next
    ∙ (ap (λ (n : ℕ). record { retry = p.retry; next = p.next; at = record { «module» = n; byte = o.at.byte } }) «module»
    ∙ ap (λ (n : ℕ). record { retry = p.retry; next = p.next; at = record { «module» = p.at.«module»; byte = n } }) byte))

module _ (at : Context) (labels : List ℕ) where
  -- a statement of some form, with the owner that it has there
  pub stmt_laid : (a d : Written) (view s : TypedStmt) (own : Own) (n : ℕ) → view ≡ s → own ≡ own_of (tree_of at) (routine_of at) (end_of a.code) view →
      Lays a d n (λ pc ps. stmt_code (tree_of at) (routine_of at) labels own pc s ps) → n ≡ stmt_size (tree_of at) (routine_of at) s → LaysStmt at labels a d view
  stmt_laid a d view s own n is owned laid count =
      let tree = tree_of at in
      let routine = routine_of at in
      let its : own ≡ own_of tree routine (end_of a.code) s = subst (λ (t : TypedStmt). own ≡ own_of tree routine (end_of a.code) t) is owned in
      subst (λ t. LaysStmt at labels a d t) (sym is)
      (follows_as (stmt_size tree routine s) (λ pc ps. stmt_code tree routine labels (own_of tree routine pc s) pc s ps) laid count
      (λ ps. ap (λ o. stmt_code tree routine labels o (end_of a.code) s ps) its))

  pub label_laid : (a : Written) (view : TypedStmt) (own : Own) (begin number : ℕ) → view ≡ trees.Label begin number → own ≡ own_of (tree_of at) (routine_of at) (end_of a.code) view → LaysStmt at labels a a view
  label_laid a view own begin number is owned = stmt_laid a a view (trees.Label begin number) own 0 is owned (none_follows (with_placed a) (end_of a.code)) refl

  pub simple_laid : (a b : Written) (view : TypedStmt) (own : Own) → Simple (tree_of at) (routine_of at) view → own ≡ own_of (tree_of at) (routine_of at) (end_of a.code) view →
      Lays a b (1 + pieces_size (pieces (tree_of at) (routine_of at) view)) (λ pc ps. put own ops.Look (pieces_code (tree_of at) (routine_of at) labels own (pc + 1) (pieces (tree_of at) (routine_of at) view) ps)) → LaysStmt at labels a b view
  simple_laid a b view own simple owned laid =
      let tree = tree_of at in
      let routine = routine_of at in
      let size = 1 + pieces_size (pieces tree routine view) in
      stmt_laid a b view view own size refl owned
      (follows_as size (λ pc ps. stmt_code tree routine labels own pc view ps) laid refl (λ ps. sym (simple.code labels own (end_of a.code) ps)))
      (sym simple.size)

  pub if_laid : (a b c d : Written) (view : TypedStmt) (own : Own) (begin : ℕ) (arms : TypedArms) (other : TypedElse) → view ≡ trees.If begin arms other → own ≡ own_of (tree_of at) (routine_of at) (end_of a.code) view →
      Lays a b 1 (λ pc ps. put own ops.Look ps) → LaysArms at labels own b c (arms_in view) → LaysElse at labels c d (else_in view) → LaysStmt at labels a d view
  if_laid a b c d view own begin arms other is owned look laid others =
      stmt_laid a d view (trees.If begin arms other) own _ is owned
      (follows_then look (follows_then (subst (λ t. LaysArms at labels own b c (arms_in t)) is laid) (subst (λ t. LaysElse at labels c d (else_in t)) is others)))
      (omega arith)

  pub if_one_laid : (a b c d e : Written) (view : TypedStmt) (own : Own) (begin : ℕ) (test : TypedExpr) (then : TypedStmt) → view ≡ trees.IfOne begin test then → own ≡ own_of (tree_of at) (routine_of at) (end_of a.code) view →
      Lays a b 1 (λ pc ps. put own ops.Look ps) → Lays b c (expr_size test) (λ pc ps. expr_code (tree_of at) (routine_of at) own pc test ps) → Lays c d 1 (λ pc ps. put own (ops.JumpFalse own.next) ps) → LaysStmt at labels d e then → LaysStmt at labels a e view
  if_one_laid a b c d e view own begin test then is owned look tested jump laid =
      stmt_laid a e view (trees.IfOne begin test then) own _ is owned (follows_then look (follows_then tested (follows_then jump laid))) (omega arith)

  -- a FOR up to its Turn
  abbrev pub LaysBounds : Own → Written → Written → ℕ → Bounds → Type 0
  LaysBounds own old new variable b =
      let pieces = bounds_pieces variable (view_expr b.first) (view_expr b.last) (option_map view_expr b.step) in
      Lays old new (1 + pieces_size pieces) (λ pc ps. put own ops.Look (pieces_code (tree_of at) (routine_of at) labels own (pc + 1) pieces ps))

  pub for_laid : (a b c d e f : Written) (view : TypedStmt) (own : Own) (begin local : ℕ) (first last : TypedExpr) (step : Option TypedExpr) (list : TypedStmts) (turn : ℕ) →
      view ≡ trees.For begin local first last step list → own ≡ own_of (tree_of at) (routine_of at) (end_of a.code) view →
      let tree = tree_of at in let routine = routine_of at in let variable = local_start routine local in let bounds = bounds_pieces variable first last step in
      Lays a b (1 + pieces_size bounds) (λ pc ps. put own ops.Look (pieces_code tree routine labels own (pc + 1) bounds ps)) → turn ≡ end_of b.code →
      Lays b c 1 (λ pc ps. put own (ops.Turn variable own.next) ps) → Lays c d 1 (λ pc ps. put own ops.Look ps) →
      LaysList at labels d e list → Lays e f 1 (λ pc ps. put own (ops.Step variable turn) ps) → LaysStmt at labels a f view
  for_laid a b c d e f view own begin local first last step list turn is owned bounded place turned look laid stepped =
      let tree = tree_of at in
      let routine = routine_of at in
      let variable = local_start routine local in
      let bounds = bounds_pieces variable first last step in
      let size = pieces_size bounds in
      let s = trees.For begin local first last step list in
      let pc = end_of a.code in
      let here : turn ≡ pc + 1 + size = omega (arith, place, bounded.grown) in
      stmt_laid a f view s own (stmt_size tree routine s) is owned
      (follows_as (stmt_size tree routine s) (λ pc ps. stmt_code tree routine labels own pc s ps) (follows_then bounded (follows_then turned (follows_then look (follows_then laid stepped)))) (omega arith) (λ ps.
      ap (λ to. put own ops.Look (pieces_code tree routine labels own (pc + 1) bounds (put own (ops.Turn variable own.next) (put own ops.Look (stmts_code tree routine labels (pc + (1 + size) + 1 + 1) list (put own (ops.Step variable to) ps)))))) here
      ∙ ap (λ next. put own ops.Look (pieces_code tree routine labels own (pc + 1) bounds (put own (ops.Turn variable own.next) (put own ops.Look (stmts_code tree routine labels next list (put own (ops.Step variable (pc + 1 + size)) ps)))))) (omega arith)))
      refl

  pub while_laid : (a b c d e f : Written) (view : TypedStmt) (own : Own) (begin : ℕ) (test : TypedExpr) (list : TypedStmts) → view ≡ trees.While begin test list → own ≡ own_of (tree_of at) (routine_of at) (end_of a.code) view →
      Lays a b 1 (λ pc ps. put own ops.Look ps) → Lays b c (expr_size test) (λ pc ps. expr_code (tree_of at) (routine_of at) own pc test ps) → Lays c d 1 (λ pc ps. put own (ops.JumpFalse own.next) ps) →
      LaysList at labels d e list → Lays e f 1 (λ pc ps. put own (ops.Jump own.retry) ps) → LaysStmt at labels a f view
  while_laid a b c d e f view own begin test list is owned look tested jump laid back =
      stmt_laid a f view (trees.While begin test list) own _ is owned (follows_then look (follows_then tested (follows_then jump (follows_then laid back)))) (omega arith)

  pub test_laid : (a b c d e f : Written) (view : TypedStmt) (own : Own) (begin : ℕ) (value : TypedExpr) (cases : TypedCases) (other : TypedElse) → view ≡ trees.Test begin value cases other → own ≡ own_of (tree_of at) (routine_of at) (end_of a.code) view →
      Lays a b 1 (λ pc ps. put own ops.Look ps) → Lays b c (expr_size value) (λ pc ps. expr_code (tree_of at) (routine_of at) own pc value ps) → LaysCases at labels own c d (cases_in view) →
      Lays d e 1 (λ pc ps. put own ops.Drop ps) → LaysElse at labels e f (else_in view) → LaysStmt at labels a f view
  test_laid a b c d e f view own begin value cases other is owned look tested laid dropped others =
      stmt_laid a f view (trees.Test begin value cases other) own _ is owned
      (follows_then look (follows_then tested (follows_then (subst (λ t. LaysCases at labels own c d (cases_in t)) is laid) (follows_then dropped (subst (λ t. LaysElse at labels e f (else_in t)) is others)))))
      (omega arith)

  -- the parts of a statement that has none
  pub arms_laid : (own : Own) (a : Written) (arms : TypedArms) → arms ≡ trees.NoArms → LaysArms at labels own a a arms
  arms_laid own a arms none = subst (λ t. LaysArms at labels own a a t) (sym none) (none_follows (with_placed a) (end_of a.code))

  pub cases_laid : (own : Own) (a : Written) (cases : TypedCases) → cases ≡ trees.NoCases → LaysCases at labels own a a cases
  cases_laid own a cases none = subst (λ t. LaysCases at labels own a a t) (sym none) (none_follows (with_placed a) (end_of a.code))

  pub else_laid : (a : Written) (other : TypedElse) → other ≡ trees.NoElse → LaysElse at labels a a other
  else_laid a other none = subst (λ t. LaysElse at labels a a t) (sym none) (none_follows (with_placed a) (end_of a.code))

  pub other_laid : (a b : Written) (other : TypedElse) (list : TypedStmts) → other ≡ trees.Else list → LaysList at labels a b list → LaysElse at labels a b other
  other_laid a b other list some laid = subst (λ t. LaysElse at labels a b t) (sym some) laid
