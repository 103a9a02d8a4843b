-- Places of labels, found one by one.
use Rattle.std.proofs.Common.{◌≡◌, ℕ, ◌+◌, List, [], ◌∷◌, ◌++◌, Option, refl, sym, ap, subst, ◌∙◌, arith}
use Rattle.std.proofs.lemmas.List.{append-nil, append_assoc}
use Rattle.stack_code.specs.Pieces.{pieces}
use Rattle.stack_code.specs.Sizes.{arms_size, bounds_size, cases_size, else_size, expr_size, pieces_size, stmt_size, stmts_size, values_size}
use Rattle.stack_code.specs.StmtLayouts.{arms_labels, cases_labels, else_labels, stmt_labels, stmts_labels}
use Rattle.typed_trees.specs.Plain as trees
use Rattle.typed_trees.specs.Plain.{TypedArms, TypedCases, TypedElse, TypedExpr, TypedExprs, TypedStmt, TypedStmts, MoreArms, MoreCases, MoreStmts}
use Rattle.code_expr.specs.Contexts.{routine_of, tree_of}
use Rattle.code_expr.specs.declared.context.Context.{Context}
use Rattle.code_expr.proofs.Follow.{Left, left_step}
use Rattle.code_stmt.specs.Labelled.{Passes}
use Rattle.code_stmt.specs.Parts.{arms_in, cases_in, else_in}
use Rattle.code_stmt.proofs.Simple.{Simple}

-- the same labels, in more operations or with another count of them
pub passes_as : (old new : List ℕ) (first end n : ℕ) (labels : ℕ → List ℕ) (from to size : ℕ) (others : ℕ → List ℕ) → Passes old new first end n labels → to ≡ from + size → labels first ≡ others from → Passes old new from to size others
passes_as old new first end n labels from to size others h count same = record {
  grown = count;
  laid = λ more. h.laid more ∙ ap (λ xs. old ++ (xs ++ more)) same;
}

-- labels in two parts of a statement
pub passes_both : (old middle new : List ℕ) (first end n : ℕ) (labels : ℕ → List ℕ) (second past m : ℕ) (laters : ℕ → List ℕ) (from to size : ℕ) (others : ℕ → List ℕ) →
    Passes old middle first end n labels → Passes middle new second past m laters → to ≡ from + size → labels first ++ laters second ≡ others from → Passes old new from to size others
passes_both old middle new first end n labels second past m laters from to size others h k count same = record {
  grown = count;
  laid = λ more.
      k.laid more
      ∙ (h.laid (laters second ++ more)
      ∙ (ap (λ xs. old ++ xs) (sym (append_assoc (labels first) (laters second) more))
      ∙ ap (λ xs. old ++ (xs ++ more)) same));
}

-- what is found
pub labels_found : (old new : List ℕ) (from to n : ℕ) (labels : ℕ → List ℕ) → Passes old new from to n labels → new ≡ old ++ labels from
labels_found old new from to n labels found = sym (append-nil new) ∙ (found.laid [] ∙ ap (λ xs. old ++ xs) (append-nil (labels from)))

-- the labels of all of them are found except those that are left
abbrev pub LeftOf : List ℕ → List ℕ → ℕ → ℕ → ℕ → (ℕ → List ℕ) → ℕ → (ℕ → List ℕ) → Type 0
LeftOf old new from to n all k left = Left (λ more. old ++ more) (λ more. new ++ more) from to n (λ pc more. all pc ++ more) k (λ pc more. left pc ++ more)

abbrev pub LeftInList : Context → List ℕ → List ℕ → ℕ → ℕ → TypedStmts → TypedStmts → Type 0
LeftInList at old new from to all left = LeftOf old new from to
    (stmts_size (tree_of at) (routine_of at) all) (λ pc. stmts_labels (tree_of at) (routine_of at) pc all)
    (stmts_size (tree_of at) (routine_of at) left) (λ pc. stmts_labels (tree_of at) (routine_of at) pc left)

abbrev pub LeftInArms : Context → List ℕ → List ℕ → ℕ → ℕ → TypedArms → TypedArms → Type 0
LeftInArms at old new from to all left = LeftOf old new from to
    (arms_size (tree_of at) (routine_of at) all) (λ pc. arms_labels (tree_of at) (routine_of at) pc all)
    (arms_size (tree_of at) (routine_of at) left) (λ pc. arms_labels (tree_of at) (routine_of at) pc left)

abbrev pub LeftInCases : Context → List ℕ → List ℕ → ℕ → ℕ → TypedCases → TypedCases → Type 0
LeftInCases at old new from to all left = LeftOf old new from to
    (cases_size (tree_of at) (routine_of at) all) (λ pc. cases_labels (tree_of at) (routine_of at) pc all)
    (cases_size (tree_of at) (routine_of at) left) (λ pc. cases_labels (tree_of at) (routine_of at) pc left)

-- one more
one_more : (old middle new : List ℕ) (from pc to n m : ℕ) (all one : ℕ → List ℕ) (j : ℕ) (before : ℕ → List ℕ) (k : ℕ) (left : ℕ → List ℕ) →
    LeftOf old middle from pc n all j before → Passes middle new pc to m one → j ≡ m + k → before pc ≡ one pc ++ left (pc + m) → LeftOf old new from to n all k left
one_more old middle new from pc to n m all one j before k left was found count same =
    left_step k (λ at more. left at ++ more) was found count (λ more. ap (λ xs. xs ++ more) same ∙ append_assoc (one pc) (left (pc + m)) more)

pub one_stmt_passed : (at : Context) (old middle new : List ℕ) (from pc to : ℕ) (all rest : TypedStmts) (s : TypedStmt) →
    LeftInList at old middle from pc all (MoreStmts s rest) → Passes middle new pc to (stmt_size (tree_of at) (routine_of at) s) (λ p. stmt_labels (tree_of at) (routine_of at) p s) → LeftInList at old new from to all rest
one_stmt_passed at old middle new from pc to all rest s was found =
    one_more old middle new from pc to _ _ _ _ _ _ _ _ was found refl refl

pub one_arm_passed : (at : Context) (old middle new : List ℕ) (from pc first end to : ℕ) (all rest : TypedArms) (test : TypedExpr) (list : TypedStmts) →
    LeftInArms at old middle from pc all (MoreArms test list rest) → first ≡ pc + expr_size test + 1 →
    Passes middle new first end (stmts_size (tree_of at) (routine_of at) list) (λ p. stmts_labels (tree_of at) (routine_of at) p list) → to ≡ end + 1 → LeftInArms at old new from to all rest
one_arm_passed at old middle new from pc first end to all rest test list was place found past =
    let tree = tree_of at in
    let routine = routine_of at in
    let size = expr_size test + 1 + stmts_size tree routine list + 1 in
    one_more old middle new from pc to _ size _ (λ p. stmts_labels tree routine (p + expr_size test + 1) list) _ _ _ _ was
    (passes_as middle new first end _ _ pc to size (λ p. stmts_labels tree routine (p + expr_size test + 1) list) found (omega (arith, place, past, found.grown)) (ap (λ p. stmts_labels tree routine p list) place))
    refl (ap (λ p. stmts_labels tree routine (pc + expr_size test + 1) list ++ arms_labels tree routine p rest) (omega arith))

pub one_case_passed : (at : Context) (old middle new : List ℕ) (from pc first end to : ℕ) (all rest : TypedCases) (values : TypedExprs) (list : TypedStmts) →
    LeftInCases at old middle from pc all (MoreCases values list rest) → first ≡ pc + values_size values + 1 + 1 →
    Passes middle new first end (stmts_size (tree_of at) (routine_of at) list) (λ p. stmts_labels (tree_of at) (routine_of at) p list) → to ≡ end + 1 → LeftInCases at old new from to all rest
one_case_passed at old middle new from pc first end to all rest values list was place found past =
    let tree = tree_of at in
    let routine = routine_of at in
    let size = values_size values + 1 + 1 + stmts_size tree routine list + 1 in
    one_more old middle new from pc to _ size _ (λ p. stmts_labels tree routine (p + values_size values + 1 + 1) list) _ _ _ _ was
    (passes_as middle new first end _ _ pc to size (λ p. stmts_labels tree routine (p + values_size values + 1 + 1) list) found (omega (arith, place, past, found.grown)) (ap (λ p. stmts_labels tree routine p list) place))
    refl (ap (λ p. stmts_labels tree routine (pc + values_size values + 1 + 1) list ++ cases_labels tree routine p rest) (omega arith))

-- operations without labels
pub passes_none : (old : List ℕ) (from to size : ℕ) (labels : ℕ → List ℕ) → to ≡ from + size → labels from ≡ [] → Passes old old from to size labels
passes_none old from to size labels count none = record { grown = count; laid = λ more. ap (λ xs. old ++ (xs ++ more)) (sym none) }

module _ (at : Context) where
  abbrev pub PassesStmt : List ℕ → List ℕ → ℕ → ℕ → TypedStmt → Type 0
  PassesStmt old new from to s = Passes old new from to (stmt_size (tree_of at) (routine_of at) s) (λ pc. stmt_labels (tree_of at) (routine_of at) pc s)

  abbrev pub PassesList : List ℕ → List ℕ → ℕ → ℕ → TypedStmts → Type 0
  PassesList old new from to list = Passes old new from to (stmts_size (tree_of at) (routine_of at) list) (λ pc. stmts_labels (tree_of at) (routine_of at) pc list)

  abbrev pub PassesArms : List ℕ → List ℕ → ℕ → ℕ → TypedArms → Type 0
  PassesArms old new from to arms = Passes old new from to (arms_size (tree_of at) (routine_of at) arms) (λ pc. arms_labels (tree_of at) (routine_of at) pc arms)

  abbrev pub PassesCases : List ℕ → List ℕ → ℕ → ℕ → TypedCases → Type 0
  PassesCases old new from to cases = Passes old new from to (cases_size (tree_of at) (routine_of at) cases) (λ pc. cases_labels (tree_of at) (routine_of at) pc cases)

  abbrev pub PassesElse : List ℕ → List ℕ → ℕ → ℕ → TypedElse → Type 0
  PassesElse old new from to other = Passes old new from to (else_size (tree_of at) (routine_of at) other) (λ pc. else_labels (tree_of at) (routine_of at) pc other)

  pub label_passed : (old new : List ℕ) (pc : ℕ) (view : TypedStmt) (begin number : ℕ) → view ≡ trees.Label begin number → new ≡ old ++ pc ∷ [] → PassesStmt old new pc pc view
  label_passed old new pc view begin number is pushed = subst (λ s. PassesStmt old new pc pc s) (sym is) (record {
    grown = omega arith;
    laid = λ more. ap (λ xs. xs ++ more) pushed ∙ append_assoc old (pc ∷ []) more;
  })

  pub simple_passed : (old : List ℕ) (pc to : ℕ) (view : TypedStmt) → Simple (tree_of at) (routine_of at) view → to ≡ pc + 1 + pieces_size (pieces (tree_of at) (routine_of at) view) → PassesStmt old old pc to view
  simple_passed old pc to view simple place = passes_none old pc to _ _ (omega (arith, place, simple.size)) (simple.labels pc)

  pub if_passed : (old middle new : List ℕ) (pc first end to : ℕ) (view : TypedStmt) (begin : ℕ) (arms : TypedArms) (other : TypedElse) → view ≡ trees.If begin arms other → first ≡ pc + 1 →
      PassesArms old middle first end (arms_in view) → PassesElse middle new end to (else_in view) → PassesStmt old new pc to view
  if_passed old middle new pc first end to view begin arms other is place found others =
      let tree = tree_of at in
      let routine = routine_of at in
      let armed = subst (λ s. PassesArms old middle first end (arms_in s)) is found in
      let elsed = subst (λ s. PassesElse middle new end to (else_in s)) is others in
      subst (λ s. PassesStmt old new pc to s) (sym is)
      (passes_both old middle new first end _ _ end to _ _ pc to _ _ armed elsed (omega (arith, place, armed.grown, elsed.grown))
      (ap (λ p. arms_labels tree routine p arms ++ else_labels tree routine end other) place
      ∙ ap (λ p. arms_labels tree routine (pc + 1) arms ++ else_labels tree routine p other) (omega (arith, place, armed.grown))))

  pub if_one_passed : (old new : List ℕ) (pc first to : ℕ) (view : TypedStmt) (begin : ℕ) (test : TypedExpr) (then : TypedStmt) → view ≡ trees.IfOne begin test then → first ≡ pc + 1 + expr_size test + 1 →
      PassesStmt old new first to then → PassesStmt old new pc to view
  if_one_passed old new pc first to view begin test then is place found =
      subst (λ s. PassesStmt old new pc to s) (sym is)
      (passes_as old new first to _ _ pc to _ _ found (omega (arith, place, found.grown)) (ap (λ p. stmt_labels (tree_of at) (routine_of at) p then) place))

  pub for_passed : (old new : List ℕ) (pc first end to : ℕ) (view : TypedStmt) (begin local : ℕ) (low high : TypedExpr) (step : Option TypedExpr) (list : TypedStmts) → view ≡ trees.For begin local low high step list →
      first ≡ pc + 1 + bounds_size (routine_of at) local low high step + 1 + 1 → PassesList old new first end list → to ≡ end + 1 → PassesStmt old new pc to view
  for_passed old new pc first end to view begin local low high step list is place found past =
      subst (λ s. PassesStmt old new pc to s) (sym is)
      (passes_as old new first end _ _ pc to _ _ found (omega (arith, place, past, found.grown)) (ap (λ p. stmts_labels (tree_of at) (routine_of at) p list) place))

  pub while_passed : (old new : List ℕ) (pc first end to : ℕ) (view : TypedStmt) (begin : ℕ) (test : TypedExpr) (list : TypedStmts) → view ≡ trees.While begin test list →
      first ≡ pc + 1 + expr_size test + 1 → PassesList old new first end list → to ≡ end + 1 → PassesStmt old new pc to view
  while_passed old new pc first end to view begin test list is place found past =
      subst (λ s. PassesStmt old new pc to s) (sym is)
      (passes_as old new first end _ _ pc to _ _ found (omega (arith, place, past, found.grown)) (ap (λ p. stmts_labels (tree_of at) (routine_of at) p list) place))

  pub test_passed : (old middle new : List ℕ) (pc first end last to : ℕ) (view : TypedStmt) (begin : ℕ) (value : TypedExpr) (cases : TypedCases) (other : TypedElse) → view ≡ trees.Test begin value cases other → first ≡ pc + 1 + expr_size value →
      PassesCases old middle first end (cases_in view) → last ≡ end + 1 → PassesElse middle new last to (else_in view) → PassesStmt old new pc to view
  test_passed old middle new pc first end last to view begin value cases other is place found behind others =
      let tree = tree_of at in
      let routine = routine_of at in
      let cased = subst (λ s. PassesCases old middle first end (cases_in s)) is found in
      let elsed = subst (λ s. PassesElse middle new last to (else_in s)) is others in
      subst (λ s. PassesStmt old new pc to s) (sym is)
      (passes_both old middle new first end _ _ last to _ _ pc to _ _ cased elsed (omega (arith, place, behind, cased.grown, elsed.grown))
      (ap (λ p. cases_labels tree routine p cases ++ else_labels tree routine last other) place
      ∙ ap (λ p. cases_labels tree routine (pc + 1 + expr_size value) cases ++ else_labels tree routine p other) (omega (arith, place, behind, cased.grown))))

  -- the parts of a statement that has none
  pub arms_passed : (old : List ℕ) (pc : ℕ) (arms : TypedArms) → arms ≡ trees.NoArms → PassesArms old old pc pc arms
  arms_passed old pc arms none = subst (λ t. PassesArms old old pc pc t) (sym none) (passes_none old pc pc 0 (λ p. arms_labels (tree_of at) (routine_of at) p trees.NoArms) (omega arith) refl)

  pub cases_passed : (old : List ℕ) (pc : ℕ) (cases : TypedCases) → cases ≡ trees.NoCases → PassesCases old old pc pc cases
  cases_passed old pc cases none = subst (λ t. PassesCases old old pc pc t) (sym none) (passes_none old pc pc 0 (λ p. cases_labels (tree_of at) (routine_of at) p trees.NoCases) (omega arith) refl)

  pub else_passed : (old : List ℕ) (pc : ℕ) (other : TypedElse) → other ≡ trees.NoElse → PassesElse old old pc pc other
  else_passed old pc other none = subst (λ t. PassesElse old old pc pc t) (sym none) (passes_none old pc pc 0 (λ p. else_labels (tree_of at) (routine_of at) p trees.NoElse) (omega arith) refl)

  pub other_passed : (old new : List ℕ) (pc to : ℕ) (other : TypedElse) (list : TypedStmts) → other ≡ trees.Else list → PassesList old new pc to list → PassesElse old new pc to other
  other_passed old new pc to other list some found = subst (λ t. PassesElse old new pc to t) (sym some) found
