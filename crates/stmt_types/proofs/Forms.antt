-- Statements by their forms.
use Rattle.std.proofs.Common.{◌≡◌, ℕ, ◌+◌, ◌≤◌, List, [], ◌++◌, length, map, drop, Option, Some, Result, Ok, Err, option_map, refl, sym, ap, ◌∙◌, append_assoc}
use Rattle.std.proofs.Math.ListN.{drop_of_length-le}
use Rattle.std.proofs.lemmas.List.{append-nil}
use Rattle.std.specs.declared.alloc.Global.{Global}
use Rattle.std.specs.declared.boxed.Box.{Box}
use Rattle.std.specs.declared.vec.Vec.{Vec}
use Rattle.raw_trees.specs.declared.raw_bounds.RawBounds.{RawBounds}
use Rattle.rapid_model.specs.declared.operator.Operator.TheVariants as operators
use Rattle.raw_trees.specs.declared.raw_expr.RawExpr.{RawExpr}
use Rattle.raw_trees.specs.declared.raw_name.RawName.{RawName}
use Rattle.raw_trees.specs.declared.raw_stmt.RawStmt.{RawStmt}
use Rattle.raw_trees.specs.declared.raw_stmt.RawForm.{RawForm, If, If', For, While, Test, Test', roll-RawForm, roll-out-RawForm}
use Rattle.raw_trees.specs.declared.raw_stmt.RawForm.TheVariants.{outs-If', rolls-If, outs-Test', rolls-Test}
use Rattle.raw_trees.specs.Plain as spelled
use Rattle.raw_trees.specs.Plain.{PlainExpr, PlainName, PlainCases, PlainElse, NoArms, NoCases, arms_of as raw_arms_of, cases_of as raw_cases_of, else_of as raw_else_of, stmts_of as raw_stmts_of}
use Rattle.raw_trees.specs.Views.{view_arm as view_raw_arm, view_case as view_raw_case, view_expr as view_raw, view_list as view_raw_list, view_stmt as view_raw_stmt, view_stmt_form as view_raw_form}
use Rattle.raw_trees.proofs.Rows.{choice_view, for_view, test_view, while_view}
use Rattle.rapid_model.specs.declared.sort.Sort.TheVariants as sorts
use Rattle.typed_trees.specs.declared.stmt.Stmt.{Stmt}
use Rattle.typed_trees.specs.Plain
use Rattle.typed_trees.specs.Views.{view_stmt}
use Rattle.rule_checks.specs.declared.fault.TypeFault.{TypeFault}
use Rattle.rule_checks.specs.declared.fault.TypeFault.TheVariants.{Rule, Memory}
use Rattle.rule_checks.specs.Checks.{◌>>=◌}
use Rattle.rule_checks.specs.TypeChecks.{Checked, Gives}
use Rattle.named_data.specs.declared.wanted.Wanted.TheVariants.{Is, Fits}
use Rattle.expr_types.specs.Typing.{typed, sort_of}
use Rattle.stmt_types.specs.Bodies.{Around, Body, Bounds, Typed, bounds, choices, counter_index, otherwise, site, stmt, then_next, with_next}
use Rattle.stmt_types.specs.Labels.{labels_in, labels_in_arms, labels_in_cases, labels_in_else, labels_of}
use Rattle.stmt_types.specs.Parts.{arms_in, cases_in, else_in}
use Rattle.stmt_types.proofs.Lists.{inside}

-- an IF and a TEST, made of the Vecs that the form was made of
if_is : (shape : _) (row : _) (else : _) → (arms : Vec (RawExpr × Vec RawStmt Global) Global) × ((other : Option (Vec RawStmt Global)) × (If' shape row else ≡ If arms other))
if_is shape row else =
    (_, (_, sym (roll-out-RawForm (If' shape row else)) ∙ ap roll-RawForm (outs-If' shape row else) ∙ rolls-If _ _))

test_is : (value : RawExpr) (shape : _) (row : _) (else : _) → (cases : Vec (Vec RawExpr Global × Vec RawStmt Global) Global) × ((other : Option (Vec RawStmt Global)) × (Test' value shape row else ≡ Test value cases other))
test_is value shape row else =
    (_, (_, sym (roll-out-RawForm (Test' value shape row else)) ∙ ap roll-RawForm (outs-Test' value shape row else) ∙ rolls-Test _ _ _))

pub no_arms : (at : ℕ) (form : RawForm) → ((arms : Vec (RawExpr × Vec RawStmt Global) Global) (other : Option (Vec RawStmt Global)) → form ≡ If arms other → ⊥) → arms_in (view_raw_form at form) ≡ NoArms
no_arms at (If' shape row else) differs = let is = if_is shape row else in absurd (differs is.0 is.1.0 is.1.1)
no_arms at form differs = refl

pub no_cases : (at : ℕ) (form : RawForm) → ((value : RawExpr) (cases : Vec (Vec RawExpr Global × Vec RawStmt Global) Global) (other : Option (Vec RawStmt Global)) → form ≡ Test value cases other → ⊥) → cases_in (view_raw_form at form) ≡ NoCases
no_cases at (Test' value shape row else) differs = let is = test_is value shape row else in absurd (differs value is.0 is.1.0 is.1.1)
no_cases at form differs = refl

module _ (s : RawStmt) where
  -- the arms of an IF and the cases of a TEST
  pub if_arms : (arms : Vec (RawExpr × Vec RawStmt Global) Global) (other : Option (Vec RawStmt Global)) → s.form ≡ If arms other →
      arms_in (view_raw_stmt s) ≡ raw_arms_of (map view_raw_arm arms.items)
  if_arms arms other is = ap arms_in (ap (view_raw_form s.at) is ∙ choice_view s.at arms other)

  pub test_cases : (value : RawExpr) (cases : Vec (Vec RawExpr Global × Vec RawStmt Global) Global) (other : Option (Vec RawStmt Global)) → s.form ≡ Test value cases other →
      cases_in (view_raw_stmt s) ≡ raw_cases_of (map view_raw_case cases.items)
  test_cases value cases other is = ap cases_in (ap (view_raw_form s.at) is ∙ test_view s.at value cases other)

  -- an IF and a TEST of the lists in them
  pub if_parts : (arms : Vec (RawExpr × Vec RawStmt Global) Global) (other : Option (Vec RawStmt Global)) → s.form ≡ If arms other →
      view_raw_stmt s ≡ spelled.If s.at (arms_in (view_raw_stmt s)) (else_in (view_raw_stmt s))
  if_parts arms other is = let whole = ap (view_raw_form s.at) is ∙ choice_view s.at arms other in whole ∙ ap (λ p. spelled.If s.at (arms_in p) (else_in p)) (sym whole)

  pub test_parts : (value : RawExpr) (cases : Vec (Vec RawExpr Global × Vec RawStmt Global) Global) (other : Option (Vec RawStmt Global)) → s.form ≡ Test value cases other →
      view_raw_stmt s ≡ spelled.Test s.at (view_raw value) (cases_in (view_raw_stmt s)) (else_in (view_raw_stmt s))
  test_parts value cases other is = let whole = ap (view_raw_form s.at) is ∙ test_view s.at value cases other in whole ∙ ap (λ p. spelled.Test s.at (view_raw value) (cases_in p) (else_in p)) (sym whole)

-- ELSE or DEFAULT with a list
abbrev pub as_else : Typed Plain.TypedStmts → Checked (Typed Plain.TypedElse)
as_else l = Ok (record { tree = Plain.Else l.tree; next = l.next })

else_given : (body : Body) (around : Around) (next : ℕ) (list : Vec RawStmt Global) (other : Option (Vec RawStmt Global)) → other ≡ Some list →
    otherwise body (raw_else_of (option_map view_raw_list other)) around next ≡ (inside body around list next >>= as_else)
unfolding otherwise
else_given body around next list other is = ap (λ o. otherwise body (raw_else_of (option_map view_raw_list o)) around next) is

-- a FOR, a WHILE and a TEST of these parts
abbrev pub as_for : Body → ℕ → ℕ → Bounds → Typed Plain.TypedStmts → Checked (Typed Plain.TypedStmt)
as_for body at loop b l = Ok (record { tree = Plain.For at (counter_index body loop) b.first b.last b.step l.tree; next = l.next })

abbrev pub as_while : ℕ → Plain.TypedExpr → Typed Plain.TypedStmts → Checked (Typed Plain.TypedStmt)
as_while at t l = Ok (record { tree = Plain.While at t l.tree; next = l.next })

abbrev pub as_test : ℕ → Plain.TypedExpr → Typed Plain.TypedCases → Typed Plain.TypedElse → Checked (Typed Plain.TypedStmt)
as_test at t c o = Ok (record { tree = Plain.Test at t c.tree o.tree; next = o.next })

module _ (body : Body) (s : RawStmt) (around : Around) (next : ℕ) where
  pub if_given : (arms : Vec (RawExpr × Vec RawStmt Global) Global) (other : Option (Vec RawStmt Global)) (list : Vec RawStmt Global) → s.form ≡ If arms other → other ≡ Some list →
      otherwise body (else_in (view_raw_stmt s)) around next ≡ (inside body around list next >>= as_else)
  if_given arms other list is some =
      ap (λ e. otherwise body (else_in e) around next) (ap (view_raw_form s.at) is ∙ choice_view s.at arms other) ∙ else_given body around next list other some

  pub test_given : (value : RawExpr) (cases : Vec (Vec RawExpr Global × Vec RawStmt Global) Global) (other : Option (Vec RawStmt Global)) (list : Vec RawStmt Global) → s.form ≡ Test value cases other → other ≡ Some list →
      otherwise body (else_in (view_raw_stmt s)) around next ≡ (inside body around list next >>= as_else)
  test_given value cases other list is some =
      ap (λ e. otherwise body (else_in e) around next) (ap (view_raw_form s.at) is ∙ test_view s.at value cases other) ∙ else_given body around next list other some

module _ (body : Body) (around : Around) (next at : ℕ) where
  pub stmt_for : (name : PlainName) (first last : PlainExpr) (step : Option PlainExpr) (list : Vec RawStmt Global) →
      stmt body (spelled.For at name first last step (raw_stmts_of (view_raw_list list))) around next
      ≡ (bounds (site body around at) first last step >>= (λ b. inside body (record around { within = Some next }) list (next + 1) >>= as_for body at next b))
  unfolding stmt
  stmt_for name first last step list = refl

  pub stmt_while : (test : PlainExpr) (list : Vec RawStmt Global) →
      stmt body (spelled.While at test (raw_stmts_of (view_raw_list list))) around next ≡ (typed (site body around at) test (Is sorts.Bool) >>= (λ t. inside body around list next >>= as_while at t))
  unfolding stmt
  stmt_while test list = refl

  pub stmt_test : (value : PlainExpr) (cases : PlainCases) (other : PlainElse) →
      stmt body (spelled.Test at value cases other) around next
      ≡ (typed (site body around at) value (Fits operators.Equal) >>= (λ t.
      choices body cases (site body around at) (sort_of t) around next >>= (λ c. otherwise body other around c.next >>= as_test at t c)))
  unfolding stmt
  stmt_test value cases other = refl

-- what a statement without lists gives, with the number of the next FOR
pub gives_next : (next : ℕ) (result : Result Stmt TypeFault) (checked : Checked Plain.TypedStmt) → Gives view_stmt result checked → Gives (λ tree. with_next next (view_stmt tree)) result (then_next next checked)
gives_next next (Ok tree) checked is = ap (then_next next) is
gives_next next (Err (Rule number at rule)) checked is = ap (then_next next) is
gives_next next (Err Memory) checked is = tt

-- The labels of a statement, with those of its parts appended in turn.
then_else : (before done here other : List PlainName) → done ++ [] ≡ before ++ here → before ++ (here ++ other) ≡ done ++ other
then_else before done here other is = sym (append_assoc before here other) ∙ ap (λ xs. xs ++ other) (sym is ∙ append-nil done)

module _ (s : RawStmt) (before done : List PlainName) where
  pub if_labels : (arms : Vec (RawExpr × Vec RawStmt Global) Global) (other : Option (Vec RawStmt Global)) (items : List (RawExpr × Vec RawStmt Global)) (i : ℕ) → s.form ≡ If arms other → items ≡ arms.items → length items ≤ i →
      done ++ labels_in_arms (raw_arms_of (map view_raw_arm (drop i items))) ≡ before ++ labels_in_arms (raw_arms_of (map view_raw_arm items)) →
      before ++ labels_of (view_raw_stmt s) ≡ done ++ labels_in_else (raw_else_of (option_map view_raw_list other))
  if_labels arms other items i is all end inv =
      let rest = labels_in_else (raw_else_of (option_map view_raw_list other)) in
      let none : drop i items ≡ [] = drop_of_length-le items end in
      ap (λ p. before ++ labels_of p) (ap (view_raw_form s.at) is ∙ choice_view s.at arms other)
      ∙ ap (λ xs. before ++ (labels_in_arms (raw_arms_of (map view_raw_arm xs)) ++ rest)) (sym all)
      ∙ then_else before done (labels_in_arms (raw_arms_of (map view_raw_arm items))) rest (ap (λ xs. done ++ labels_in_arms (raw_arms_of (map view_raw_arm xs))) (sym none) ∙ inv)

  pub test_labels : (value : RawExpr) (cases : Vec (Vec RawExpr Global × Vec RawStmt Global) Global) (other : Option (Vec RawStmt Global)) (items : List (Vec RawExpr Global × Vec RawStmt Global)) (i : ℕ) → s.form ≡ Test value cases other → items ≡ cases.items → length items ≤ i →
      done ++ labels_in_cases (raw_cases_of (map view_raw_case (drop i items))) ≡ before ++ labels_in_cases (raw_cases_of (map view_raw_case items)) →
      before ++ labels_of (view_raw_stmt s) ≡ done ++ labels_in_else (raw_else_of (option_map view_raw_list other))
  test_labels value cases other items i is all end inv =
      let rest = labels_in_else (raw_else_of (option_map view_raw_list other)) in
      let none : drop i items ≡ [] = drop_of_length-le items end in
      ap (λ p. before ++ labels_of p) (ap (view_raw_form s.at) is ∙ test_view s.at value cases other)
      ∙ ap (λ xs. before ++ (labels_in_cases (raw_cases_of (map view_raw_case xs)) ++ rest)) (sym all)
      ∙ then_else before done (labels_in_cases (raw_cases_of (map view_raw_case items))) rest (ap (λ xs. done ++ labels_in_cases (raw_cases_of (map view_raw_case xs))) (sym none) ∙ inv)

module _ (s : RawStmt) where
  pub for_labels : (name : RawName) (raw : Box RawBounds Global) (list : Vec RawStmt Global) → s.form ≡ For name raw list → labels_of (view_raw_stmt s) ≡ labels_in (raw_stmts_of (view_raw_list list))
  for_labels name raw list is = ap labels_of (ap (view_raw_form s.at) is ∙ for_view s.at name raw list)

  pub while_labels : (test : RawExpr) (list : Vec RawStmt Global) → s.form ≡ While test list → labels_of (view_raw_stmt s) ≡ labels_in (raw_stmts_of (view_raw_list list))
  while_labels test list is = ap labels_of (ap (view_raw_form s.at) is ∙ while_view s.at test list)
