-- Statements, form by form.
use Rattle.std.proofs.Common.{◌≡◌, ◌↔◌, ℕ, ◌+◌, Bool, true, Option, Ok}
use Rattle.raw_trees.specs.Plain.{PlainExpr, PlainPlace, PlainStmt, PlainStmts, PlainArms, PlainCases, PlainElse, Assign, Call, Label, Goto, Return, Exit, Raise, Retry, TryNext, Connect, If, IfOne, For, While, Test, NoStmts, MoreStmts, NoArms, MoreArms, NoCases, MoreCases, NoElse, Else}
use Rattle.rapid_model.specs.declared.operator.Operator.TheVariants as operators
use Rattle.rapid_model.specs.declared.sort.Sort.{Sort}
use Rattle.rapid_model.specs.declared.sort.Sort.TheVariants as sorts
use Rattle.typed_trees.specs.Plain
use Rattle.typed_trees.specs.Plain.{TypedExpr, TypedPlace, TypedStmt, TypedStmts, TypedArms, TypedCases, TypedElse}
use Rattle.rule_checks.specs.declared.rule.TypeRule.{TypeRule}
use Rattle.rule_checks.specs.declared.rule.TypeRule.TheVariants.{NoLabel, LabelTwice, HandlerOnly}
use Rattle.rule_checks.specs.Checks.{◌>>=◌, must}
use Rattle.rule_checks.specs.TypeChecks.{Checked}
use Rattle.named_data.specs.declared.wanted.Wanted.TheVariants.{Is, Fits}
use Rattle.named_data.specs.Data.{named}
use Rattle.named_data.specs.Rules.{Site, at_byte}
use Rattle.expr_types.specs.Typing.{typed, sort_of}
use Rattle.stmt_types.specs.Bodies.{Body, Around, Typed, site, into, into_loop, target, place_sort, assigned, called, returned, raised, connected, bounds, counter_index, case_values, then_next, stmt, stmts, branches, choices, otherwise}
use Rattle.stmt_types.specs.Labels.{label_number, is_first, is_visible}
use Rattle.type_laws.specs.Expressions.{IsExpr}
use Rattle.type_laws.proofs.Steps.{in_words, done, then, where_it_holds}
use Rattle.type_laws.proofs.ExpressionLaws.{typed_law}
use Rattle.type_laws.specs.Statements.{IsTarget, IsStep, IsStmt, AreStmts, AreBranches, AreChoices, IsOtherwise}
use Rattle.type_laws.proofs.Sequences.{typed_is, alone, with_last, headed, in_sequence, headed_sequence}
use Rattle.type_laws.proofs.Places.{target_law}
use Rattle.type_laws.proofs.Connects.{connect_law}
use Rattle.type_laws.proofs.ProcedureCalls.{called_law}
use Rattle.type_laws.proofs.Returns.{return_law, raise_law}
use Rattle.type_laws.proofs.Parts.{bounds_law, case_values_law}

assign_law : (s : Site) (at : ℕ) (written : PlainPlace) (value : PlainExpr) (next : ℕ) (r : Typed TypedStmt)
    → (then_next next (assigned s at written value) ≡ Ok r)
    ↔ ((place : TypedPlace) × (u : TypedExpr) × IsTarget s written place × IsExpr s value (Is (place_sort place)) u × (r.tree ≡ Plain.Assign at place u) × (r.next ≡ next))
assign_law s at written value next r =
    in_words
    (alone next (assigned s at written value) r (λ t.
    then (target s written) _ t (target_law s written) (λ place.
    then (typed s value (Is (place_sort place))) _ t (typed_law s value (Is (place_sort place))) (λ u. done (Plain.Assign at place u) t))))
    (λ ((place, is_target, (u, is_value, is)), past). (place, u, is_target, is_value, is, past))
    (λ (place, u, is_target, is_value, is, past). ((place, is_target, (u, is_value, is)), past))

-- a form that is allowed if a rule holds
where_ruled : (s : Site) (holds : Bool) (at : ℕ) (rule : TypeRule) (tree : TypedStmt) (next : ℕ) (r : Typed TypedStmt)
    → (then_next next (must holds (at_byte s at rule) >>= (λ _. Ok tree)) ≡ Ok r) ↔ ((holds ≡ true) × (r.tree ≡ tree) × (r.next ≡ next))
where_ruled s holds at rule tree next r =
    in_words
    (alone next (must holds (at_byte s at rule) >>= (λ _. Ok tree)) r (λ t. where_it_holds s holds at rule _ t (done tree t)))
    (λ ((held, is), past). (held, is, past))
    (λ (held, is, past). ((held, is), past))

for_law : {AreInside : Typed TypedStmts → Type 0} (body : Body) (s : Site) (at : ℕ) (first last : PlainExpr) (step : Option PlainExpr) (list : Checked (Typed TypedStmts)) (next : ℕ) (r : Typed TypedStmt)
    → ((l : Typed TypedStmts) → (list ≡ Ok l) ↔ AreInside l)
    → ((bounds s first last step >>= (λ b. list >>= (λ l. Ok (record { tree = Plain.For at (counter_index body next) b.first b.last b.step l.tree; next = l.next })))) ≡ Ok r)
    ↔ ((f : TypedExpr) × (l : TypedExpr) × (u : Option TypedExpr) × (ts : TypedStmts) × IsExpr s first (Is sorts.Num) f × IsExpr s last (Is sorts.Num) l × IsStep s step u
    × AreInside (record { tree = ts; next = r.next }) × (r.tree ≡ Plain.For at (counter_index body next) f l u ts))
for_law body s at first last step list next r law =
    in_words
    (headed (bounds s first last step) list (λ b ts. Plain.For at (counter_index body next) b.first b.last b.step ts) r (bounds_law s first last step) law)
    (λ (b, ts, (is_first, is_last, is_step), are, is). (b.first, b.last, b.step, ts, is_first, is_last, is_step, are, is))
    (λ (f, l, u, ts, is_first, is_last, is_step, are, is). (record { first = f; last = l; step = u }, ts, (is_first, is_last, is_step), are, is))

mutual
  unfolding stmt stmts branches choices otherwise IsStmt AreStmts AreBranches AreChoices IsOtherwise

  pub stmt_law : (body : Body) (statement : PlainStmt) (around : Around) (next : ℕ) (r : Typed TypedStmt) → (stmt body statement around next ≡ Ok r) ↔ IsStmt body statement around next r.tree r.next
  stmt_law body (Assign at written value) around next r = assign_law (site body around at) at written value next r
  stmt_law body (Call at name args) around next r =
      let s : Site = site body around at in
      alone next (called s at name args) r (called_law s at name args (named s name))
  stmt_law body (Label at name) around next r = where_ruled (site body around at) (is_first name body.labels) at LabelTwice (Plain.Label at (label_number name.text body.labels)) next r
  stmt_law body (Goto at name) around next r = where_ruled (site body around at) (is_visible name.text around.labels) at NoLabel (Plain.Goto at (label_number name.text body.labels)) next r
  stmt_law body (Return at value) around next r = alone next (returned body (site body around at) at value) r (return_law body (site body around at) at value)
  stmt_law body (Exit at) around next r = typed_is (Plain.Exit at) next r
  stmt_law body (Raise at number) around next r = alone next (raised around (site body around at) at number) r (raise_law around (site body around at) at number)
  stmt_law body (Retry at) around next r = where_ruled (site body around at) around.handler at HandlerOnly (Plain.Retry at) next r
  stmt_law body (TryNext at) around next r = where_ruled (site body around at) around.handler at HandlerOnly (Plain.TryNext at) next r
  stmt_law body (Connect at written trap) around next r = alone next (connected (site body around at) at written trap) r (connect_law (site body around at) at written trap)
  stmt_law body (If at arms other) around next r =
      in_sequence (branches body arms (site body around at) around next) (otherwise body other around) (Plain.If at) r (branches_law body arms (site body around at) around next) (otherwise_law body other around)
  stmt_law body (IfOne at test simple) around next r =
      headed (typed (site body around at) test (Is sorts.Bool)) (stmt body simple around next) (Plain.IfOne at) r (typed_law (site body around at) test (Is sorts.Bool)) (stmt_law body simple around next)
  stmt_law body (For at name first last step list) around next r =
      for_law body (site body around at) at first last step (stmts body list (into_loop around next list) (next + 1)) next r (stmts_law body list (into_loop around next list) (next + 1))
  stmt_law body (While at test list) around next r =
      headed (typed (site body around at) test (Is sorts.Bool)) (stmts body list (into around list) next) (Plain.While at) r (typed_law (site body around at) test (Is sorts.Bool)) (stmts_law body list (into around list) next)
  stmt_law body (Test at value cases other) around next r =
      let s : Site = site body around at in
      headed_sequence (typed s value (Fits operators.Equal)) (λ u. choices body cases s (sort_of u) around next) (otherwise body other around) (Plain.Test at) r
      (typed_law s value (Fits operators.Equal)) (λ u. choices_law body cases s (sort_of u) around next) (otherwise_law body other around)

  pub stmts_law : (body : Body) (list : PlainStmts) (around : Around) (next : ℕ) (r : Typed TypedStmts) → (stmts body list around next ≡ Ok r) ↔ AreStmts body list around next r.tree r.next
  stmts_law body NoStmts around next r = typed_is Plain.NoStmts next r
  stmts_law body (MoreStmts first list) around next r =
      in_sequence (stmt body first around next) (stmts body list around) Plain.MoreStmts r (stmt_law body first around next) (stmts_law body list around)

  branches_law : (body : Body) (arms : PlainArms) (s : Site) (around : Around) (next : ℕ) (r : Typed TypedArms) → (branches body arms s around next ≡ Ok r) ↔ AreBranches body arms s around next r.tree r.next
  branches_law body NoArms s around next r = typed_is Plain.NoArms next r
  branches_law body (MoreArms test list arms) s around next r =
      headed_sequence (typed s test (Is sorts.Bool)) (λ u. stmts body list (into around list) next) (branches body arms s around) Plain.MoreArms r
      (typed_law s test (Is sorts.Bool)) (λ u. stmts_law body list (into around list) next) (branches_law body arms s around)

  choices_law : (body : Body) (cases : PlainCases) (s : Site) (sort : Sort) (around : Around) (next : ℕ) (r : Typed TypedCases) → (choices body cases s sort around next ≡ Ok r) ↔ AreChoices body cases s sort around next r.tree r.next
  choices_law body NoCases s sort around next r = typed_is Plain.NoCases next r
  choices_law body (MoreCases values list cases) s sort around next r =
      headed_sequence (case_values s sort values) (λ vs. stmts body list (into around list) next) (choices body cases s sort around) Plain.MoreCases r
      (case_values_law s sort values) (λ vs. stmts_law body list (into around list) next) (choices_law body cases s sort around)

  otherwise_law : (body : Body) (other : PlainElse) (around : Around) (next : ℕ) (r : Typed TypedElse) → (otherwise body other around next ≡ Ok r) ↔ IsOtherwise body other around next r.tree r.next
  otherwise_law body NoElse around next r = typed_is Plain.NoElse next r
  otherwise_law body (Else list) around next r = with_last (stmts body list (into around list) next) Plain.Else r (stmts_law body list (into around list) next)
