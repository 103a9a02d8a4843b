use Rattle.std.proofs.Common.{◌+◌, ◌++◌, map, ap, subst, sym, ◌∙◌}
use Rattle.std.proofs.lemmas.List.{append_assoc}
use Rattle.std.proofs.lemmas.Result.{on_ok_weaker}
use Rattle.rapid_meaning.specs.Layouts.{local_start}
use Rattle.stack_code.specs.StmtLayouts.{own_of}
use Rattle.stack_code.specs.declared.op.Op.TheVariants as ops
use Rattle.typed_trees.specs.Plain.{arms_of, cases_of, exprs_of, stmts_of}
use Rattle.typed_trees.specs.Views.{view_arm, view_case, view_expr, view_list, view_stmt}
use Rattle.code_expr.specs.Contexts.{routine_of, tree_of}
use Rattle.code_expr.proofs.Follow.{left_done}
use Rattle.code_expr.proofs.Laid.{put_as}
use Rattle.code_stmt.specs.Lays.{LaysStmt}
use Rattle.code_stmt.specs.Parts.{arms_in, cases_in, else_in}
use Rattle.code_stmt.specs.Sizing.{arms_sizes, cases_sizes, else_sizes, inner_sizes, stmt_sizes, stmts_sizes}
use Rattle.code_stmt.specs.Views.{view_own}
use Rattle.code_stmt.proofs.Forms.{for_form, form_is, if_form, if_other, no_arms, no_cases, no_else, test_form, test_other, while_form}
use Rattle.code_stmt.proofs.Layouts.{LaysBounds, arms_laid, cases_laid, else_laid, for_laid, if_laid, if_one_laid, label_laid, other_laid, simple_laid, test_laid, while_laid}
use Rattle.code_stmt.proofs.Lists.{one_arm_more, one_case_more, one_stmt_more}
use Rattle.code_stmt.proofs.Rows.{arms_end, arms_from, arms_more, cases_end, cases_from, cases_more, stmts_end, stmts_from, stmts_more}
use Rattle.code_stmt.proofs.Simple.{simple}
use Rattle.code_stmt.proofs.Sizings.{TakesArms, TakesCases, TakesList, TakingArms, TakingCases, TakingList, both_next, if_inside, test_inside}
use Rattle.code_stmt.proofs.statements.+statements.Goals as goal

pub add_stmt-returns-in-Label : goal.add_stmt-returns-in-Label
add_stmt-returns-in-Label t c =
    let at = c.args.context.now in
    let tree = tree_of at in
    let routine = routine_of at in
    let s = c.args.stmt.now in
    let there = ap (λ pc. own_of tree routine pc (view_stmt s)) c.in_ok-end.ensures in
    λ rest next.
    let own = c.in_ok-own.ensures (inner_sizes tree routine (view_stmt s) ++ rest) next in
    let label = form_is s _ c.in-Label.is in
    (label_laid at c.args.labels.now c.args.out.now (view_stmt s) (view_own c.in_ok-own.own) _ _ label (own.0 ∙ there), own.1 ∙ ap (λ v. inner_sizes tree routine v ++ rest) label)

pub add_stmt-returns-in_ok-add_arms-in-If : goal.add_stmt-returns-in_ok-add_arms-in-If
add_stmt-returns-in_ok-add_arms-in-If t c =
    let at = c.args.context.now in
    let tree = tree_of at in
    let routine = routine_of at in
    let s = c.args.stmt.now in
    let there = ap (λ pc. own_of tree routine pc (view_stmt s)) c.in_ok-end.ensures in
    let branch = if_form s _ _ c.in-If.is in
    on_ok_weaker c.add_else.result (λ others rest next.
    let own = c.in_ok-own.ensures (inner_sizes tree routine (view_stmt s) ++ rest) next in
    let arms = c.in_ok-add_arms-in-If.ensures _ (both_next _ _ (else_sizes tree routine (else_in (view_stmt s))) _ rest (if_inside tree routine (view_stmt s) _ _ _ branch) own.1) in
    let other = others rest arms.1 in (
      if_laid at c.args.labels.now c.args.out.now c.add_op.new.out c.add_arms.new.out c.add_else.new.out (view_stmt s) (view_own c.in_ok-own.own) _ _ _ branch (own.0 ∙ there)
          c.in_ok-add_op-in-If.ensures arms.0 other.0,
      other.1,
    )) c.add_else.ensures

pub add_stmt-returns-in_ok-add_op-in-IfOne-2 : goal.add_stmt-returns-in_ok-add_op-in-IfOne-2
add_stmt-returns-in_ok-add_op-in-IfOne-2 t c =
    let at = c.args.context.now in
    let tree = tree_of at in
    let routine = routine_of at in
    let s = c.args.stmt.now in
    let there = ap (λ pc. own_of tree routine pc (view_stmt s)) c.in_ok-end.ensures in
    let branch = form_is s _ c.in-IfOne.is in
    on_ok_weaker c.add_stmt.result (λ laid rest next.
    let own = c.in_ok-own.ensures (inner_sizes tree routine (view_stmt s) ++ rest) next in
    let one = laid rest (own.1 ∙ (ap (λ v. inner_sizes tree routine v ++ rest) branch ∙ ap (λ v. stmt_sizes tree routine (view_stmt v) ++ rest) (sym c.deref.ensures))) in (
      if_one_laid at c.args.labels.now c.args.out.now c.add_op-in-IfOne.new.out c.add_value.new.out c.add_op-in-IfOne-2.new.out c.add_stmt.new.out (view_stmt s) (view_own c.in_ok-own.own) _ _ _ branch (own.0 ∙ there)
          c.in_ok-add_op-in-IfOne.ensures c.in_ok-add_value-in-IfOne.ensures c.in_ok-add_op-in-IfOne-2.ensures
          (subst (λ v. LaysStmt at c.args.labels.now c.add_op-in-IfOne-2.new.out c.add_stmt.new.out (view_stmt v)) c.deref.ensures one.0),
      one.1,
    )) c.add_stmt.ensures

pub add_stmt-returns-in_ok-add_list-in-For : goal.add_stmt-returns-in_ok-add_list-in-For
add_stmt-returns-in_ok-add_list-in-For t c =
    let at = c.args.context.now in
    let tree = tree_of at in
    let routine = routine_of at in
    let s = c.args.stmt.now in
    let there = ap (λ pc. own_of tree routine pc (view_stmt s)) c.in_ok-end.ensures in
    let count = for_form s _ _ _ c.in-For.is in
    on_ok_weaker c.add_op-in-For-3.result (λ stepped rest next.
    let own = c.in_ok-own.ensures (inner_sizes tree routine (view_stmt s) ++ rest) next in
    let list = c.in_ok-add_list-in-For.ensures rest (own.1 ∙ ap (λ v. inner_sizes tree routine v ++ rest) count) in (
      for_laid at c.args.labels.now c.args.out.now c.add_bounds.new.out c.add_op-in-For.new.out c.add_op-in-For-2.new.out c.add_list.new.out c.add_op-in-For-3.new.out (view_stmt s) (view_own c.in_ok-own.own) _ _ _ _ _ _ c.in_ok-turn-in-For.turn
          count (own.0 ∙ there)
          (subst (λ b. LaysBounds at c.args.labels.now (view_own c.in_ok-own.own) c.args.out.now c.add_bounds.new.out (local_start routine c.in-For.local) b) c.deref-in-For.ensures c.in_ok-turn-in-For.ensures.laid) c.in_ok-turn-in-For.ensures.turn
          (put_as (ap (λ variable. ops.Turn variable c.in_ok-own.own.next) c.local_start-variable.ensures) c.in_ok-add_op-in-For.ensures)
          c.in_ok-add_op-in-For-2.ensures list.0
          (put_as (ap (λ variable. ops.Step variable c.in_ok-turn-in-For.turn) c.local_start-variable.ensures) stepped),
      list.1,
    )) c.add_op-in-For-3.ensures

pub add_stmt-returns-in_ok-add_list-in-While : goal.add_stmt-returns-in_ok-add_list-in-While
add_stmt-returns-in_ok-add_list-in-While t c =
    let at = c.args.context.now in
    let tree = tree_of at in
    let routine = routine_of at in
    let s = c.args.stmt.now in
    let there = ap (λ pc. own_of tree routine pc (view_stmt s)) c.in_ok-end.ensures in
    let repeat = while_form s _ _ c.in-While.is in
    on_ok_weaker c.add_op-in-While-3.result (λ back rest next.
    let own = c.in_ok-own.ensures (inner_sizes tree routine (view_stmt s) ++ rest) next in
    let list = c.in_ok-add_list-in-While.ensures rest (own.1 ∙ ap (λ v. inner_sizes tree routine v ++ rest) repeat) in (
      while_laid at c.args.labels.now c.args.out.now c.add_op-in-While.new.out c.add_value-in-While.new.out c.add_op-in-While-2.new.out c.add_list-in-While.new.out c.add_op-in-While-3.new.out (view_stmt s) (view_own c.in_ok-own.own) _ _ _
          repeat (own.0 ∙ there)
          c.in_ok-add_op-in-While.ensures c.in_ok-add_value-in-While.ensures c.in_ok-add_op-in-While-2.ensures list.0 back,
      list.1,
    )) c.add_op-in-While-3.ensures

pub add_stmt-returns-in_ok-add_op-in-Test-2 : goal.add_stmt-returns-in_ok-add_op-in-Test-2
add_stmt-returns-in_ok-add_op-in-Test-2 t c =
    let at = c.args.context.now in
    let tree = tree_of at in
    let routine = routine_of at in
    let s = c.args.stmt.now in
    let there = ap (λ pc. own_of tree routine pc (view_stmt s)) c.in_ok-end.ensures in
    let test = test_form s _ _ _ c.in-Test.is in
    on_ok_weaker c.add_else-in-Test.result (λ others rest next.
    let own = c.in_ok-own.ensures (inner_sizes tree routine (view_stmt s) ++ rest) next in
    let cases = c.in_ok-add_cases-in-Test.ensures _ (both_next _ _ (else_sizes tree routine (else_in (view_stmt s))) _ rest (test_inside tree routine (view_stmt s) _ _ _ _ test) own.1) in
    let other = others rest cases.1 in (
      test_laid at c.args.labels.now c.args.out.now c.add_op-in-Test.new.out c.add_value-in-Test.new.out c.add_cases.new.out c.add_op-in-Test-2.new.out c.add_else-in-Test.new.out (view_stmt s) (view_own c.in_ok-own.own) _ _ _ _
          test (own.0 ∙ there)
          c.in_ok-add_op-in-Test.ensures c.in_ok-add_value-in-Test.ensures cases.0 c.in_ok-add_op-in-Test-2.ensures other.0,
      other.1,
    )) c.add_else-in-Test.ensures

pub add_stmt-returns-in_default : goal.add_stmt-returns-in_default
add_stmt-returns-in_default t c =
    let at = c.args.context.now in
    let tree = tree_of at in
    let routine = routine_of at in
    let s = c.args.stmt.now in
    let there = ap (λ pc. own_of tree routine pc (view_stmt s)) c.in_ok-end.ensures in
    let not = c.in_default in
    let plain = simple tree routine s (record { label = not.not-Label; branch = not.not-If; one = not.not-IfOne; count = not.not-For; repeat = not.not-While; test = not.not-Test }) in
    on_ok_weaker c.add_simple.result (λ laid rest next.
    let own = c.in_ok-own.ensures (inner_sizes tree routine (view_stmt s) ++ rest) next in
    (simple_laid at c.args.labels.now c.args.out.now c.add_simple.new.out (view_stmt s) (view_own c.in_ok-own.own) plain (own.0 ∙ there) laid, own.1 ∙ ap (λ sizes. sizes ++ rest) plain.inside)) c.add_simple.ensures

pub add_list-loop-stmt-preserved : goal.add_list-loop-stmt-preserved
add_list-loop-stmt-preserved t c = λ rest next.
    let at = c.args.context.now in
    let list = c.deref-stmt-items.result.now in
    let left = stmts_from (c.loop-stmt.stmt-index + 1) list in
    let more = stmts_more list c.loop-stmt.stmt-index c.stmt-item.result c.loop-stmt-test.true c.stmt-item.is in
    let before = subst (λ l. TakingList at c.args.labels.now c.args.sizes.now c.loop-stmt.sizes c.args.out.now c.loop-stmt.out (stmts_from 0 list) l) more c.loop-stmt.invariant rest next in
    let one = c.in_ok-add_stmt.ensures (stmts_sizes (tree_of at) (routine_of at) left ++ rest) (before.1 ∙ append_assoc (stmt_sizes (tree_of at) (routine_of at) (view_stmt c.stmt-item.result)) _ rest) in
    (one_stmt_more at c.args.labels.now c.args.out.now c.loop-stmt.out c.add_stmt.new.out (stmts_from 0 list) left (view_stmt c.stmt-item.result) before.0 one.0, one.1)

pub add_list-returns : goal.add_list-returns
add_list-returns t c =
    let at = c.args.context.now in
    let list = c.deref-stmt-items.result.now in
    let end = stmts_end list c.loop-stmt.stmt-index c.loop-stmt-test.false in
    subst (λ stmts. TakesList at c.args.labels.now c.args.sizes.now c.loop-stmt.sizes c.args.out.now c.loop-stmt.out (stmts_of (map view_stmt stmts))) c.deref-stmt-items.ensures.value (λ rest next.
    let done = subst (λ left. TakingList at c.args.labels.now c.args.sizes.now c.loop-stmt.sizes c.args.out.now c.loop-stmt.out (stmts_from 0 list) left) end c.loop-stmt.invariant rest next in
    (left_done done.0, done.1))

pub add_arms-loop-test-preserved : goal.add_arms-loop-test-preserved
add_arms-loop-test-preserved t c = λ rest next.
    let at = c.args.context.now in
    let own = view_own c.args.own.now in
    let list = c.deref-test-items.result.now in
    let item = c.loop-test-item.result in
    let left = arms_from (c.loop-test.test-index + 1) list in
    let inside = stmts_sizes (tree_of at) (routine_of at) (stmts_of (view_list item.1)) in
    let others = arms_sizes (tree_of at) (routine_of at) left in
    let more = arms_more list c.loop-test.test-index item c.loop-test-test.true c.loop-test-item.is in
    let before = subst (λ l. TakingArms at c.args.labels.now own c.args.sizes.now c.loop-test.sizes c.args.out.now c.loop-test.out (arms_from 0 list) l) more c.loop-test.invariant rest next in
    let place = c.in_ok-behind_list.ensures _ ((inside ++ others) ++ rest) before.1 in
    let listed = c.in_ok-add_list.ensures (others ++ rest) (place.1 ∙ append_assoc inside others rest) in (
      one_arm_more at c.args.labels.now own c.args.out.now c.loop-test.out c.add_value.new.out c.add_op.new.out c.add_list.new.out c.add_op-in-loop-test.new.out (arms_from 0 list) left
          (view_expr item.0) (stmts_of (view_list item.1)) c.in_ok-behind_list.field-0 before.0
          c.in_ok-add_value.ensures place.0 c.in_ok-add_op.ensures listed.0 c.in_ok-add_op-2.ensures,
      listed.1,
    )

pub add_arms-returns-in_default : goal.add_arms-returns-in_default
add_arms-returns-in_default t c = λ rest next.
    let at = c.args.context.now in
    let none = no_arms c.args.stmt.now c.in_default.not-If in
    (arms_laid at c.args.labels.now (view_own c.args.own.now) c.args.out.now _ none, next ∙ ap (λ arms. arms_sizes (tree_of at) (routine_of at) arms ++ rest) none)

pub add_arms-returns : goal.add_arms-returns
add_arms-returns t c =
    let at = c.args.context.now in
    let own = view_own c.args.own.now in
    let list = c.deref-test-items.result.now in
    let end = arms_end list c.loop-test.test-index c.loop-test-test.false in
    let all = ap (λ arms. arms_of (map view_arm arms)) c.deref-test-items.ensures.value ∙ sym (ap arms_in (if_form c.args.stmt.now _ _ c.in-If.is)) in
    subst (λ arms. TakesArms at c.args.labels.now own c.args.sizes.now c.loop-test.sizes c.args.out.now c.loop-test.out arms) all (λ rest next.
    let done = subst (λ left. TakingArms at c.args.labels.now own c.args.sizes.now c.loop-test.sizes c.args.out.now c.loop-test.out (arms_from 0 list) left) end c.loop-test.invariant rest next in
    (left_done done.0, done.1))

pub add_cases-loop-values-preserved : goal.add_cases-loop-values-preserved
add_cases-loop-values-preserved t c = λ rest next.
    let at = c.args.context.now in
    let own = view_own c.args.own.now in
    let list = c.deref-values-items.result.now in
    let item = c.loop-values-item.result in
    let left = cases_from (c.loop-values.values-index + 1) list in
    let inside = stmts_sizes (tree_of at) (routine_of at) (stmts_of (view_list item.1)) in
    let others = cases_sizes (tree_of at) (routine_of at) left in
    let more = cases_more list c.loop-values.values-index item c.loop-values-test.true c.loop-values-item.is in
    let before = subst (λ l. TakingCases at c.args.labels.now own c.args.sizes.now c.loop-values.sizes c.args.out.now c.loop-values.out (cases_from 0 list) l) more c.loop-values.invariant rest next in
    let place = c.in_ok-behind_list.ensures _ ((inside ++ others) ++ rest) before.1 in
    let listed = c.in_ok-add_list.ensures (others ++ rest) (place.1 ∙ append_assoc inside others rest) in (
      one_case_more at c.args.labels.now own c.args.out.now c.loop-values.out c.add_values_of.new.out c.add_op.new.out c.add_op-in-loop-values.new.out c.add_list.new.out c.add_op-in-loop-values-2.new.out (cases_from 0 list) left
          (exprs_of (map view_expr item.0.items)) (stmts_of (view_list item.1)) c.in_ok-case_list.field-0 c.in_ok-behind_list.field-0 before.0
          c.in_ok-case_list.ensures c.in_ok-add_values_of.ensures place.0 c.in_ok-add_op.ensures c.in_ok-add_op-2.ensures listed.0 c.in_ok-add_op-3.ensures,
      listed.1,
    )

pub add_cases-returns-in_default : goal.add_cases-returns-in_default
add_cases-returns-in_default t c = λ rest next.
    let at = c.args.context.now in
    let none = no_cases c.args.stmt.now c.in_default.not-Test in
    (cases_laid at c.args.labels.now (view_own c.args.own.now) c.args.out.now _ none, next ∙ ap (λ cases. cases_sizes (tree_of at) (routine_of at) cases ++ rest) none)

pub add_cases-returns : goal.add_cases-returns
add_cases-returns t c =
    let at = c.args.context.now in
    let own = view_own c.args.own.now in
    let list = c.deref-values-items.result.now in
    let end = cases_end list c.loop-values.values-index c.loop-values-test.false in
    let all = ap (λ cases. cases_of (map view_case cases)) c.deref-values-items.ensures.value ∙ sym (ap cases_in (test_form c.args.stmt.now _ _ _ c.in-Test.is)) in
    subst (λ cases. TakesCases at c.args.labels.now own c.args.sizes.now c.loop-values.sizes c.args.out.now c.loop-values.out cases) all (λ rest next.
    let done = subst (λ left. TakingCases at c.args.labels.now own c.args.sizes.now c.loop-values.sizes c.args.out.now c.loop-values.out (cases_from 0 list) left) end c.loop-values.invariant rest next in
    (left_done done.0, done.1))

pub add_else-returns-in-Some : goal.add_else-returns-in-Some
add_else-returns-in-Some t c = on_ok_weaker c.add_list.result (λ laid rest next.
    let at = c.args.context.now in
    let some = if_other c.args.stmt.now _ _ _ c.in-If.is c.in-Some.is in
    let listed = laid rest (next ∙ ap (λ other. else_sizes (tree_of at) (routine_of at) other ++ rest) some) in
    (other_laid at c.args.labels.now c.args.out.now c.add_list.new.out _ _ some listed.0, listed.1)) c.add_list.ensures

pub add_else-returns-in-Some-other : goal.add_else-returns-in-Some-other
add_else-returns-in-Some-other t c = on_ok_weaker c.add_list-in-Some-other.result (λ laid rest next.
    let at = c.args.context.now in
    let some = test_other c.args.stmt.now _ _ _ _ c.in-Test.is c.in-Some-other.is in
    let listed = laid rest (next ∙ ap (λ other. else_sizes (tree_of at) (routine_of at) other ++ rest) some) in
    (other_laid at c.args.labels.now c.args.out.now c.add_list-in-Some-other.new.out _ _ some listed.0, listed.1)) c.add_list-in-Some-other.ensures

pub add_else-returns-in-None : goal.add_else-returns-in-None
add_else-returns-in-None t c = λ rest next.
    let at = c.args.context.now in
    let none = if_other c.args.stmt.now _ _ _ c.in-If.is c.in-None.is in
    (else_laid at c.args.labels.now c.args.out.now _ none, next ∙ ap (λ other. else_sizes (tree_of at) (routine_of at) other ++ rest) none)

pub add_else-returns-in-None-other : goal.add_else-returns-in-None-other
add_else-returns-in-None-other t c = λ rest next.
    let at = c.args.context.now in
    let none = test_other c.args.stmt.now _ _ _ _ c.in-Test.is c.in-None-other.is in
    (else_laid at c.args.labels.now c.args.out.now _ none, next ∙ ap (λ other. else_sizes (tree_of at) (routine_of at) other ++ rest) none)

pub add_else-returns-in_default : goal.add_else-returns-in_default
add_else-returns-in_default t c = λ rest next.
    let at = c.args.context.now in
    let none = no_else c.args.stmt.now c.in_default.not-If c.in_default.not-Test in
    (else_laid at c.args.labels.now c.args.out.now _ none, next ∙ ap (λ other. else_sizes (tree_of at) (routine_of at) other ++ rest) none)
