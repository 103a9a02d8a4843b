use Rattle.std.proofs.Common.{◌+◌, ◌++◌, map, option_map, ap, subst, sym, arith, ◌∙◌}
use Rattle.std.proofs.lemmas.Result.{IfOk-weaker, on_ok_weaker}
use Rattle.rapid_meaning.specs.Layouts.{local_start}
use Rattle.stack_code.specs.Pieces.{bounds_pieces}
use Rattle.stack_code.specs.Sizes.{pieces_size, stmt_size, stmts_size}
use Rattle.typed_trees.specs.Plain.{arms_of, cases_of, stmts_of}
use Rattle.typed_trees.specs.Views.{view_arm, view_case, view_expr, view_list, view_stmt}
use Rattle.typed_trees.specs.declared.bounds.Bounds.{Bounds}
use Rattle.code_expr.specs.Contexts.{routine_of, tree_of}
use Rattle.code_expr.proofs.Follow.{left_done}
use Rattle.code_stmt.specs.Parts.{arms_in, cases_in}
use Rattle.code_stmt.specs.Sizing.{arms_sizes, cases_sizes, else_sizes, inner_sizes, list_sizes, stmt_sizes, stmts_sizes}
use Rattle.code_stmt.proofs.Forms.{for_form, form_is, if_form, if_other, no_arms, no_cases, no_else, test_form, test_other, while_form}
use Rattle.code_stmt.proofs.Labels.{PassesArms, PassesCases, PassesList, PassesStmt, arms_passed, cases_passed, else_passed, for_passed, if_one_passed, if_passed, label_passed, one_arm_passed, one_case_passed, one_stmt_passed, other_passed, simple_passed, test_passed, while_passed}
use Rattle.code_stmt.proofs.Rows.{arms_end, arms_from, arms_more, cases_end, cases_from, cases_more, stmts_end, stmts_from, stmts_more}
use Rattle.code_stmt.proofs.Simple.{simple}
use Rattle.code_stmt.proofs.Sizings.{FindsArms, FindsCases, FindsList, all_found, both_found, if_inside, none_found, one_found, slot_filled, test_inside}
use Rattle.code_stmt.proofs.ends.+ends.Goals as goal

pub behind_stmt-returns-clause-sizes : goal.behind_stmt-returns-clause-sizes
behind_stmt-returns-clause-sizes t c =
    let at = c.args.context.now in
    let s = view_stmt c.args.stmt.now in
    slot_filled c.args.sizes.now.items c.push.new.self.items c.behind_inside.new.sizes.items (inner_sizes (tree_of at) (routine_of at) s) c.len-slot.result _ (stmt_size (tree_of at) (routine_of at) s)
    c.in_ok-push.ensures.items c.in_ok-end.ensures.sizes (omega (arith, c.len-slot.ensures, c.args.sizes.now.ok.0)) (omega (arith, c.in_ok-end.ensures.passed.grown))

pub behind_inside-returns-in_ok-push-in-Label-clause-passed : goal.behind_inside-returns-in_ok-push-in-Label-clause-passed
behind_inside-returns-in_ok-push-in-Label-clause-passed t c =
    let s = c.args.stmt.now in
    label_passed c.args.context.now c.args.labels.now.items c.push.new.self.items c.args.pc (view_stmt s) _ _ (form_is s _ c.in-Label.is) c.in_ok-push-in-Label.ensures.items

pub behind_inside-returns-in_ok-push-in-Label-clause-sizes : goal.behind_inside-returns-in_ok-push-in-Label-clause-sizes
behind_inside-returns-in_ok-push-in-Label-clause-sizes t c =
    let at = c.args.context.now in
    none_found _ _ (ap (inner_sizes (tree_of at) (routine_of at)) (form_is c.args.stmt.now _ c.in-Label.is))

pub behind_inside-returns-in_ok-end-in-If-clause-passed : goal.behind_inside-returns-in_ok-end-in-If-clause-passed
behind_inside-returns-in_ok-end-in-If-clause-passed t c =
    let s = c.args.stmt.now in
    IfOk-weaker c.behind_else.result _ _ (λ to others.
    if_passed c.args.context.now c.args.labels.now.items c.behind_arms.new.labels.items c.behind_else.new.labels.items c.args.pc c.in_ok-sum-in-If.field-0 c.in_ok-end-in-If.end to (view_stmt s) _ _ _ (if_form s _ _ c.in-If.is)
    c.in_ok-sum-in-If.ensures c.in_ok-end-in-If.ensures.passed others) c.behind_else.ensures.passed

pub behind_inside-returns-in_ok-end-in-If-clause-sizes : goal.behind_inside-returns-in_ok-end-in-If-clause-sizes
behind_inside-returns-in_ok-end-in-If-clause-sizes t c =
    let at = c.args.context.now in
    let s = c.args.stmt.now in
    on_ok_weaker c.behind_else.result (λ others. both_found _ _ _ _ _ _ c.in_ok-end-in-If.ensures.sizes others (if_inside (tree_of at) (routine_of at) (view_stmt s) _ _ _ (if_form s _ _ c.in-If.is))) c.behind_else.ensures.sizes

pub behind_inside-returns-in_ok-first-in-IfOne-clause-passed : goal.behind_inside-returns-in_ok-first-in-IfOne-clause-passed
behind_inside-returns-in_ok-first-in-IfOne-clause-passed t c =
    let at = c.args.context.now in
    let s = c.args.stmt.now in
    let first = c.in_ok-first-in-IfOne.first in
    IfOk-weaker c.behind_stmt.result _ _ (λ to found.
    if_one_passed at c.args.labels.now.items c.behind_stmt.new.labels.items c.args.pc first to (view_stmt s) _ _ _ (form_is s _ c.in-IfOne.is)
    (omega (arith, c.in_ok-sum-in-IfOne.ensures, c.in_ok-expr_size-in-IfOne.ensures, c.in_ok-sum-in-IfOne-2.ensures, c.in_ok-first-in-IfOne.ensures))
    (subst (λ one. PassesStmt at c.args.labels.now.items c.behind_stmt.new.labels.items first to (view_stmt one)) c.deref.ensures found)) c.behind_stmt.ensures.passed

pub behind_inside-returns-in_ok-first-in-IfOne-clause-sizes : goal.behind_inside-returns-in_ok-first-in-IfOne-clause-sizes
behind_inside-returns-in_ok-first-in-IfOne-clause-sizes t c =
    let at = c.args.context.now in
    let s = c.args.stmt.now in
    let inside = ap (λ one. stmt_sizes (tree_of at) (routine_of at) (view_stmt one)) c.deref.ensures ∙ ap (inner_sizes (tree_of at) (routine_of at)) (sym (form_is s _ c.in-IfOne.is)) in
    on_ok_weaker c.behind_stmt.result (λ found. found ∙ ap (λ sizes. c.args.sizes.now.items ++ sizes) inside) c.behind_stmt.ensures.sizes

pub behind_inside-returns-in_ok-end-in-For-clause-passed : goal.behind_inside-returns-in_ok-end-in-For-clause-passed
behind_inside-returns-in_ok-end-in-For-clause-passed t c =
    let at = c.args.context.now in
    let s = c.args.stmt.now in
    let variable = local_start (routine_of at) c.in-For.local in
    let size = ap pieces_size c.in_ok-bounds_pieces-in-For.ensures ∙ ap (λ (b : Bounds). pieces_size (bounds_pieces variable (view_expr b.first) (view_expr b.last) (option_map view_expr b.step))) c.deref-in-For.ensures in
    IfOk-weaker c.sum-in-For-4.result _ _ (λ to past.
    for_passed at c.args.labels.now.items c.behind_list.new.labels.items c.args.pc c.in_ok-sum-in-For-2.field-0 c.in_ok-end-in-For.end to (view_stmt s) _ _ _ _ _ _ (for_form s _ _ _ c.in-For.is)
    (omega (arith, size, c.in_ok-sum-in-For.ensures, c.in_ok-pieces_size-in-For.ensures, c.in_ok-turn-in-For.ensures, c.in_ok-sum-in-For-2.ensures))
    c.in_ok-end-in-For.ensures.passed past) c.sum-in-For-4.ensures

pub behind_inside-returns-in_ok-end-in-For-clause-sizes : goal.behind_inside-returns-in_ok-end-in-For-clause-sizes
behind_inside-returns-in_ok-end-in-For-clause-sizes t c =
    let at = c.args.context.now in
    let s = c.args.stmt.now in
    IfOk-weaker c.sum-in-For-4.result _ _ (λ to past.
    c.in_ok-end-in-For.ensures.sizes ∙ ap (λ v. c.args.sizes.now.items ++ inner_sizes (tree_of at) (routine_of at) v) (sym (for_form s _ _ _ c.in-For.is))) c.sum-in-For-4.ensures

pub behind_inside-returns-in_ok-end-in-While-clause-passed : goal.behind_inside-returns-in_ok-end-in-While-clause-passed
behind_inside-returns-in_ok-end-in-While-clause-passed t c =
    let s = c.args.stmt.now in
    IfOk-weaker c.sum-in-While-4.result _ _ (λ to past.
    while_passed c.args.context.now c.args.labels.now.items c.behind_list-in-While.new.labels.items c.args.pc c.in_ok-first-in-While.first c.in_ok-end-in-While.end to (view_stmt s) _ _ _ (while_form s _ _ c.in-While.is)
    (omega (arith, c.in_ok-sum-in-While.ensures, c.in_ok-expr_size-in-While.ensures, c.in_ok-sum-in-While-2.ensures, c.in_ok-first-in-While.ensures))
    c.in_ok-end-in-While.ensures.passed past) c.sum-in-While-4.ensures

pub behind_inside-returns-in_ok-end-in-While-clause-sizes : goal.behind_inside-returns-in_ok-end-in-While-clause-sizes
behind_inside-returns-in_ok-end-in-While-clause-sizes t c =
    let at = c.args.context.now in
    let s = c.args.stmt.now in
    IfOk-weaker c.sum-in-While-4.result _ _ (λ to past.
    c.in_ok-end-in-While.ensures.sizes ∙ ap (λ v. c.args.sizes.now.items ++ inner_sizes (tree_of at) (routine_of at) v) (sym (while_form s _ _ c.in-While.is))) c.sum-in-While-4.ensures

pub behind_inside-returns-in_ok-sum-in-Test-2-clause-passed : goal.behind_inside-returns-in_ok-sum-in-Test-2-clause-passed
behind_inside-returns-in_ok-sum-in-Test-2-clause-passed t c =
    let s = c.args.stmt.now in
    IfOk-weaker c.behind_else-in-Test.result _ _ (λ to others.
    test_passed c.args.context.now c.args.labels.now.items c.behind_cases.new.labels.items c.behind_else-in-Test.new.labels.items c.args.pc c.in_ok-first-in-Test.first c.in_ok-end-in-Test.end c.in_ok-sum-in-Test-2.field-0 to (view_stmt s) _ _ _ _ (test_form s _ _ _ c.in-Test.is)
    (omega (arith, c.in_ok-sum-in-Test.ensures, c.in_ok-expr_size-in-Test.ensures, c.in_ok-first-in-Test.ensures))
    c.in_ok-end-in-Test.ensures.passed c.in_ok-sum-in-Test-2.ensures others) c.behind_else-in-Test.ensures.passed

pub behind_inside-returns-in_ok-sum-in-Test-2-clause-sizes : goal.behind_inside-returns-in_ok-sum-in-Test-2-clause-sizes
behind_inside-returns-in_ok-sum-in-Test-2-clause-sizes t c =
    let at = c.args.context.now in
    let s = c.args.stmt.now in
    on_ok_weaker c.behind_else-in-Test.result (λ others. both_found _ _ _ _ _ _ c.in_ok-end-in-Test.ensures.sizes others
    (test_inside (tree_of at) (routine_of at) (view_stmt s) _ _ _ _ (test_form s _ _ _ c.in-Test.is))) c.behind_else-in-Test.ensures.sizes

pub behind_inside-returns-in_ok-pieces_size-in_default-clause-passed : goal.behind_inside-returns-in_ok-pieces_size-in_default-clause-passed
behind_inside-returns-in_ok-pieces_size-in_default-clause-passed t c =
    let at = c.args.context.now in
    let s = c.args.stmt.now in
    let not = c.in_default in
    let plain = simple (tree_of at) (routine_of at) s (record { label = not.not-Label; branch = not.not-If; one = not.not-IfOne; count = not.not-For; repeat = not.not-While; test = not.not-Test }) in
    let size = ap pieces_size c.in_ok-pieces_of-in_default.ensures in
    IfOk-weaker c.sum-in_default-2.result _ _ (λ to place.
    simple_passed at c.args.labels.now.items c.args.pc to (view_stmt s) plain (omega (arith, size, place, c.in_ok-sum-in_default.ensures, c.in_ok-pieces_size-in_default.ensures))) c.sum-in_default-2.ensures

pub behind_inside-returns-in_ok-pieces_size-in_default-clause-sizes : goal.behind_inside-returns-in_ok-pieces_size-in_default-clause-sizes
behind_inside-returns-in_ok-pieces_size-in_default-clause-sizes t c =
    let at = c.args.context.now in
    let not = c.in_default in
    let plain = simple (tree_of at) (routine_of at) c.args.stmt.now (record { label = not.not-Label; branch = not.not-If; one = not.not-IfOne; count = not.not-For; repeat = not.not-While; test = not.not-Test }) in
    IfOk-weaker c.sum-in_default-2.result _ _ (λ to place. none_found _ _ plain.inside) c.sum-in_default-2.ensures

pub behind_list-loop-stmt-preserved : goal.behind_list-loop-stmt-preserved
behind_list-loop-stmt-preserved t c =
    let at = c.args.context.now in
    let list = c.deref-stmt-items.result.now in
    let i = c.loop-stmt.stmt-index in
    let left = stmts_from (i + 1) list in
    let more = stmts_more list i c.stmt-item.result c.loop-stmt-test.true c.stmt-item.is in
    let before = subst (λ l. FindsList at c.args.labels.now.items c.loop-stmt.labels.items c.args.pc c.loop-stmt.end c.args.sizes.now.items c.loop-stmt.sizes.items (stmts_from 0 list) l) more c.loop-stmt.invariant in (
      one_stmt_passed at c.args.labels.now.items c.loop-stmt.labels.items c.behind_stmt.new.labels.items c.args.pc c.loop-stmt.end c.in_ok-end.end (stmts_from 0 list) left (view_stmt c.stmt-item.result) before.0 c.in_ok-end.ensures.passed,
      one_found c.args.sizes.now.items _ _ (stmts_sizes (tree_of at) (routine_of at) (stmts_from 0 list)) (stmt_sizes (tree_of at) (routine_of at) (view_stmt c.stmt-item.result)) (stmts_sizes (tree_of at) (routine_of at) left) before.1 c.in_ok-end.ensures.sizes,
    )

pub behind_list-returns-clause-passed : goal.behind_list-returns-clause-passed
behind_list-returns-clause-passed t c =
    let at = c.args.context.now in
    let list = c.deref-stmt-items.result.now in
    let end = stmts_end list c.loop-stmt.stmt-index c.loop-stmt-test.false in
    subst (λ stmts. PassesList at c.args.labels.now.items c.loop-stmt.labels.items c.args.pc c.loop-stmt.end (stmts_of (map view_stmt stmts))) c.deref-stmt-items.ensures.value
    (left_done (subst (λ l. FindsList at c.args.labels.now.items c.loop-stmt.labels.items c.args.pc c.loop-stmt.end c.args.sizes.now.items c.loop-stmt.sizes.items (stmts_from 0 list) l) end c.loop-stmt.invariant).0)

pub behind_list-returns-clause-sizes : goal.behind_list-returns-clause-sizes
behind_list-returns-clause-sizes t c =
    let at = c.args.context.now in
    let list = c.deref-stmt-items.result.now in
    let end = stmts_end list c.loop-stmt.stmt-index c.loop-stmt-test.false in
    let all = ap (λ stmts. stmts_of (map view_stmt stmts)) c.deref-stmt-items.ensures.value in
    let found = subst (λ l. FindsList at c.args.labels.now.items c.loop-stmt.labels.items c.args.pc c.loop-stmt.end c.args.sizes.now.items c.loop-stmt.sizes.items (stmts_from 0 list) l) end c.loop-stmt.invariant in
    all_found c.args.sizes.now.items _ (stmts_sizes (tree_of at) (routine_of at) (stmts_from 0 list)) found.1 ∙ ap (λ stmts. c.args.sizes.now.items ++ stmts_sizes (tree_of at) (routine_of at) stmts) all

pub behind_sized-returns-clause-sizes : goal.behind_sized-returns-clause-sizes
behind_sized-returns-clause-sizes t c =
    let at = c.args.context.now in
    let list = stmts_of (view_list c.args.list.now) in
    slot_filled c.args.sizes.now.items c.push.new.self.items c.behind_list.new.sizes.items (stmts_sizes (tree_of at) (routine_of at) list) c.len-slot.result _ (stmts_size (tree_of at) (routine_of at) list)
    c.in_ok-push.ensures.items c.in_ok-end.ensures.sizes (omega (arith, c.len-slot.ensures, c.args.sizes.now.ok.0)) (omega (arith, c.in_ok-end.ensures.passed.grown))

pub behind_arms-loop-test-preserved : goal.behind_arms-loop-test-preserved
behind_arms-loop-test-preserved t c =
    let at = c.args.context.now in
    let list = c.deref-test-items.result.now in
    let i = c.loop-test.test-index in
    let item = c.loop-test-item.result in
    let more = arms_more list i item c.loop-test-test.true c.loop-test-item.is in
    let before = subst (λ l. FindsArms at c.args.labels.now.items c.loop-test.labels.items c.args.pc c.loop-test.end c.args.sizes.now.items c.loop-test.sizes.items (arms_from 0 list) l) more c.loop-test.invariant in (
      one_arm_passed at c.args.labels.now.items c.loop-test.labels.items c.behind_sized.new.labels.items c.args.pc c.loop-test.end c.in_ok-first.first c.in_ok-behind_sized.field-0 c.in_ok-end.end (arms_from 0 list) (arms_from (i + 1) list) (view_expr item.0) (stmts_of (view_list item.1))
          before.0 (omega (arith, c.in_ok-expr_size.ensures, c.in_ok-sum.ensures, c.in_ok-first.ensures)) c.in_ok-behind_sized.ensures.passed c.in_ok-end.ensures,
      one_found c.args.sizes.now.items _ _ (arms_sizes (tree_of at) (routine_of at) (arms_from 0 list)) (list_sizes (tree_of at) (routine_of at) (stmts_of (view_list item.1))) (arms_sizes (tree_of at) (routine_of at) (arms_from (i + 1) list)) before.1 c.in_ok-behind_sized.ensures.sizes,
    )

pub behind_arms-returns-in_default-clause-passed : goal.behind_arms-returns-in_default-clause-passed
behind_arms-returns-in_default-clause-passed t c = arms_passed c.args.context.now c.args.labels.now.items c.args.pc _ (no_arms c.args.stmt.now c.in_default.not-If)

pub behind_arms-returns-in_default-clause-sizes : goal.behind_arms-returns-in_default-clause-sizes
behind_arms-returns-in_default-clause-sizes t c =
    let at = c.args.context.now in
    none_found _ _ (ap (arms_sizes (tree_of at) (routine_of at)) (no_arms c.args.stmt.now c.in_default.not-If))

pub behind_arms-returns-clause-passed : goal.behind_arms-returns-clause-passed
behind_arms-returns-clause-passed t c =
    let at = c.args.context.now in
    let list = c.deref-test-items.result.now in
    let end = arms_end list c.loop-test.test-index c.loop-test-test.false in
    let all = ap (λ arms. arms_of (map view_arm arms)) c.deref-test-items.ensures.value ∙ sym (ap arms_in (if_form c.args.stmt.now _ _ c.in-If.is)) in
    subst (λ arms. PassesArms at c.args.labels.now.items c.loop-test.labels.items c.args.pc c.loop-test.end arms) all
    (left_done (subst (λ l. FindsArms at c.args.labels.now.items c.loop-test.labels.items c.args.pc c.loop-test.end c.args.sizes.now.items c.loop-test.sizes.items (arms_from 0 list) l) end c.loop-test.invariant).0)

pub behind_arms-returns-clause-sizes : goal.behind_arms-returns-clause-sizes
behind_arms-returns-clause-sizes t c =
    let at = c.args.context.now in
    let list = c.deref-test-items.result.now in
    let end = arms_end list c.loop-test.test-index c.loop-test-test.false in
    let all = ap (λ arms. arms_of (map view_arm arms)) c.deref-test-items.ensures.value ∙ sym (ap arms_in (if_form c.args.stmt.now _ _ c.in-If.is)) in
    let found = subst (λ l. FindsArms at c.args.labels.now.items c.loop-test.labels.items c.args.pc c.loop-test.end c.args.sizes.now.items c.loop-test.sizes.items (arms_from 0 list) l) end c.loop-test.invariant in
    all_found c.args.sizes.now.items _ (arms_sizes (tree_of at) (routine_of at) (arms_from 0 list)) found.1 ∙ ap (λ arms. c.args.sizes.now.items ++ arms_sizes (tree_of at) (routine_of at) arms) all

pub behind_cases-loop-values-preserved : goal.behind_cases-loop-values-preserved
behind_cases-loop-values-preserved t c =
    let at = c.args.context.now in
    let list = c.deref-values-items.result.now in
    let i = c.loop-values.values-index in
    let item = c.loop-values-item.result in
    let more = cases_more list i item c.loop-values-test.true c.loop-values-item.is in
    let before = subst (λ l. FindsCases at c.args.labels.now.items c.loop-values.labels.items c.args.pc c.loop-values.end c.args.sizes.now.items c.loop-values.sizes.items (cases_from 0 list) l) more c.loop-values.invariant in (
      one_case_passed at c.args.labels.now.items c.loop-values.labels.items c.behind_sized.new.labels.items c.args.pc c.loop-values.end c.in_ok-first.first c.in_ok-behind_sized.field-0 c.in_ok-end.end (cases_from 0 list) (cases_from (i + 1) list) _ (stmts_of (view_list item.1))
          before.0 (omega (arith, c.in_ok-values_size.ensures, c.in_ok-sum.ensures, c.in_ok-first.ensures)) c.in_ok-behind_sized.ensures.passed c.in_ok-end.ensures,
      one_found c.args.sizes.now.items _ _ (cases_sizes (tree_of at) (routine_of at) (cases_from 0 list)) (list_sizes (tree_of at) (routine_of at) (stmts_of (view_list item.1))) (cases_sizes (tree_of at) (routine_of at) (cases_from (i + 1) list)) before.1 c.in_ok-behind_sized.ensures.sizes,
    )

pub behind_cases-returns-in_default-clause-passed : goal.behind_cases-returns-in_default-clause-passed
behind_cases-returns-in_default-clause-passed t c = cases_passed c.args.context.now c.args.labels.now.items c.args.pc _ (no_cases c.args.stmt.now c.in_default.not-Test)

pub behind_cases-returns-in_default-clause-sizes : goal.behind_cases-returns-in_default-clause-sizes
behind_cases-returns-in_default-clause-sizes t c =
    let at = c.args.context.now in
    none_found _ _ (ap (cases_sizes (tree_of at) (routine_of at)) (no_cases c.args.stmt.now c.in_default.not-Test))

pub behind_cases-returns-clause-passed : goal.behind_cases-returns-clause-passed
behind_cases-returns-clause-passed t c =
    let at = c.args.context.now in
    let list = c.deref-values-items.result.now in
    let end = cases_end list c.loop-values.values-index c.loop-values-test.false in
    let all = ap (λ cases. cases_of (map view_case cases)) c.deref-values-items.ensures.value ∙ sym (ap cases_in (test_form c.args.stmt.now _ _ _ c.in-Test.is)) in
    subst (λ cases. PassesCases at c.args.labels.now.items c.loop-values.labels.items c.args.pc c.loop-values.end cases) all
    (left_done (subst (λ l. FindsCases at c.args.labels.now.items c.loop-values.labels.items c.args.pc c.loop-values.end c.args.sizes.now.items c.loop-values.sizes.items (cases_from 0 list) l) end c.loop-values.invariant).0)

pub behind_cases-returns-clause-sizes : goal.behind_cases-returns-clause-sizes
behind_cases-returns-clause-sizes t c =
    let at = c.args.context.now in
    let list = c.deref-values-items.result.now in
    let end = cases_end list c.loop-values.values-index c.loop-values-test.false in
    let all = ap (λ cases. cases_of (map view_case cases)) c.deref-values-items.ensures.value ∙ sym (ap cases_in (test_form c.args.stmt.now _ _ _ c.in-Test.is)) in
    let found = subst (λ l. FindsCases at c.args.labels.now.items c.loop-values.labels.items c.args.pc c.loop-values.end c.args.sizes.now.items c.loop-values.sizes.items (cases_from 0 list) l) end c.loop-values.invariant in
    all_found c.args.sizes.now.items _ (cases_sizes (tree_of at) (routine_of at) (cases_from 0 list)) found.1 ∙ ap (λ cases. c.args.sizes.now.items ++ cases_sizes (tree_of at) (routine_of at) cases) all

pub behind_else-returns-in-Some-clause-passed : goal.behind_else-returns-in-Some-clause-passed
behind_else-returns-in-Some-clause-passed t c =
    IfOk-weaker c.behind_list.result _ _ (λ to found. other_passed c.args.context.now c.args.labels.now.items c.behind_list.new.labels.items c.args.pc to _ _ (if_other c.args.stmt.now _ _ _ c.in-If.is c.in-Some.is) found) c.behind_list.ensures.passed

pub behind_else-returns-in-Some-clause-sizes : goal.behind_else-returns-in-Some-clause-sizes
behind_else-returns-in-Some-clause-sizes t c =
    let at = c.args.context.now in
    on_ok_weaker c.behind_list.result (λ found. found ∙ ap (λ other. c.args.sizes.now.items ++ else_sizes (tree_of at) (routine_of at) other) (sym (if_other c.args.stmt.now _ _ _ c.in-If.is c.in-Some.is))) c.behind_list.ensures.sizes

pub behind_else-returns-in-Some-other-clause-passed : goal.behind_else-returns-in-Some-other-clause-passed
behind_else-returns-in-Some-other-clause-passed t c =
    IfOk-weaker c.behind_list-in-Some-other.result _ _ (λ to found. other_passed c.args.context.now c.args.labels.now.items c.behind_list-in-Some-other.new.labels.items c.args.pc to _ _ (test_other c.args.stmt.now _ _ _ _ c.in-Test.is c.in-Some-other.is) found) c.behind_list-in-Some-other.ensures.passed

pub behind_else-returns-in-Some-other-clause-sizes : goal.behind_else-returns-in-Some-other-clause-sizes
behind_else-returns-in-Some-other-clause-sizes t c =
    let at = c.args.context.now in
    on_ok_weaker c.behind_list-in-Some-other.result (λ found. found ∙ ap (λ other. c.args.sizes.now.items ++ else_sizes (tree_of at) (routine_of at) other) (sym (test_other c.args.stmt.now _ _ _ _ c.in-Test.is c.in-Some-other.is))) c.behind_list-in-Some-other.ensures.sizes

pub behind_else-returns-in-None-clause-passed : goal.behind_else-returns-in-None-clause-passed
behind_else-returns-in-None-clause-passed t c = else_passed c.args.context.now c.args.labels.now.items c.args.pc _ (if_other c.args.stmt.now _ _ _ c.in-If.is c.in-None.is)

pub behind_else-returns-in-None-clause-sizes : goal.behind_else-returns-in-None-clause-sizes
behind_else-returns-in-None-clause-sizes t c =
    let at = c.args.context.now in
    none_found _ _ (ap (else_sizes (tree_of at) (routine_of at)) (if_other c.args.stmt.now _ _ _ c.in-If.is c.in-None.is))

pub behind_else-returns-in-None-other-clause-passed : goal.behind_else-returns-in-None-other-clause-passed
behind_else-returns-in-None-other-clause-passed t c = else_passed c.args.context.now c.args.labels.now.items c.args.pc _ (test_other c.args.stmt.now _ _ _ _ c.in-Test.is c.in-None-other.is)

pub behind_else-returns-in-None-other-clause-sizes : goal.behind_else-returns-in-None-other-clause-sizes
behind_else-returns-in-None-other-clause-sizes t c =
    let at = c.args.context.now in
    none_found _ _ (ap (else_sizes (tree_of at) (routine_of at)) (test_other c.args.stmt.now _ _ _ _ c.in-Test.is c.in-None-other.is))

pub behind_else-returns-in_default-clause-passed : goal.behind_else-returns-in_default-clause-passed
behind_else-returns-in_default-clause-passed t c = else_passed c.args.context.now c.args.labels.now.items c.args.pc _ (no_else c.args.stmt.now c.in_default.not-If c.in_default.not-Test)

pub behind_else-returns-in_default-clause-sizes : goal.behind_else-returns-in_default-clause-sizes
behind_else-returns-in_default-clause-sizes t c =
    let at = c.args.context.now in
    none_found _ _ (ap (else_sizes (tree_of at) (routine_of at)) (no_else c.args.stmt.now c.in_default.not-If c.in_default.not-Test))
