use Rattle.std.proofs.Common.{map, option_map, ap, sym, arith, ◌∙◌}
use Rattle.rapid_meaning.specs.Layouts.{local_start}
use Rattle.stack_code.specs.Needs.{arms_need, cases_need, else_need, pieces_need, stmts_need}
use Rattle.stack_code.specs.Pieces.{bounds_pieces}
use Rattle.typed_trees.specs.Plain.{arms_of, cases_of, stmts_of}
use Rattle.typed_trees.specs.Views.{view_arm, view_case, view_expr, view_stmt}
use Rattle.typed_trees.specs.declared.bounds.Bounds.{Bounds}
use Rattle.code_expr.specs.Contexts.{routine_of, tree_of}
use Rattle.code_expr.proofs.Forms.{gives_as}
use Rattle.code_stmt.specs.Parts.{arms_in, cases_in}
use Rattle.code_stmt.proofs.Forms.{for_form, if_form, if_other, no_arms, no_cases, no_else, test_form, test_other, while_form}
use Rattle.code_stmt.proofs.Rows.{arms_end, arms_more, cases_end, cases_more, stmts_end, stmts_more}
use Rattle.code_stmt.proofs.Simple.{simple}
use Rattle.code_stmt.proofs.StmtNeeds.{for_need, if_need, test_need, while_need}
use Rattle.code_stmt.proofs.needs.+needs.Goals as goal

pub stmt_need-returns-in_ok-else_need-in-If : goal.stmt_need-returns-in_ok-else_need-in-If
stmt_need-returns-in_ok-else_need-in-If t c =
    let s = c.args.stmt.now in
    let is = if_need (tree_of c.args.context.now) (routine_of c.args.context.now) (view_stmt s) _ _ _ (if_form s _ _ c.in-If.is) in
    omega (arith, is, c.more.ensures, c.in_ok-arms_need-in-If.ensures, c.in_ok-else_need-in-If.ensures)

pub stmt_need-returns-in_ok-list_need-in-For : goal.stmt_need-returns-in_ok-list_need-in-For
stmt_need-returns-in_ok-list_need-in-For t c =
    let at = c.args.context.now in
    let s = c.args.stmt.now in
    let is = for_need (tree_of at) (routine_of at) (view_stmt s) _ _ _ _ _ _ (for_form s _ _ _ c.in-For.is) in
    let variable = local_start (routine_of at) c.in-For.local in
    let before = ap (pieces_need 0) c.in_ok-bounds_pieces-in-For.ensures ∙ ap (λ (b : Bounds). pieces_need 0 (bounds_pieces variable (view_expr b.first) (view_expr b.last) (option_map view_expr b.step))) c.deref-in-For.ensures in
    omega (arith, is, before, c.in_ok-before-in-For.ensures, c.more-in-For.ensures, c.in_ok-list_need-in-For.ensures)

pub stmt_need-returns-in_ok-list_need-in-While : goal.stmt_need-returns-in_ok-list_need-in-While
stmt_need-returns-in_ok-list_need-in-While t c =
    let s = c.args.stmt.now in
    let is = while_need (tree_of c.args.context.now) (routine_of c.args.context.now) (view_stmt s) _ _ _ (while_form s _ _ c.in-While.is) in
    omega (arith, is, c.more-in-While.ensures, c.in_ok-expr_need-in-While.ensures, c.in_ok-list_need-in-While.ensures)

pub stmt_need-returns-in_ok-expr_need-in-Test : goal.stmt_need-returns-in_ok-expr_need-in-Test
stmt_need-returns-in_ok-expr_need-in-Test t c =
    let s = c.args.stmt.now in
    let is = test_need (tree_of c.args.context.now) (routine_of c.args.context.now) (view_stmt s) _ _ _ _ (test_form s _ _ _ c.in-Test.is) in
    omega (arith, is, c.more-lists.ensures, c.more-in-Test.ensures, c.in_ok-cases_need-in-Test.ensures, c.in_ok-else_need-in-Test.ensures, c.in_ok-expr_need-in-Test.ensures)

pub stmt_need-returns-in_ok-pieces_of-in_default : goal.stmt_need-returns-in_ok-pieces_of-in_default
stmt_need-returns-in_ok-pieces_of-in_default t c =
    let at = c.args.context.now in
    let not = c.in_default in
    let plain = simple (tree_of at) (routine_of at) c.args.stmt.now (record { label = not.not-Label; branch = not.not-If; one = not.not-IfOne; count = not.not-For; repeat = not.not-While; test = not.not-Test }) in
    gives_as _ _ _ (ap (pieces_need 0) c.in_ok-pieces_of-in_default.ensures ∙ sym plain.need) c.pieces_need-in_default.ensures

pub list_need-loop-stmt-preserved : goal.list_need-loop-stmt-preserved
list_need-loop-stmt-preserved t c =
    let list = c.deref-stmt-items.result.now in
    let more = ap (stmts_need (tree_of c.args.context.now) (routine_of c.args.context.now)) (stmts_more list c.loop-stmt.stmt-index c.stmt-item.result c.loop-stmt-test.true c.stmt-item.is) in
    omega (arith, more, c.loop-stmt.invariant, c.in_ok-stmt_need.ensures, c.more-most.ensures)

pub list_need-returns : goal.list_need-returns
list_need-returns t c =
    let tree = tree_of c.args.context.now in
    let routine = routine_of c.args.context.now in
    let end = ap (stmts_need tree routine) (stmts_end c.deref-stmt-items.result.now c.loop-stmt.stmt-index c.loop-stmt-test.false) in
    let all = ap (λ list. stmts_need tree routine (stmts_of (map view_stmt list))) c.deref-stmt-items.ensures.value in
    omega (arith, end, all, c.loop-stmt.invariant)

pub arms_need-loop-test-preserved : goal.arms_need-loop-test-preserved
arms_need-loop-test-preserved t c =
    let list = c.deref-test-items.result.now in
    let more = ap (arms_need (tree_of c.args.context.now) (routine_of c.args.context.now)) (arms_more list c.loop-test.test-index c.loop-test-item.result c.loop-test-test.true c.loop-test-item.is) in
    omega (arith, more, c.loop-test.invariant, c.in_ok-expr_need.ensures, c.in_ok-list_need.ensures, c.more.ensures, c.more-most.ensures)

pub arms_need-returns-in_default : goal.arms_need-returns-in_default
arms_need-returns-in_default t c = sym (ap (arms_need (tree_of c.args.context.now) (routine_of c.args.context.now)) (no_arms c.args.stmt.now c.in_default.not-If))

pub arms_need-returns : goal.arms_need-returns
arms_need-returns t c =
    let tree = tree_of c.args.context.now in
    let routine = routine_of c.args.context.now in
    let end = ap (arms_need tree routine) (arms_end c.deref-test-items.result.now c.loop-test.test-index c.loop-test-test.false) in
    let all = ap (λ list. arms_need tree routine (arms_of (map view_arm list))) c.deref-test-items.ensures.value in
    let is = ap (λ s. arms_need tree routine (arms_in s)) (if_form c.args.stmt.now _ _ c.in-If.is) in
    omega (arith, end, all, is, c.loop-test.invariant)

pub cases_need-loop-values-preserved : goal.cases_need-loop-values-preserved
cases_need-loop-values-preserved t c =
    let list = c.deref-values-items.result.now in
    let more = ap (cases_need (tree_of c.args.context.now) (routine_of c.args.context.now)) (cases_more list c.loop-values.values-index c.loop-values-item.result c.loop-values-test.true c.loop-values-item.is) in
    omega (arith, more, c.loop-values.invariant, c.in_ok-values_need.ensures, c.in_ok-list_need.ensures, c.more.ensures, c.more-most.ensures)

pub cases_need-returns-in_default : goal.cases_need-returns-in_default
cases_need-returns-in_default t c = sym (ap (cases_need (tree_of c.args.context.now) (routine_of c.args.context.now)) (no_cases c.args.stmt.now c.in_default.not-Test))

pub cases_need-returns : goal.cases_need-returns
cases_need-returns t c =
    let tree = tree_of c.args.context.now in
    let routine = routine_of c.args.context.now in
    let end = ap (cases_need tree routine) (cases_end c.deref-values-items.result.now c.loop-values.values-index c.loop-values-test.false) in
    let all = ap (λ list. cases_need tree routine (cases_of (map view_case list))) c.deref-values-items.ensures.value in
    let is = ap (λ s. cases_need tree routine (cases_in s)) (test_form c.args.stmt.now _ _ _ c.in-Test.is) in
    omega (arith, end, all, is, c.loop-values.invariant, c.more-2.ensures)

pub else_need-returns-in-Some : goal.else_need-returns-in-Some
else_need-returns-in-Some t c = gives_as _ _ _ (sym (ap (else_need (tree_of c.args.context.now) (routine_of c.args.context.now)) (if_other c.args.stmt.now _ _ _ c.in-If.is c.in-Some.is))) c.list_need.ensures

pub else_need-returns-in-Some-other : goal.else_need-returns-in-Some-other
else_need-returns-in-Some-other t c = gives_as _ _ _ (sym (ap (else_need (tree_of c.args.context.now) (routine_of c.args.context.now)) (test_other c.args.stmt.now _ _ _ _ c.in-Test.is c.in-Some-other.is))) c.list_need-in-Some-other.ensures

pub else_need-returns-in-None : goal.else_need-returns-in-None
else_need-returns-in-None t c = sym (ap (else_need (tree_of c.args.context.now) (routine_of c.args.context.now)) (if_other c.args.stmt.now _ _ _ c.in-If.is c.in-None.is))

pub else_need-returns-in-None-other : goal.else_need-returns-in-None-other
else_need-returns-in-None-other t c = sym (ap (else_need (tree_of c.args.context.now) (routine_of c.args.context.now)) (test_other c.args.stmt.now _ _ _ _ c.in-Test.is c.in-None-other.is))

pub else_need-returns-in_default : goal.else_need-returns-in_default
else_need-returns-in_default t c = sym (ap (else_need (tree_of c.args.context.now) (routine_of c.args.context.now)) (no_else c.args.stmt.now c.in_default.not-If c.in_default.not-Test))
