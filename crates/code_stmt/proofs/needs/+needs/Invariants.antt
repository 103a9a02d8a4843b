use Rattle.std.proofs.Common.{◌≡◌, max}
use Rattle.stack_code.specs.Needs.{arms_need, cases_need, stmts_need}
use Rattle.code_expr.specs.Contexts.{routine_of, tree_of}
use Rattle.code_stmt.proofs.Rows.{arms_from, cases_from, stmts_from}
use Rattle.code_stmt.proofs.needs.+needs.Given as goal

abbrev pub invariant-list_need-loop-stmt : goal.invariant-list_need-loop-stmt
invariant-list_need-loop-stmt l =
    let tree = tree_of l.context in
    let routine = routine_of l.context in
    max l.most (stmts_need tree routine (stmts_from l.stmt-index l.stmt-items)) ≡ stmts_need tree routine (stmts_from 0 l.stmt-items)

abbrev pub invariant-arms_need-loop-test : goal.invariant-arms_need-loop-test
invariant-arms_need-loop-test l =
    let tree = tree_of l.context in
    let routine = routine_of l.context in
    max l.most (arms_need tree routine (arms_from l.test-index l.test-items)) ≡ arms_need tree routine (arms_from 0 l.test-items)

abbrev pub invariant-cases_need-loop-values : goal.invariant-cases_need-loop-values
invariant-cases_need-loop-values l =
    let tree = tree_of l.context in
    let routine = routine_of l.context in
    max l.most (cases_need tree routine (cases_from l.values-index l.values-items)) ≡ cases_need tree routine (cases_from 0 l.values-items)
