use Rattle.code_stmt.proofs.Rows.{arms_from, cases_from, stmts_from}
use Rattle.code_stmt.proofs.Sizings.{FindsArms, FindsCases, FindsList}
use Rattle.code_stmt.proofs.ends.+ends.Given as goal

abbrev pub invariant-behind_list-loop-stmt : goal.invariant-behind_list-loop-stmt
invariant-behind_list-loop-stmt l = FindsList l.context l.initial.labels.items l.labels.items l.initial.end l.end l.initial.sizes.items l.sizes.items (stmts_from 0 l.stmt-items) (stmts_from l.stmt-index l.stmt-items)

abbrev pub invariant-behind_arms-loop-test : goal.invariant-behind_arms-loop-test
invariant-behind_arms-loop-test l = FindsArms l.context l.initial.labels.items l.labels.items l.initial.end l.end l.initial.sizes.items l.sizes.items (arms_from 0 l.test-items) (arms_from l.test-index l.test-items)

abbrev pub invariant-behind_cases-loop-values : goal.invariant-behind_cases-loop-values
invariant-behind_cases-loop-values l = FindsCases l.context l.initial.labels.items l.labels.items l.initial.end l.end l.initial.sizes.items l.sizes.items (cases_from 0 l.values-items) (cases_from l.values-index l.values-items)
