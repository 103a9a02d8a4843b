use Rattle.code_stmt.specs.Views.{view_own}
use Rattle.code_stmt.proofs.Rows.{arms_from, cases_from, stmts_from}
use Rattle.code_stmt.proofs.Sizings.{TakingArms, TakingCases, TakingList}
use Rattle.code_stmt.proofs.statements.+statements.Given as goal

abbrev pub invariant-add_list-loop-stmt : goal.invariant-add_list-loop-stmt
invariant-add_list-loop-stmt l = TakingList l.context l.labels l.initial.sizes l.sizes l.initial.out l.out (stmts_from 0 l.stmt-items) (stmts_from l.stmt-index l.stmt-items)

abbrev pub invariant-add_arms-loop-test : goal.invariant-add_arms-loop-test
invariant-add_arms-loop-test l = TakingArms l.context l.labels (view_own l.own) l.initial.sizes l.sizes l.initial.out l.out (arms_from 0 l.test-items) (arms_from l.test-index l.test-items)

abbrev pub invariant-add_cases-loop-values : goal.invariant-add_cases-loop-values
invariant-add_cases-loop-values l = TakingCases l.context l.labels (view_own l.own) l.initial.sizes l.sizes l.initial.out l.out (cases_from 0 l.values-items) (cases_from l.values-index l.values-items)
