use Rattle.std.proofs.Common.{◌≡◌, max}
use Rattle.stack_code.specs.Needs.{values_need}
use Rattle.code_expr.proofs.Rows.{exprs_from}
use Rattle.code_stmt.proofs.values.values_need.Given as goal

abbrev pub invariant-loop-value : goal.invariant-loop-value
invariant-loop-value l = max l.most (values_need (exprs_from l.value-index l.value-items)) ≡ values_need (exprs_from 0 l.value-items)
