use Rattle.std.proofs.Common.{◌≡◌, ◌+◌}
use Rattle.stack_code.specs.Sizes.{values_size}
use Rattle.code_expr.proofs.Rows.{exprs_from}
use Rattle.code_stmt.proofs.values.values_size.Given as goal

abbrev pub invariant-loop-value : goal.invariant-loop-value
invariant-loop-value l = l.size + values_size (exprs_from l.value-index l.value-items) ≡ values_size (exprs_from 0 l.value-items)
