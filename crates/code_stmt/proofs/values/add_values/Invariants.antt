use Rattle.stack_code.specs.Placed.{Own}
use Rattle.code_expr.proofs.Rows.{exprs_from}
use Rattle.code_stmt.proofs.ValueLists.{LeftValues}
use Rattle.code_stmt.proofs.values.add_values.Given as goal

abbrev pub invariant-loop-value : goal.invariant-loop-value
invariant-loop-value l = (own : Own) → LeftValues own l.context l.list l.initial.code l.code (exprs_from 0 l.value-items) (exprs_from l.value-index l.value-items)
