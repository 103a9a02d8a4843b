use Rattle.std.proofs.Common.{◌≡◌, ◌+◌}
use Rattle.stack_code.specs.Sizes.{args_size, exprs_size, steps_size}
use Rattle.code_expr.proofs.Rows.{args_from, exprs_from, steps_from}
use Rattle.code_expr.proofs.sizes.+sizes.Given as goal

abbrev pub invariant-exprs_size-loop-expr : goal.invariant-exprs_size-loop-expr
invariant-exprs_size-loop-expr l = l.size + exprs_size (exprs_from l.expr-index l.expr-items) ≡ exprs_size (exprs_from 0 l.expr-items)

abbrev pub invariant-steps_size-loop-operator : goal.invariant-steps_size-loop-operator
invariant-steps_size-loop-operator l = l.size + steps_size (steps_from l.operator-index l.operator-items) ≡ steps_size (steps_from 0 l.operator-items)

abbrev pub invariant-args_size-loop-arg : goal.invariant-args_size-loop-arg
invariant-args_size-loop-arg l = l.size + args_size (args_from l.arg-index l.arg-items) ≡ args_size (args_from 0 l.arg-items)
