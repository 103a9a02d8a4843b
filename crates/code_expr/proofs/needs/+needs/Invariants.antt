use Rattle.std.proofs.Common.{◌≡◌, ◌+◌, max}
use Rattle.stack_code.specs.Needs.{args_need, exprs_need, steps_need}
use Rattle.code_expr.proofs.Rows.{args_from, exprs_from, steps_from}
use Rattle.code_expr.proofs.needs.+needs.Given as goal

abbrev pub invariant-exprs_need-loop-expr : goal.invariant-exprs_need-loop-expr
invariant-exprs_need-loop-expr l = max l.most (l.depth + exprs_need (exprs_from l.expr-index l.expr-items)) ≡ exprs_need (exprs_from 0 l.expr-items)

abbrev pub invariant-steps_need-loop-operator : goal.invariant-steps_need-loop-operator
invariant-steps_need-loop-operator l = max l.most (steps_need (steps_from l.operator-index l.operator-items)) ≡ steps_need (steps_from 0 l.operator-items)

abbrev pub invariant-args_need-loop-arg : goal.invariant-args_need-loop-arg
invariant-args_need-loop-arg l = max l.most (l.depth + args_need (args_from l.arg-index l.arg-items)) ≡ args_need (args_from 0 l.arg-items)
