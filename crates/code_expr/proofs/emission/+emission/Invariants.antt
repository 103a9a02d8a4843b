use Rattle.stack_code.specs.Placed.{Own}
use Rattle.code_expr.proofs.Loops.{LeftArgs, LeftExprs, LeftSteps}
use Rattle.code_expr.proofs.Rows.{args_from, exprs_from, steps_from}
use Rattle.code_expr.proofs.emission.+emission.Given as goal

abbrev pub invariant-add_exprs-loop-expr : goal.invariant-add_exprs-loop-expr
invariant-add_exprs-loop-expr l = (own : Own) → LeftExprs own l.context l.initial.code l.code (exprs_from 0 l.expr-items) (exprs_from l.expr-index l.expr-items)

abbrev pub invariant-add_steps-loop-operator : goal.invariant-add_steps-loop-operator
invariant-add_steps-loop-operator l = (own : Own) → LeftSteps own l.context l.initial.code l.code (steps_from 0 l.operator-items) (steps_from l.operator-index l.operator-items)

abbrev pub invariant-add_args-loop-arg : goal.invariant-add_args-loop-arg
invariant-add_args-loop-arg l = (own : Own) → LeftArgs own l.context l.initial.code l.code (args_from 0 l.arg-items) (args_from l.arg-index l.arg-items)
