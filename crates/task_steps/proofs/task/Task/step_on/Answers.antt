use Rattle.std.proofs.Common.{sym, ap, ◌∙◌, subst, ℤ, Option}
use Rattle.std.specs.Prelude.{is_some}
use Rattle.stack_code.specs.Steps.{stepped}
use Rattle.task_steps.specs.Alike.{Goes}
use Rattle.task_steps.specs.Doing.{here_of}
use Rattle.task_steps.proofs.Along.{alike_then}
use Rattle.task_steps.proofs.Counters.{step_all, step_first, step_second}
use Rattle.task_steps.proofs.task.Task.step_on.Goals as goal

pub counted-requires : goal.counted-requires
counted-requires c = ap is_some (sym c.counter.ensures.num ∙ c.in_ok-variable.was)

pub returns-in_err-variable-clause-turns : goal.returns-in_err-variable-clause-turns
returns-in_err-variable-clause-turns c =
    let code = c.args.code.now in
    let s = c.args.self.now in
    rw c.from_residual.ensures (step_first code (here_of code s.conf) s.data' c.args.at c.args.to c.counter.result (c.counter.ensures.reads code) c.in_err-variable.was)

pub returns-in_err-step-clause-turns : goal.returns-in_err-step-clause-turns
returns-in_err-step-clause-turns c =
    let code = c.args.code.now in
    let s = c.args.self.now in
    rw c.from_residual-in_err-step.ensures
    (step_second code (here_of code s.conf) s.data' c.args.at c.args.to c.counter.result c.counter-2.result c.in_ok-variable.variable (c.counter.ensures.reads code) c.in_ok-variable.was (c.counter-2.ensures.reads code) c.in_err-step.was)

pub returns-clause-turns : goal.returns-clause-turns
returns-clause-turns c =
    let code = c.args.code.now in
    let s = c.args.self.now in
    let h = here_of code s.conf in
    alike_then code _ _ _ _ _ _
    (step_all code h s.data' c.args.at c.args.to c.counter.result c.counter-2.result c.in_ok-variable.variable c.in_ok-step.step (c.counter.ensures.reads code) c.in_ok-variable.was (c.counter-2.ensures.reads code) c.in_ok-step.was)
    (subst (λ (o : Option ℤ). Goes code (stepped h c.args.at c.args.to o) s.data' c.counted.result c.counted.new.self) c.add.ensures c.counted.ensures.turns)
