use Rattle.std.proofs.Common.{sym, ◌∙◌, true, false}
use Rattle.task_steps.specs.Doing.{here_of}
use Rattle.task_steps.proofs.Counters.{turn_all, turn_first, turn_second, turn_third}
use Rattle.task_steps.proofs.task.Task.turn.Goals as goal

pub returns-in_err-variable : goal.returns-in_err-variable
returns-in_err-variable c = λ code.
    let s = c.args.self.now in
    rw c.from_residual.ensures (turn_first code (here_of code s.conf) s.data' c.args.at c.args.to c.counter.result (c.counter.ensures.reads code) c.in_err-variable.was)

pub returns-in_err-last : goal.returns-in_err-last
returns-in_err-last c = λ code.
    let s = c.args.self.now in
    rw c.from_residual-in_err-last.ensures
    (turn_second code (here_of code s.conf) s.data' c.args.at c.args.to c.counter.result c.counter-2.result c.in_ok-variable.variable (c.counter.ensures.reads code) c.in_ok-variable.was (c.counter-2.ensures.reads code) c.in_err-last.was)

pub returns-in_err-step : goal.returns-in_err-step
returns-in_err-step c = λ code.
    let s = c.args.self.now in
    rw c.from_residual-in_err-step.ensures
    (turn_third code (here_of code s.conf) s.data' c.args.at c.args.to c.counter.result c.counter-2.result c.counter-3.result c.in_ok-variable.variable c.in_ok-last.last
    (c.counter.ensures.reads code) c.in_ok-variable.was (c.counter-2.ensures.reads code) c.in_ok-last.was (c.counter-3.ensures.reads code) c.in_err-step.was)

pub returns-then-has_passed : goal.returns-then-has_passed
returns-then-has_passed c = λ code.
    let s = c.args.self.now in
    turn_all code (here_of code s.conf) s.data' c.args.at c.args.to c.counter.result c.counter-2.result c.counter-3.result c.in_ok-variable.variable c.in_ok-last.last c.in_ok-step.step true
    (c.counter.ensures.reads code) c.in_ok-variable.was (c.counter-2.ensures.reads code) c.in_ok-last.was (c.counter-3.ensures.reads code) c.in_ok-step.was (sym c.has_passed.ensures ∙ c.if-has_passed.true)

pub returns-else-has_passed : goal.returns-else-has_passed
returns-else-has_passed c = λ code.
    let s = c.args.self.now in
    turn_all code (here_of code s.conf) s.data' c.args.at c.args.to c.counter.result c.counter-2.result c.counter-3.result c.in_ok-variable.variable c.in_ok-last.last c.in_ok-step.step false
    (c.counter.ensures.reads code) c.in_ok-variable.was (c.counter-2.ensures.reads code) c.in_ok-last.was (c.counter-3.ensures.reads code) c.in_ok-step.was (sym c.has_passed.ensures ∙ c.if-has_passed.false)
