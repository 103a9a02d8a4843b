use Rattle.std.proofs.Common.{◌∙◌}
use Rattle.rapid_meaning.specs.Values.{bit_in}
use Rattle.stack_code.specs.Steps.{does}
use Rattle.task_steps.specs.Doing.{here_of}
use Rattle.task_steps.specs.Points.{conf_in}
use Rattle.task_steps.proofs.Picks.{lay_on_top, stays}
use Rattle.task_steps.proofs.task.Task.bit.Goals as goal

pub returns-clause-on : goal.returns-clause-on
returns-clause-on c = λ code.
    let s = c.args.self.now in
    let t = c.pop_value.new.self in
    let v = c.in_ok-value.value in
    c.in_ok-value.ensures.on (λ value rest. does (here_of code s.conf) s.conf.stack (bit_in value))
    ∙ stays code s t v c.bit_kept.result c.in_ok-value.ensures.rest (lay_on_top (conf_in code s.conf) s.conf.stack t.conf.stack v c.in_ok-value.ensures.on) c.bit_kept.ensures
