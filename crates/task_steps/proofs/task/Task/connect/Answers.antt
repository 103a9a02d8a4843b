use Rattle.std.proofs.Common.{refl, ◌∙◌}
use Rattle.rapid_meaning.specs.Interrupts.{connect}
use Rattle.stack_code.specs.Operands.{on_place}
use Rattle.stack_code.specs.Steps.{does}
use Rattle.task_steps.specs.Doing.{here_of}
use Rattle.task_steps.proofs.Popped.{ends_at, with_more}
use Rattle.task_steps.proofs.task.Task.connect.Goals as goal

pub returns-clause-on : goal.returns-clause-on
returns-clause-on c = λ code.
    c.in_ok-old.ensures.on (λ old rest0. on_place rest0 (λ place rest. does (here_of code c.args.self.now.conf) rest (connect place old c.args.trap)))
    ∙ (c.in_ok-place.ensures.on (λ place rest. does (here_of code c.args.self.now.conf) rest (connect place c.in_ok-old.old c.args.trap))
    ∙ (ends_at code c.args.self.now c.pop_place.new.self (λ h rest. does h rest (connect c.in_ok-place.place c.in_ok-old.old c.args.trap)) c.connected.result (with_more c.args.self.now c.pop_mark.new.self c.pop_place.new.self (c.in_ok-old.ensures.rest) c.in_ok-place.ensures.rest) c.connected.ensures (λ h stack rest. refl)))
