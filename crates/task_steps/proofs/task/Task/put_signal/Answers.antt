use Rattle.std.proofs.Common.{refl, ◌∙◌}
use Rattle.rapid_meaning.specs.Doings.{Raises, after}
use Rattle.rapid_meaning.specs.Signals.{write_signal}
use Rattle.rapid_meaning.specs.Values.{bit_in}
use Rattle.stack_code.specs.Steps.{does}
use Rattle.task_steps.specs.Doing.{here_of}
use Rattle.task_steps.proofs.Popped.{ends_at}
use Rattle.task_steps.proofs.task.Task.put_signal.Goals as goal

pub returns-clause-on : goal.returns-clause-on
returns-clause-on c = λ code.
    c.in_ok-value.ensures.on (λ value rest. does (here_of code c.args.self.now.conf) rest (after (bit_in value) (λ bit. write_signal c.args.signal bit) Raises))
    ∙ (ends_at code c.args.self.now c.pop_value.new.self (λ h rest. does h rest (after (bit_in c.in_ok-value.value) (λ bit. write_signal c.args.signal bit) Raises)) c.signal_written.result (c.in_ok-value.ensures.rest) c.signal_written.ensures (λ h stack rest. refl))
