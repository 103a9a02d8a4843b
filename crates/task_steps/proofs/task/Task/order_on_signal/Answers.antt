use Rattle.std.proofs.Common.{refl, ◌∙◌}
use Rattle.rapid_model.specs.declared.watched.Watched.TheVariants as watched
use Rattle.rapid_meaning.specs.Doings.{Raises, after}
use Rattle.rapid_meaning.specs.Interrupts.{order}
use Rattle.rapid_meaning.specs.Values.{bit_in}
use Rattle.stack_code.specs.Operands.{on_value}
use Rattle.stack_code.specs.Steps.{does}
use Rattle.task_steps.specs.Doing.{here_of}
use Rattle.task_steps.proofs.Popped.{ends_at, with_more}
use Rattle.task_steps.proofs.task.Task.order_on_signal.Goals as goal

pub returns-clause-on : goal.returns-clause-on
returns-clause-on c = λ code.
    c.in_ok-number.ensures.on (λ number rest0. on_value rest0 (λ value rest. does (here_of code c.args.self.now.conf) rest (after (bit_in value) (λ bit. order number (watched.Signal c.args.signal bit) c.args.single) Raises)))
    ∙ (c.in_ok-value.ensures.on (λ value rest. does (here_of code c.args.self.now.conf) rest (after (bit_in value) (λ bit. order c.in_ok-number.number (watched.Signal c.args.signal bit) c.args.single) Raises))
    ∙ (ends_at code c.args.self.now c.pop_value.new.self (λ h rest. does h rest (after (bit_in c.in_ok-value.value) (λ bit. order c.in_ok-number.number (watched.Signal c.args.signal bit) c.args.single) Raises)) c.ordered_on_signal.result (with_more c.args.self.now c.pop_mark.new.self c.pop_value.new.self (c.in_ok-number.ensures.rest) c.in_ok-value.ensures.rest) c.ordered_on_signal.ensures (λ h stack rest. refl)))
