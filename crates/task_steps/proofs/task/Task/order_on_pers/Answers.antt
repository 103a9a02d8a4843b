use Rattle.std.proofs.Common.{refl, ◌∙◌}
use Rattle.rapid_model.specs.declared.watched.Watched.TheVariants as watched
use Rattle.rapid_meaning.specs.Interrupts.{order}
use Rattle.stack_code.specs.Steps.{does}
use Rattle.task_steps.specs.Doing.{here_of}
use Rattle.task_steps.proofs.Popped.{ends_at}
use Rattle.task_steps.proofs.task.Task.order_on_pers.Goals as goal

pub returns-clause-on : goal.returns-clause-on
returns-clause-on c = λ code.
    c.in_ok-number.ensures.on (λ number rest. does (here_of code c.args.self.now.conf) rest (order number (watched.Pers c.args.pers) c.args.single))
    ∙ (ends_at code c.args.self.now c.pop_mark.new.self (λ h rest. does h rest (order c.in_ok-number.number (watched.Pers c.args.pers) c.args.single)) c.ordered_on_pers.result (c.in_ok-number.ensures.rest) c.ordered_on_pers.ensures (λ h stack rest. refl))
