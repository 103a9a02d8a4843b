use Rattle.std.proofs.Common.{refl, ◌∙◌}
use Rattle.rapid_model.specs.declared.request.Request.TheVariants as requests
use Rattle.rapid_meaning.specs.Interrupts.{asks_of_number}
use Rattle.stack_code.specs.Steps.{does}
use Rattle.task_steps.specs.Doing.{here_of}
use Rattle.task_steps.proofs.Popped.{ends_at}
use Rattle.task_steps.proofs.task.Task.delete.Goals as goal

pub returns-clause-on : goal.returns-clause-on
returns-clause-on c = λ code.
    c.in_ok-number.ensures.on (λ number rest. does (here_of code c.args.self.now.conf) rest (asks_of_number (requests.Delete number)))
    ∙ (ends_at code c.args.self.now c.pop_mark.new.self (λ h rest. does h rest (asks_of_number (requests.Delete c.in_ok-number.number))) c.known.result (c.in_ok-number.ensures.rest) c.known.ensures (λ h stack rest. refl))
