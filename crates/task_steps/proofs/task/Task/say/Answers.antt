use Rattle.std.proofs.Common.{refl, ◌∙◌}
use Rattle.rapid_model.specs.declared.request.Request.TheVariants as requests
use Rattle.rapid_model.specs.declared.tail.Tail.TheVariants as tails
use Rattle.rapid_meaning.specs.Doings.{Raises, after, tells}
use Rattle.rapid_meaning.specs.Values.{text_in}
use Rattle.stack_code.specs.Steps.{does}
use Rattle.task_steps.specs.Doing.{here_of}
use Rattle.task_steps.proofs.Popped.{ends_at}
use Rattle.task_steps.proofs.task.Task.say.Goals as goal

pub returns-clause-on : goal.returns-clause-on
returns-clause-on c = λ code.
    c.in_ok-text.ensures.on (λ text rest. does (here_of code c.args.self.now.conf) rest (after (text_in text) (λ it. tells (requests.Say it tails.None)) Raises))
    ∙ (ends_at code c.args.self.now c.pop_value.new.self (λ h rest. does h rest (after (text_in c.in_ok-text.text) (λ it. tells (requests.Say it tails.None)) Raises)) c.said.result (c.in_ok-text.ensures.rest) c.said.ensures (λ h stack rest. refl))
