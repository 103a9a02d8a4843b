use Rattle.std.proofs.Common.{refl, ◌∙◌}
use Rattle.rapid_model.specs.declared.request.Request.TheVariants as requests
use Rattle.rapid_model.specs.declared.tail.Tail.TheVariants as tails
use Rattle.rapid_meaning.specs.Doings.{Raises, after, tells}
use Rattle.rapid_meaning.specs.Values.{text_in, truth_in}
use Rattle.stack_code.specs.Operands.{on_value}
use Rattle.stack_code.specs.Steps.{does}
use Rattle.task_steps.specs.Doing.{here_of}
use Rattle.task_steps.proofs.Popped.{ends_at, with_more}
use Rattle.task_steps.proofs.task.Task.say_truth.Goals as goal

pub returns-clause-on : goal.returns-clause-on
returns-clause-on c = λ code.
    c.in_ok-truth.ensures.on (λ truth rest0. on_value rest0 (λ text rest. does (here_of code c.args.self.now.conf) rest (after (text_in text) (λ it. after (truth_in truth) (λ b. tells (requests.Say it (tails.Bool b))) Raises) Raises)))
    ∙ (c.in_ok-text.ensures.on (λ text rest. does (here_of code c.args.self.now.conf) rest (after (text_in text) (λ it. after (truth_in c.in_ok-truth.truth) (λ b. tells (requests.Say it (tails.Bool b))) Raises) Raises))
    ∙ (ends_at code c.args.self.now c.pop_value-2.new.self (λ h rest. does h rest (after (text_in c.in_ok-text.text) (λ it. after (truth_in c.in_ok-truth.truth) (λ b. tells (requests.Say it (tails.Bool b))) Raises) Raises)) c.said_truth.result (with_more c.args.self.now c.pop_value.new.self c.pop_value-2.new.self (c.in_ok-truth.ensures.rest) c.in_ok-text.ensures.rest) c.said_truth.ensures (λ h stack rest. refl)))
