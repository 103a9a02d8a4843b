use Rattle.std.proofs.Common.{refl, ◌∙◌}
use Rattle.rapid_meaning.specs.Statements as statements
use Rattle.stack_code.specs.Steps.{does}
use Rattle.task_steps.specs.Doing.{here_of}
use Rattle.task_steps.proofs.Popped.{ends_at}
use Rattle.task_steps.proofs.task.Task.raise_number.Goals as goal

pub returns-clause-on : goal.returns-clause-on
returns-clause-on c = λ code.
    c.in_ok-value.ensures.on (λ value rest. does (here_of code c.args.self.now.conf) rest (statements.raised value))
    ∙ (ends_at code c.args.self.now c.pop_value.new.self (λ h rest. does h rest (statements.raised c.in_ok-value.value)) c.raised.result (c.in_ok-value.ensures.rest) c.raised.ensures (λ h stack rest. refl))
