use Rattle.std.proofs.Common.{refl, ◌∙◌}
use Rattle.stack_code.specs.Steps.{to_next}
use Rattle.task_steps.specs.Doing.{here_of}
use Rattle.task_steps.proofs.Popped.{ends_at}
use Rattle.task_steps.proofs.task.Task.drop_top.Goals as goal

pub returns-clause-on : goal.returns-clause-on
returns-clause-on c = λ code.
    c.in_ok-_top.ensures.on (λ top rest. to_next (here_of code c.args.self.now.conf) rest)
    ∙ (ends_at code c.args.self.now c.pop_datum.new.self (λ h rest. to_next h rest) c.dropped.result (c.in_ok-_top.ensures.rest) c.dropped.ensures (λ h stack rest. refl))
