use Rattle.std.proofs.Common.{refl, ◌∙◌}
use Rattle.typed_trees.specs.declared.datum.Datum.TheVariants.{Plain}
use Rattle.rapid_meaning.specs.Values.{opposite}
use Rattle.stack_code.specs.Steps.{pushes}
use Rattle.task_steps.specs.Doing.{here_of}
use Rattle.task_steps.proofs.Popped.{ends_at}
use Rattle.task_steps.proofs.task.Task.not.Goals as goal

pub returns-clause-on : goal.returns-clause-on
returns-clause-on c = λ code.
    c.in_ok-value.ensures.on (λ value rest. pushes (here_of code c.args.self.now.conf) rest Plain (opposite value))
    ∙ (ends_at code c.args.self.now c.pop_value.new.self (λ h rest. pushes h rest Plain (opposite c.in_ok-value.value)) c.not.result (c.in_ok-value.ensures.rest) c.not.ensures (λ h stack rest. refl))
