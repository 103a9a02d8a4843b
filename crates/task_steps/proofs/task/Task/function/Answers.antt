use Rattle.std.proofs.Common.{refl, ◌∙◌}
use Rattle.typed_trees.specs.declared.datum.Datum.TheVariants.{Plain}
use Rattle.stack_code.specs.Functions.{of_value}
use Rattle.stack_code.specs.Steps.{pushes}
use Rattle.task_steps.specs.Doing.{here_of}
use Rattle.task_steps.proofs.Popped.{ends_at}
use Rattle.task_steps.proofs.task.Task.function.Goals as goal

pub returns-clause-on : goal.returns-clause-on
returns-clause-on c = λ code.
    c.in_ok-value.ensures.on (λ value rest. pushes (here_of code c.args.self.now.conf) rest Plain (of_value c.args.function value))
    ∙ (ends_at code c.args.self.now c.pop_value.new.self (λ h rest. pushes h rest Plain (of_value c.args.function c.in_ok-value.value)) c.of_one.result (c.in_ok-value.ensures.rest) c.of_one.ensures (λ h stack rest. refl))
