use Rattle.std.proofs.Common.{refl, ◌∙◌}
use Rattle.rapid_model.specs.declared.function.Function.TheVariants as functions
use Rattle.typed_trees.specs.declared.datum.Datum.TheVariants.{Plain}
use Rattle.stack_code.specs.Functions.{of_values}
use Rattle.stack_code.specs.Operands.{on_value}
use Rattle.stack_code.specs.Steps.{pushes}
use Rattle.task_steps.specs.Doing.{here_of}
use Rattle.task_steps.proofs.Popped.{ends_at, with_more}
use Rattle.task_steps.proofs.task.Task.num_to_str.Goals as goal

pub returns-clause-on : goal.returns-clause-on
returns-clause-on c = λ code.
    c.in_ok-second.ensures.on (λ second rest0. on_value rest0 (λ first rest. pushes (here_of code c.args.self.now.conf) rest Plain (of_values functions.NumToStr first second)))
    ∙ (c.in_ok-first.ensures.on (λ first rest. pushes (here_of code c.args.self.now.conf) rest Plain (of_values functions.NumToStr first c.in_ok-second.second))
    ∙ (ends_at code c.args.self.now c.pop_value-2.new.self (λ h rest. pushes h rest Plain (of_values functions.NumToStr c.in_ok-first.first c.in_ok-second.second)) c.of_two.result (with_more c.args.self.now c.pop_value.new.self c.pop_value-2.new.self (c.in_ok-second.ensures.rest) c.in_ok-first.ensures.rest) c.of_two.ensures (λ h stack rest. refl)))
