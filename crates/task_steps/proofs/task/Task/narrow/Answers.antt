use Rattle.std.proofs.Common.{refl, ◌∙◌}
use Rattle.typed_trees.specs.declared.datum.Datum.TheVariants.{Place}
use Rattle.rapid_meaning.specs.Places.{part_at}
use Rattle.stack_code.specs.Steps.{pushes}
use Rattle.task_steps.specs.Doing.{here_of}
use Rattle.task_steps.proofs.Popped.{ends_at}
use Rattle.task_steps.proofs.task.Task.narrow.Goals as goal

pub returns-clause-on : goal.returns-clause-on
returns-clause-on c = λ code.
    c.in_ok-place.ensures.on (λ place rest. pushes (here_of code c.args.self.now.conf) rest Place (part_at c.args.name place))
    ∙ (ends_at code c.args.self.now c.pop_place.new.self (λ h rest. pushes h rest Place (part_at c.args.name c.in_ok-place.place)) c.narrowed.result (c.in_ok-place.ensures.rest) c.narrowed.ensures (λ h stack rest. refl))
