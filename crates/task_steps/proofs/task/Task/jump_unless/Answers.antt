use Rattle.std.proofs.Common.{refl, ◌∙◌, Some, if◌then◌else◌}
use Rattle.stack_code.specs.Steps.{jumps, to_next}
use Rattle.task_steps.specs.Doing.{here_of}
use Rattle.task_steps.proofs.Popped.{goes_at}
use Rattle.task_steps.proofs.task.Task.jump_unless.Goals as goal

pub returns-clause-on : goal.returns-clause-on
returns-clause-on c = λ code.
    c.in_ok-truth.ensures.on (λ truth rest. (if truth then to_next (here_of code c.args.self.now.conf) rest else jumps (here_of code c.args.self.now.conf) c.args.to rest))
    ∙ goes_at code c.args.self.now c.pop_truth.new.self (λ h rest. (if c.in_ok-truth.truth then to_next h rest else jumps h c.args.to rest)) (Some c.gone_on.result) c.in_ok-truth.ensures.rest (c.gone_on.ensures code) (λ h stack rest. refl)
