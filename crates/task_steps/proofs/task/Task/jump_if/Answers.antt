use Rattle.std.proofs.Common.{refl, ◌∙◌, Some, if◌then◌else◌}
use Rattle.stack_code.specs.Steps.{jumps, to_next}
use Rattle.task_steps.specs.Doing.{here_of}
use Rattle.task_steps.proofs.Popped.{goes_at}
use Rattle.task_steps.proofs.task.Task.jump_if.Goals as goal

pub returns-clause-on : goal.returns-clause-on
returns-clause-on c = λ code.
    c.in_ok-truth.ensures.on (λ truth rest. (if truth then jumps (here_of code c.args.self.now.conf) c.args.to rest else to_next (here_of code c.args.self.now.conf) rest))
    ∙ goes_at code c.args.self.now c.pop_truth.new.self (λ h rest. (if c.in_ok-truth.truth then jumps h c.args.to rest else to_next h rest)) (Some c.jumped.result) c.in_ok-truth.ensures.rest (c.jumped.ensures code) (λ h stack rest. refl)
