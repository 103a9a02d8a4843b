use Rattle.std.proofs.Common.{refl, ◌∙◌}
use Rattle.rapid_meaning.specs.Doings.{Raises, after}
use Rattle.rapid_meaning.specs.Meetings.{arrive}
use Rattle.stack_code.specs.Steps.{as_truth, pushes, set_in}
use Rattle.task_steps.specs.Doing.{here_of}
use Rattle.task_steps.proofs.Popped.{ends_at}
use Rattle.task_steps.proofs.task.Task.arrive.Goals as goal

pub returns-clause-on : goal.returns-clause-on
returns-clause-on c = λ code.
    c.in_ok-set.ensures.on (λ set rest. pushes (here_of code c.args.self.now.conf) rest as_truth (after (set_in set) (λ tasks. arrive c.args.meeting tasks) Raises))
    ∙ ends_at code c.args.self.now c.pop_value.new.self (λ h rest. pushes h rest as_truth (after (set_in c.in_ok-set.set) (λ tasks. arrive c.args.meeting tasks) Raises)) c.arrived_with.result c.in_ok-set.ensures.rest c.arrived_with.ensures (λ h stack rest. refl)
