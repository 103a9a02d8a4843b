use Rattle.std.proofs.Common.{refl}
use Rattle.rapid_meaning.specs.Places.{test_and_set}
use Rattle.stack_code.specs.Steps.{as_truth, pushes}
use Rattle.task_steps.specs.Doing.{here_of}
use Rattle.task_steps.proofs.Along.{alike_is, alike_then}
use Rattle.task_steps.proofs.Storings.{turns_at}
use Rattle.task_steps.proofs.task.Task.test_and_set.Goals as goal

pub returns-clause-turns : goal.returns-clause-turns
returns-clause-turns c = λ code.
    let s = c.args.self.now in
    let t = c.pop_place.new.self in
    alike_then code _ _ _ _ _ _ (alike_is code _ _ s.data' (c.in_ok-place.ensures.on (λ place rest. pushes (here_of code s.conf) rest as_truth (test_and_set place))))
    (turns_at code s t c.test_at.new.self (λ h rest. pushes h rest as_truth (test_and_set c.in_ok-place.place)) c.test_at.result c.in_ok-place.ensures.rest (c.test_at.ensures.turns code) (λ h stack rest. refl))
