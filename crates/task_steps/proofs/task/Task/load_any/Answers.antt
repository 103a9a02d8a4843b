use Rattle.std.proofs.Common.{refl}
use Rattle.rapid_meaning.specs.Places.{load}
use Rattle.stack_code.specs.Steps.{pushes}
use Rattle.task_steps.specs.Doing.{here_of}
use Rattle.task_steps.proofs.Along.{alike_is, alike_then}
use Rattle.task_steps.proofs.Storings.{turns_at}
use Rattle.task_steps.proofs.task.Task.load_any.Goals as goal

pub returns-clause-turns : goal.returns-clause-turns
returns-clause-turns c = λ code.
    let s = c.args.self.now in
    let t = c.pop_place.new.self in
    alike_then code _ _ _ _ _ _ (alike_is code _ _ s.data' (c.in_ok-place.ensures.on (λ place rest. pushes (here_of code s.conf) rest (λ x. x) (load place))))
    (turns_at code s t t (λ h rest. pushes h rest (λ x. x) (load c.in_ok-place.place)) c.load_at.result c.in_ok-place.ensures.rest (c.load_at.ensures code) (λ h stack rest. refl))
