use Rattle.std.proofs.Common.{refl, ◌∙◌}
use Rattle.rapid_meaning.specs.Places.{store}
use Rattle.stack_code.specs.Operands.{on_place}
use Rattle.stack_code.specs.Steps.{does}
use Rattle.task_steps.specs.Doing.{here_of}
use Rattle.task_steps.proofs.Along.{alike_is, alike_then}
use Rattle.task_steps.proofs.Popped.{with_more}
use Rattle.task_steps.proofs.Storings.{turns_at}
use Rattle.task_steps.proofs.task.Task.store_any.Goals as goal

pub returns-clause-turns : goal.returns-clause-turns
returns-clause-turns c = λ code.
    let s = c.args.self.now in
    let t = c.pop_place.new.self in
    let h = here_of code s.conf in
    let on = c.in_ok-new.ensures.on (λ new rest0. on_place rest0 (λ place rest. does h rest (store place new)))
    ∙ c.in_ok-place.ensures.on (λ place rest. does h rest (store place c.in_ok-new.new)) in
    alike_then code _ _ _ _ _ _ (alike_is code _ _ s.data' on)
    (turns_at code s t c.store_at.new.self (λ h rest. does h rest (store c.in_ok-place.place c.in_ok-new.new)) c.store_at.result (with_more s c.pop_datum.new.self t c.in_ok-new.ensures.rest c.in_ok-place.ensures.rest) (c.store_at.ensures.turns code) (λ h stack rest. refl))
