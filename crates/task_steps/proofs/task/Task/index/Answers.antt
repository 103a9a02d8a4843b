use Rattle.std.proofs.Common.{refl, ◌∙◌, Some}
use Rattle.typed_trees.specs.declared.datum.Datum.TheVariants.{Place}
use Rattle.rapid_meaning.specs.Places.{indexed}
use Rattle.stack_code.specs.Operands.{on_place}
use Rattle.stack_code.specs.Steps.{pushes}
use Rattle.task_steps.specs.Doing.{here_of}
use Rattle.task_steps.proofs.Along.{alike_is, alike_then}
use Rattle.task_steps.proofs.Popped.{with_more}
use Rattle.task_steps.proofs.Storings.{turns_at}
use Rattle.task_steps.proofs.task.Task.index.Goals as goal

pub returns-clause-turns : goal.returns-clause-turns
returns-clause-turns c = λ code.
    let s = c.args.self.now in
    let t = c.pop_place.new.self in
    let h = here_of code s.conf in
    let on = c.in_ok-index.ensures.on (λ index rest0. on_place rest0 (λ place rest. pushes h rest Place (indexed (Some c.args.len) place index)))
    ∙ c.in_ok-place.ensures.on (λ place rest. pushes h rest Place (indexed (Some c.args.len) place c.in_ok-index.index)) in
    alike_then code _ _ _ _ _ _ (alike_is code _ _ s.data' on)
    (turns_at code s t t (λ h rest. pushes h rest Place (indexed (Some c.args.len) c.in_ok-place.place c.in_ok-index.index)) c.indexed.result (with_more s c.pop_value.new.self t c.in_ok-index.ensures.rest c.in_ok-place.ensures.rest) (c.indexed.ensures code) (λ h stack rest. refl))
