use Rattle.std.proofs.Common.{◌≡◌, ℕ, ℤ, Option, Some, sym, ap, ◌∙◌}
use Rattle.typed_trees.specs.declared.datum.Datum.TheVariants.{Place}
use Rattle.typed_trees.specs.declared.datum.Lvalue.{Lvalue}
use Rattle.rapid_values.specs.Elements.{element_number}
use Rattle.rapid_meaning.specs.Doings.{Doing, after, ◌>>=◌}
use Rattle.rapid_meaning.specs.Places.{at_element, element_or_fault, indexed}
use Rattle.stack_code.specs.Steps.{pushes}
use Rattle.task_steps.specs.Doing.{here_of}
use Rattle.task_steps.proofs.Along.{alike_is, alike_then}
use Rattle.task_steps.proofs.task.Task.indexed.Goals as goal

pub returns-in-Some : goal.returns-in-Some
unfolding after
returns-in-Some c = λ code.
    let h = here_of code c.args.self.now.conf in
    let d = c.args.self.now.data' in
    let place = c.args.place in
    let is : indexed (Some c.args.len) place c.args.index.now ≡ at_element place c.in-Some.number =
    ap (λ (m : Doing ℤ). m >>= λ n. element_or_fault place (element_number c.args.len n)) c.in_ok-index.ensures ∙ ap (λ (found : Option ℕ). element_or_fault place found) (sym c.in-Some.ensures.same) in
    alike_then code _ _ _ d d d (alike_is code _ _ d (ap (λ (m : Doing Lvalue). pushes h h.conf.stack Place m) is)) (c.element_pushed.ensures code)
