use Rattle.std.proofs.Common.{◌≡◌, sym, ap, ◌∙◌, Some}
use Rattle.std.specs.Option.{option_and_then}
use Rattle.typed_trees.specs.declared.datum.Root.TheVariants as roots
use Rattle.rapid_meaning.specs.Data.{datum_at}
use Rattle.rapid_meaning.specs.Places.{part_in}
use Rattle.task_steps.specs.Seen.{Seen}
use Rattle.task_steps.proofs.task.Task.own_part.Goals as goal

pub returns-in-Some : goal.returns-in-Some
returns-in-Some c =
    let root = roots.Frame c.in-Frame.frame c.in-Frame.at in
    let there : datum_at root c.args.self.now.data' ≡ Some c.in-Some.held = ap (λ (s : Seen). datum_at root s.data') (sym c.self.view_is) ∙ sym c.in-Some.ensures in
    rw c.in-Frame.is (c.part_in.ensures ∙ sym (ap (option_and_then (part_in c.args.place.part)) there))
