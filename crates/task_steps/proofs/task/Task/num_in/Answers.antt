use Rattle.std.proofs.Common.{ap, ◌∙◌}
use Rattle.std.specs.Option.{option_and_then}
use Rattle.typed_trees.specs.declared.datum.Root.TheVariants as roots
use Rattle.machine_stacks.specs.Forms.{as_num}
use Rattle.rapid_meaning.specs.Data.{datum_at}
use Rattle.task_steps.specs.Seen.{Seen}
use Rattle.task_steps.proofs.Found.{num_found}
use Rattle.task_steps.proofs.task.Task.num_in.Goals as goal

pub returns-in-Frame : goal.returns-in-Frame
returns-in-Frame c =
    let root = roots.Frame c.in-Frame.frame c.in-Frame.at in
    let there = c.num-in-Frame.ensures ∙ ap (λ (s : Seen). option_and_then as_num (datum_at root s.data')) c.self.view_is in
    rw c.in-Frame.is (num_found (datum_at root c.args.self.now.data') c.num-in-Frame.result there)
