use Rattle.std.proofs.Common.{ap, ◌∙◌, slice_get}
use Rattle.std.specs.Option.{option_and_then}
use Rattle.machine_stacks.specs.Forms.{as_num}
use Rattle.task_steps.specs.Seen.{Seen}
use Rattle.task_steps.proofs.Found.{num_found}
use Rattle.task_steps.proofs.task.Task.num_at.Goals as goal

pub returns : goal.returns
returns c =
    let there = c.num.ensures ∙ ap (λ (s : Seen). option_and_then as_num (slice_get s.conf.stack c.args.above)) c.self.view_is in
    num_found (slice_get c.args.self.now.conf.stack c.args.above) c.num.result there
