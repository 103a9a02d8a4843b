use Rattle.std.proofs.Common.{ap, ◌∙◌, slice_get}
use Rattle.std.specs.Option.{option_and_then}
use Rattle.machine_stacks.specs.Forms.{as_bool}
use Rattle.task_steps.specs.Seen.{Seen}
use Rattle.task_steps.proofs.Found.{some_top, truth_popped}
use Rattle.task_steps.proofs.task.Task.top_truth.Goals as goal

pub returns : goal.returns
returns c =
    let stack = c.args.self.now.conf.stack in
    let there = c.truth.ensures ∙ ap (λ (s : Seen). option_and_then as_bool (slice_get s.conf.stack 0)) c.self.view_is in
    record { some = some_top as_bool stack c.truth.result there; on = λ next. truth_popped stack c.truth.result next there }
