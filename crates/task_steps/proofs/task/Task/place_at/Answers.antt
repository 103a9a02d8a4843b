use Rattle.std.proofs.Common.{ap, ◌∙◌, slice_get}
use Rattle.std.specs.Option.{option_and_then}
use Rattle.rapid_meaning.specs.Places.{place_in}
use Rattle.task_steps.specs.Seen.{Seen}
use Rattle.task_steps.proofs.Found.{place_found}
use Rattle.task_steps.proofs.task.Task.place_at.Goals as goal

pub returns : goal.returns
returns c =
    let there = c.place.ensures ∙ ap (λ (s : Seen). option_and_then place_in (slice_get s.conf.stack c.args.above)) c.self.view_is in
    place_found (slice_get c.args.self.now.conf.stack c.args.above) c.place.result there
