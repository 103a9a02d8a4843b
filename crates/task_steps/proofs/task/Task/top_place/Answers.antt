use Rattle.std.proofs.Common.{ap, ◌∙◌, slice_get}
use Rattle.std.specs.Option.{option_and_then}
use Rattle.rapid_meaning.specs.Places.{place_in}
use Rattle.task_steps.specs.Seen.{Seen}
use Rattle.task_steps.proofs.Found.{some_top, place_popped}
use Rattle.task_steps.proofs.task.Task.top_place.Goals as goal

pub returns : goal.returns
returns c =
    let stack = c.args.self.now.conf.stack in
    let there = c.place.ensures ∙ ap (λ (s : Seen). option_and_then place_in (slice_get s.conf.stack 0)) c.self.view_is in
    record { some = some_top place_in stack c.place.result there; on = λ next. place_popped stack c.place.result next there }
