use Rattle.std.proofs.Common.{◌≡◌, sym, ap, ◌∙◌, arith, suc, ◌-◌, length}
use Rattle.rapid_meaning.specs.Places.{kept_place}
use Rattle.task_steps.specs.Seen.{Seen}
use Rattle.task_steps.proofs.Readings.{kept_there}
use Rattle.task_steps.proofs.task.Task.kept_place.Goals as goal

pub returns : goal.returns
returns c =
    let frames = c.self.inside.frames.frames in
    let many : length frames ≡ suc (c.count-count.result - 1) = omega (arith, c.count-count.ensures) in
    let there = kept_there frames (c.count-count.result - 1) c.args.at many in
    c.place.ensures ∙ (sym there ∙ ap (λ (t : Seen). kept_place c.args.at t.data'.frames) c.self.view_is)
