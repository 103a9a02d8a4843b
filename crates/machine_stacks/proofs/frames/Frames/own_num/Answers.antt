use Rattle.std.proofs.Common.{◌≡◌, ◌-◌, ℕ, List, Option, length, reverse, slice_get, sym, ap, ◌∙◌}
use Rattle.std.proofs.lemmas.List.{length-reverse}
use Rattle.std.specs.Option.{option_and_then}
use Rattle.typed_trees.specs.declared.datum.Datum.{Datum}
use Rattle.rapid_meaning.specs.Data.{Frame, frame_at}
use Rattle.machine_stacks.specs.Forms.{as_num}
use Rattle.machine_stacks.specs.FrameStack.{FrameStack, frames_in, index_in}
use Rattle.machine_stacks.proofs.Framing.{length-frames_in}
use Rattle.machine_stacks.proofs.Placing.{read}
use Rattle.machine_stacks.proofs.frames.Frames.own_num.Goals as goal

pub returns : goal.returns
returns c =
    let f = c.self.inside in
    let marks = reverse f.marks.items in
    let frames : List Frame = frames_in f.values.items marks in
    let count : length frames ≡ length f.marks.items = length-frames_in f.values.items marks ∙ length-reverse f.marks.items in
    let e : c.innermost_at-index.result ≡ index_in (length f.values.items) marks (length f.marks.items - 1) c.args.at = cc in
    let held = read f.values.items marks (length f.marks.items - 1) c.args.at c.self.invariant in
    c.num_at.ensures
    ∙ ap (λ (o : Option ℕ). option_and_then as_num (option_and_then (slice_get f.values.items) o)) e
    ∙ ap (λ (o : Option Datum). option_and_then as_num o) (sym held)
    ∙ ap (λ (n : ℕ). option_and_then as_num (option_and_then (λ (g : Frame). slice_get g.values c.args.at) (frame_at frames (n - 1)))) (sym count)
    ∙ ap (λ (o : FrameStack). option_and_then as_num (option_and_then (λ (g : Frame). slice_get g.values c.args.at) (frame_at o.frames (length o.frames - 1)))) c.self.view_is
