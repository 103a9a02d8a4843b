use Rattle.std.proofs.Common.{◌≡◌, ◌-◌, ℕ, List, length, reverse, refl, sym, ap, ◌∙◌, arith}
use Rattle.std.proofs.lemmas.List.{length-reverse}
use Rattle.rapid_model.specs.declared.value.Value.TheVariants as values
use Rattle.typed_trees.specs.declared.datum.Datum.TheVariants.{Plain}
use Rattle.typed_trees.specs.declared.datum.Datum.{Datum}
use Rattle.rapid_meaning.specs.Data.{Frame, frame_at, put_in_frame}
use Rattle.machine_stacks.specs.FrameStack.{FrameStack, frames_in, index_in, written}
use Rattle.machine_stacks.proofs.Framing.{length-frames_in, same_frames}
use Rattle.machine_stacks.proofs.Placing.{if_within, index_within, write}
use Rattle.machine_stacks.proofs.frames.Frames.put_own_num.Goals as goal

pub write_num_at-requires : goal.write_num_at-requires
write_num_at-requires c =
    let f = c.self.inside in
    let e : c.innermost_at-index.result ≡ index_in (length f.values.items) (reverse f.marks.items) (length f.marks.items - 1) c.args.at = cc in
    if_within c.innermost_at-index.result (index_in (length f.values.items) (reverse f.marks.items) (length f.marks.items - 1) c.args.at) (length f.values.items) (length f.values.items) e (omega arith)
    (index_within (length f.values.items) (reverse f.marks.items) (length f.marks.items - 1) c.args.at c.self.invariant)

pub returns : goal.returns
returns c =
    let f = c.self.inside in
    let marks = reverse f.marks.items in
    let frames : List Frame = frames_in f.values.items marks in
    let count : length frames ≡ length f.marks.items = length-frames_in f.values.items marks ∙ length-reverse f.marks.items in
    let datum : Datum = Plain (values.Num c.args.number) in
    let e : c.innermost_at-index.result ≡ index_in (length f.values.items) marks (length f.marks.items - 1) c.args.at = cc in
    let new : frames_in c.write_num_at.new.values.items marks ≡ put_in_frame frames (length frames - 1) c.args.at datum (frame_at frames (length frames - 1)) =
    ap (λ vs. frames_in vs marks) (c.write_num_at.ensures.items ∙ ap (λ o. written o datum f.values.items) e)
    ∙ write f.values.items marks (length f.marks.items - 1) c.args.at datum c.self.invariant
    ∙ ap (λ (n : ℕ). put_in_frame frames (n - 1) c.args.at datum (frame_at frames (n - 1))) (sym count) in
    same_frames _ _ _ _ _ _ new c.write_num_at.ensures.room refl
    ∙ ap (λ (o : FrameStack). record o { frames = put_in_frame o.frames (length o.frames - 1) c.args.at datum (frame_at o.frames (length o.frames - 1)) }) c.self.view_is
