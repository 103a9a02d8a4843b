use Rattle.std.proofs.Common.{◌≡◌, length, reverse, refl, ap, ◌∙◌, arith}
use Rattle.rapid_model.specs.declared.value.Value.TheVariants as values
use Rattle.typed_trees.specs.declared.datum.Datum.TheVariants.{Plain}
use Rattle.rapid_meaning.specs.Data.{frame_at, put_in_frame}
use Rattle.machine_stacks.specs.FrameStack.{FrameStack, frames_in, index_in, written}
use Rattle.machine_stacks.proofs.Framing.{same_frames}
use Rattle.machine_stacks.proofs.Placing.{if_within, index_within, write}
use Rattle.machine_stacks.proofs.frames.Frames.put_num.Goals as goal

pub write_num_at-requires : goal.write_num_at-requires
write_num_at-requires c =
    let f = c.self.inside in
    let e : c.index_at-index.result ≡ index_in (length f.values.items) (reverse f.marks.items) c.args.frame c.args.at = cc in
    if_within c.index_at-index.result (index_in (length f.values.items) (reverse f.marks.items) c.args.frame c.args.at) (length f.values.items) (length f.values.items) e (omega arith)
    (index_within (length f.values.items) (reverse f.marks.items) c.args.frame c.args.at c.self.invariant)

pub returns : goal.returns
returns c =
    let f = c.self.inside in
    let e : c.index_at-index.result ≡ index_in (length f.values.items) (reverse f.marks.items) c.args.frame c.args.at = cc in
    let new : frames_in c.write_num_at.new.values.items (reverse f.marks.items)
    ≡ put_in_frame (frames_in f.values.items (reverse f.marks.items)) c.args.frame c.args.at (Plain (values.Num c.args.number)) (frame_at (frames_in f.values.items (reverse f.marks.items)) c.args.frame) =
    ap (λ vs. frames_in vs (reverse f.marks.items)) (c.write_num_at.ensures.items ∙ ap (λ o. written o (Plain (values.Num c.args.number)) f.values.items) e)
    ∙ write f.values.items (reverse f.marks.items) c.args.frame c.args.at (Plain (values.Num c.args.number)) c.self.invariant in
    same_frames _ _ _ _ _ _ new c.write_num_at.ensures.room refl
    ∙ ap (λ (o : FrameStack). record o { frames = put_in_frame o.frames c.args.frame c.args.at (Plain (values.Num c.args.number)) (frame_at o.frames c.args.frame) }) c.self.view_is
