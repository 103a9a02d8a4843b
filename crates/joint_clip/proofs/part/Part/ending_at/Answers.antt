use Rattle.joint_clip.proofs.Parts.{kept_to, cut_to, apart}
use Rattle.joint_clip.proofs.part.Part.ending_at.Goals as goal

pub returns-then-is_at_most : goal.returns-then-is_at_most
returns-then-is_at_most c = kept_to c.args.self c.args.last (c.is_at_most.ensures.0 c.if-is_at_most.true)

pub returns : goal.returns
returns c = cut_to c.args.self c.args.last _ (apart _ _ _ c.is_at_most.ensures c.if-is_at_most.false) c.between.ensures
