use Rattle.joint_clip.proofs.Parts.{kept_from, cut_from, apart}
use Rattle.joint_clip.proofs.part.Part.starting_at.Goals as goal

pub returns-then-is_at_most : goal.returns-then-is_at_most
returns-then-is_at_most c = kept_from c.args.self c.args.first (c.is_at_most.ensures.0 c.if-is_at_most.true)

pub returns : goal.returns
returns c = cut_from c.args.self c.args.first _ (apart _ _ _ c.is_at_most.ensures c.if-is_at_most.false) c.between.ensures
