use Rattle.std.proofs.lemmas.Bool.{false≢true}
use Rattle.joint_clip.proofs.Parts.{none_between}
use Rattle.joint_clip.proofs.cut.between.Goals as goal

pub returns-then-not-is_at_most : goal.returns-then-not-is_at_most
returns-then-not-is_at_most c =
    none_between c.args.first c.args.last (λ at_most. false≢true (c.if-not-is_at_most.ensures.1 at_most))
