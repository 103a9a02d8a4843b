use Rattle.std.proofs.lemmas.Bool.{false≢true}
use Rattle.joint_clip.proofs.PassingBy.{none_inside}
use Rattle.joint_clip.proofs.Parts.{found_where}
use Rattle.joint_clip.proofs.inside.passes_inside.Goals as goal

pub returns-then-passes_beside : goal.returns-then-passes_beside
returns-then-passes_beside c =
    (λ is. absurd (false≢true is), λ inside. absurd (none_inside c.args.bounds.now c.args.p.now c.args.q.now (c.passes_beside.ensures.0 c.if-passes_beside.true) inside))

pub returns : goal.returns
returns c = found_where _ _ _ c.part_inside.ensures c.is_some.ensures
