use Rattle.std.proofs.Common.{Bool, not, ap, sym, ◌∙◌}
use Rattle.std.specs.Prelude.{if◌then◌else◌}
use Rattle.joint_clip.specs.Lying.{all_within}
use Rattle.joint_clip.proofs.Staying.{touched_by}
use Rattle.joint_clip.proofs.lying.lies_in.Goals as goal

pub returns-then-shape-clause-touched : goal.returns-then-shape-clause-touched
returns-then-shape-clause-touched c =
    let within = all_within 0 c.args.shape.now.bounds c.args.at.now in
    touched_by c.args.shape.now c.args.at.now c.all_within-within.result
    (c.all_within-within.ensures ∙ sym (ap (λ (inside : Bool). if inside then within else not within) c.if-shape.true))

pub returns-else-shape-clause-touched : goal.returns-else-shape-clause-touched
returns-else-shape-clause-touched c =
    let within = all_within 0 c.args.shape.now.bounds c.args.at.now in
    touched_by c.args.shape.now c.args.at.now (not c.all_within-within.result)
    (ap not c.all_within-within.ensures ∙ sym (ap (λ (inside : Bool). if inside then within else not within) c.if-shape.false))
