use Rattle.std.proofs.Common.{ℕ, sym, ap, ◌∙◌, Err}
use Rattle.joint_clip.specs.Shapes.{made_shape}
use Rattle.rapid_meaning.specs.Doings.{after}
use Rattle.rapid_meaning.specs.Zones.{shaped}
use Rattle.task_steps.proofs.operations.shaping.between.Goals as goal

pub returns-in-Ok : goal.returns-in-Ok
unfolding after
returns-in-Ok c = λ place. ap (λ r. shaped place r) (ap (λ (axes : ℕ). made_shape c.args.inside c.args.low.now c.args.high.now axes) (sym c.from.ensures) ∙ sym c.make_shape.ensures ∙ c.in-Ok.is)

pub returns-in-Err-ExtAxis : goal.returns-in-Err-ExtAxis
unfolding after
returns-in-Err-ExtAxis c = λ place. ap (λ r. shaped place r) (ap (λ (axes : ℕ). made_shape c.args.inside c.args.low.now c.args.high.now axes) (sym c.from.ensures) ∙ sym c.make_shape.ensures ∙ c.in-Err-ExtAxis.is ∙ ap (λ why. Err why) c.in-Err-ExtAxis.field-0-is)

pub returns-in-Err-ZoneShape : goal.returns-in-Err-ZoneShape
unfolding after
returns-in-Err-ZoneShape c = λ place. ap (λ r. shaped place r) (ap (λ (axes : ℕ). made_shape c.args.inside c.args.low.now c.args.high.now axes) (sym c.from.ensures) ∙ sym c.make_shape.ensures ∙ c.in-Err-ZoneShape.is ∙ ap (λ why. Err why) c.in-Err-ZoneShape.field-0-is)
