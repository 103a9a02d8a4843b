use Rattle.std.proofs.Common.{refl, sym, ◌∙◌, None, Some}
use Rattle.rapid_meaning.specs.Doings.{after}
use Rattle.rapid_meaning.specs.Zones.{home_high, on_axes}
use Rattle.task_steps.proofs.Shapings.{bounds_there}
use Rattle.task_steps.proofs.operations.shaping.around.Goals as goal

pub returns-in_default : goal.returns-in_default
unfolding after
returns-in_default c = λ place.
    let middle = c.args.middle.now in
    let delta = c.args.delta.now in
    bounds_there c.args.axes place c.args.inside middle delta None (on_axes home_high middle.axis delta.axis) (sym c.in_default.is ∙ c.on_axes.ensures) refl

pub returns-in_default-on_axes : goal.returns-in_default-on_axes
unfolding after
returns-in_default-on_axes c = λ place.
    bounds_there c.args.axes place c.args.inside c.args.middle.now c.args.delta.now (Some c.in-Some.low) None (sym c.in-Some.is ∙ c.on_axes.ensures) (sym c.in_default-on_axes.is ∙ c.on_axes-2.ensures)

pub returns : goal.returns
unfolding after
returns c = λ place.
    bounds_there c.args.axes place c.args.inside c.args.middle.now c.args.delta.now (Some c.in-Some.low) (Some c.in-Some-on_axes.high) (sym c.in-Some.is ∙ c.on_axes.ensures) (sym c.in-Some-on_axes.is ∙ c.on_axes-2.ensures)
    ∙ c.between.ensures place
