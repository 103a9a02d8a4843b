use Rattle.std.proofs.Common.{sym, ◌∙◌, take, arith, if◌then◌else◌, length-set}
use Rattle.rapid_meaning.specs.Zones.{home_high, home_low}
use Rattle.task_steps.proofs.Homes.{bound_missing, bound_more, bounds_all, bounds_none}
use Rattle.task_steps.proofs.operations.shaping.on_axes.Goals as goal

pub loop-axis-init : goal.loop-axis-init
loop-axis-init c = record { room = omega arith; so_far = bounds_none _ }

pub returns-in_err-bounds : goal.returns-in_err-bounds
returns-in_err-bounds c =
    let i = c.loop-axis.invariant in
    rw c.from_residual.ensures (bound_missing (λ m d. if c.args.above then home_high m d else home_low m d) c.args.middles.now c.args.deltas.now (take c.loop-axis.axis c.loop-axis.bounds) c.loop-axis.axis c.index-middles-axis.result c.index-deltas-axis.result _ (omega arith) (omega arith) (sym c.home_bound.ensures ∙ c.in_err-bounds.was) i.so_far)

pub loop-axis-preserved : goal.loop-axis-preserved
loop-axis-preserved c =
    let i = c.loop-axis.invariant in
    record {
      room = omega (arith, length-set c.loop-axis.bounds c.loop-axis.axis c.in_ok-bounds.field-0, i.room);
      so_far = bound_more (λ m d. if c.args.above then home_high m d else home_low m d) c.args.middles.now c.args.deltas.now c.loop-axis.bounds c.loop-axis.axis c.index-middles-axis.result c.index-deltas-axis.result c.in_ok-bounds.field-0 _ (omega arith) (omega arith) (omega (arith, i.room)) (sym c.home_bound.ensures ∙ c.in_ok-bounds.was) i.so_far;
    }

pub returns : goal.returns
returns c =
    let i = c.loop-axis.invariant in
    bounds_all (λ m d. if c.args.above then home_high m d else home_low m d) c.args.middles.now c.args.deltas.now c.loop-axis.bounds c.loop-axis.axis _ (omega arith) (omega (arith, i.room)) i.so_far
