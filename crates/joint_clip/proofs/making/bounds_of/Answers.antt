use Rattle.std.proofs.Common.{◌+◌, take, ap, ◌∙◌, arith, length-set}
use Rattle.std.proofs.Math.ListN.{set}
use Rattle.joint_clip.proofs.Bounds.{bounds_more, bounds_all}
use Rattle.joint_clip.proofs.making.bounds_of.Goals as goal

pub loop-axis-preserved : goal.loop-axis-preserved
loop-axis-preserved c =
    let axis = c.loop-axis.axis in
    let bounds = c.loop-axis.bounds in
    let more = bounds_more c.args.lows.now c.args.highs.now bounds axis c.index-lows-axis.result c.index-highs-axis.result (omega arith) (omega arith) (omega arith) c.loop-axis.invariant.so_far in
    record { so_far = ap (λ bound. take (axis + 1) (set bounds axis bound)) c.bound_of.ensures ∙ more; room = omega (arith, length-set bounds axis c.bound_of.result) }

pub returns : goal.returns
returns c =
    bounds_all c.args.lows.now c.args.highs.now c.loop-axis.bounds c.loop-axis.axis (omega arith) (omega arith) (omega arith) c.loop-axis.invariant.so_far
