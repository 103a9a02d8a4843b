use Rattle.std.proofs.Common.{◌<◌, ◌≤◌, length, arith}
use Rattle.joint_clip.proofs.Staying.{ends_in, ends_out, goes_on}
use Rattle.joint_clip.proofs.lying.all_within.Goals as goal

pub returns-then-not-is_within_bound : goal.returns-then-not-is_within_bound
returns-then-not-is_within_bound c =
    let axis = c.loop-axis.axis in
    let few : axis < length c.args.bounds.now = omega arith in
    let there : axis < length c.args.at.now.axis = omega arith in
    ends_out c.args.bounds.now c.args.at.now axis _ _ few there c.loop-axis.invariant.so_far c.if-not-is_within_bound.ensures

pub loop-axis-preserved : goal.loop-axis-preserved
loop-axis-preserved c =
    let axis = c.loop-axis.axis in
    let few : axis < length c.args.bounds.now = omega arith in
    let there : axis < length c.args.at.now.axis = omega arith in
    record { so_far = goes_on c.args.bounds.now c.args.at.now axis _ _ few there c.loop-axis.invariant.so_far c.if-not-is_within_bound.ensures }

pub returns : goal.returns
returns c =
    let past : length c.args.bounds.now ≤ c.loop-axis.axis = omega arith in
    ends_in c.args.bounds.now c.args.at.now c.loop-axis.axis past c.loop-axis.invariant.so_far
