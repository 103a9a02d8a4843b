use Rattle.std.proofs.Common.{arith, add-one, refl}
use Rattle.joint_planner.specs.Setpoints.{greatest_change}
use Rattle.joint_planner.proofs.Loops.{greatest_change_more, reach_at}
use Rattle.joint_planner.proofs.change.greatest_change.Goals as goal

pub loop-k-init : goal.loop-k-init
unfolding greatest_change
loop-k-init c = record { so_far = refl; at_most = omega arith }

pub change_of-requires-clause-start : goal.change_of-requires-clause-start
change_of-requires-clause-start c =
    reach_at 0 c.args.axes c.loop-k.k c.args.start.now.axis _ c.requires.start (omega arith) (omega arith)

pub change_of-requires-clause-target : goal.change_of-requires-clause-target
change_of-requires-clause-target c =
    reach_at 0 c.args.axes c.loop-k.k c.args.target.now.axis _ c.requires.target (omega arith) (omega arith)

pub loop-k-preserved : goal.loop-k-preserved
loop-k-preserved c =
    let more = greatest_change_more c.loop-k.k c.args.start.now.axis c.args.target.now.axis c.index-start-k.result c.index-target-k.result (omega arith) (omega arith) in
    let next = add-one c.loop-k.k in
    record { so_far = cc; at_most = omega arith }
