use Rattle.std.proofs.Common.{◌≡◌, ◌≤◌, arith, add-one, refl, rules}
use Rattle.joint_planner.specs.Setpoints.{step_of}
use Rattle.joint_planner.proofs.Loops.{step_of_more, reach_at}
use Rattle.joint_planner.proofs.Setpoints.{setpoint_reach, setpoint_position, take-setpoint_last}
use Rattle.joint_planner.proofs.planned.Plan.at.Goals as goal

pub loop-k-init : goal.loop-k-init
unfolding step_of
loop-k-init c = record { so_far = refl; start = omega arith; target = omega arith }

pub part_of_way-requires-clause-start : goal.part_of_way-requires-clause-start
part_of_way-requires-clause-start c =
    reach_at 0 c.self.inside.axes c.loop-k.k c.self.inside.start.axis _ c.self.invariant.start (omega arith) (omega arith)

pub part_of_way-requires-clause-target : goal.part_of_way-requires-clause-target
part_of_way-requires-clause-target c =
    reach_at 0 c.self.inside.axes c.loop-k.k c.self.inside.target.axis _ c.self.invariant.target (omega arith) (omega arith)

pub loop-k-preserved : goal.loop-k-preserved
loop-k-preserved c =
    let plan = c.self.inside in
    let more = step_of_more c.loop-k.k plan.start.axis plan.target.axis plan.count c.args.j c.index-self-k.result c.index-self-k-in-loop-k.result (omega arith) (omega arith) in
    let next = add-one c.loop-k.k in
    record { so_far = cc; start = omega arith; target = omega arith }

pub returns-clause-reach : goal.returns-clause-reach
returns-clause-reach c =
    let plan = c.self.inside in
    let done : c.loop-k.k ≡ plan.axes = omega arith in
    let last : c.args.j ≤ plan.count = search rules in
    rw (← c.self.view_is, c.loop-k.invariant.so_far, done) (setpoint_reach plan.axes plan.start plan.target plan.count c.args.j c.self.invariant.start c.self.invariant.target c.requires.first last)

pub returns-clause-position : goal.returns-clause-position
returns-clause-position c =
    let plan = c.self.inside in
    let done : c.loop-k.k ≡ plan.axes = omega arith in
    let last : c.args.j ≤ plan.count = search rules in
    rw (← c.self.view_is) (λ from. rw (c.loop-k.invariant.so_far, done) (setpoint_position plan.axes plan.start plan.target plan.count c.args.j from c.self.invariant.target c.requires.first last))

pub returns-clause-last_is_target : goal.returns-clause-last_is_target
returns-clause-last_is_target c =
    let plan = c.self.inside in
    let done : c.loop-k.k ≡ plan.axes = omega arith in
    rw (← c.self.view_is) (λ last. rw (c.loop-k.invariant.so_far, done, last) (take-setpoint_last plan.axes plan.start plan.target plan.count (omega arith) (omega arith) c.self.invariant.some))
