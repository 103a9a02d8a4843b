use Rattle.std.proofs.Common.{◌<◌, ◌≤◌, length, pos, arith, refl}
use Rattle.std.proofs.lemmas.List.{get_or_default}
use Rattle.joint_clip.proofs.Axes.{element_at}
use Rattle.clearance_tests.proofs.Reaching.{reach_all, reach_more, reach_skip}
use Rattle.clearance_tests.proofs.limits.are_in_reach.Goals as goal
use Rattle.clearance_tests.proofs.limits.are_in_reach.Goals.{in-Some+else-not-axis_is_in_reach, in_default}

pub loop-axis-preserved : goal.loop-axis-preserved
loop-axis-preserved c =
    let axis = c.loop-axis.axis in
    let bounds = c.args.bounds.now in
    let p = c.args.p.now in
    let q = c.args.q.now in
    let inside : axis < length bounds = omega arith in
    elim c.match-bounds-axis.branch [
      | in-Some+else-not-axis_is_in_reach w ↦ record {
        so_far =
            reach_more axis bounds p q w.in-Some.bound _ _
            (element_at bounds axis _ _ inside w.in-Some.is)
            (get_or_default p.axis axis w.index-p-axis.result (pos 0) (omega arith))
            (get_or_default q.axis axis w.index-q-axis.result (pos 0) (omega arith))
            c.loop-axis.invariant.so_far
            (w.if-not-axis_is_in_reach.ensures refl);
      }
      | in_default w ↦ record { so_far = reach_skip axis bounds p q (element_at bounds axis _ _ inside w.in_default.is) c.loop-axis.invariant.so_far }
    ]

pub returns : goal.returns
returns c =
    let all : length c.args.bounds.now ≤ c.loop-axis.axis = omega arith in
    λ is. reach_all c.loop-axis.axis c.args.bounds.now c.args.p.now c.args.q.now all c.loop-axis.invariant.so_far
