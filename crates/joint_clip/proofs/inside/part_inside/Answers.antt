use Rattle.std.proofs.Common.{◌<◌, ◌≤◌, length, pos, arith}
use Rattle.std.proofs.lemmas.List.{get_or_default}
use Rattle.joint_clip.proofs.Axes.{within_none, cut_by_axis, skip_axis, after_axes, nothing_left, element_at}
use Rattle.joint_clip.proofs.inside.part_inside.Goals as goal
use Rattle.joint_clip.proofs.inside.part_inside.Goals.{in-Some+in_ok-part, in_default}

pub loop-axis-init : goal.loop-axis-init
loop-axis-init c = record {
  so_far = record {
    kept = λ k m some way h. c.whole-part.ensures k m way;
    only = λ k m some way h. within_none _ _ m;
  };
}

pub returns-in_err-part : goal.returns-in_err-part
returns-in_err-part c =
    let axis = c.loop-axis.axis in
    let bounds = c.args.bounds.now in
    let p = c.args.p.now in
    let q = c.args.q.now in
    let inside : axis < length bounds = omega arith in
    rw c.from_residual.ensures (nothing_left _ bounds p q
    (cut_by_axis axis bounds p q c.in-Some.bound _ _ c.loop-axis.part _
    (element_at bounds axis _ _ inside c.in-Some.is)
    (get_or_default p.axis axis c.index-p-axis.result (pos 0) (omega arith))
    (get_or_default q.axis axis c.index-q-axis.result (pos 0) (omega arith))
    c.loop-axis.invariant.so_far
    c.in_err-part.ensures))

pub loop-axis-preserved : goal.loop-axis-preserved
loop-axis-preserved c =
    let axis = c.loop-axis.axis in
    let bounds = c.args.bounds.now in
    let p = c.args.p.now in
    let q = c.args.q.now in
    let inside : axis < length bounds = omega arith in
    elim c.match-bounds-axis.branch [
      | in-Some+in_ok-part w ↦
          rw w.part-is (record {
            so_far =
                cut_by_axis axis bounds p q w.in-Some.bound _ _ c.loop-axis.part _
                (element_at bounds axis _ _ inside w.in-Some.is)
                (get_or_default p.axis axis w.index-p-axis.result (pos 0) (omega arith))
                (get_or_default q.axis axis w.index-q-axis.result (pos 0) (omega arith))
                c.loop-axis.invariant.so_far
                w.in_ok-part.ensures;
          })
      | in_default w ↦ rw w.part-is (record { so_far = skip_axis axis bounds p q _ (element_at bounds axis _ _ inside w.in_default.is) c.loop-axis.invariant.so_far })
    ]

pub returns : goal.returns
returns c =
    let all : length c.args.bounds.now ≤ c.loop-axis.axis = omega arith in
    after_axes c.loop-axis.axis c.args.bounds.now c.args.p.now c.args.q.now _ all c.loop-axis.invariant.so_far
