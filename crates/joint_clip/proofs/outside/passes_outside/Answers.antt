use Rattle.std.proofs.Common.{◌<◌, ◌≤◌, length, pos, arith}
use Rattle.std.proofs.lemmas.Bool.{false≢true}
use Rattle.std.proofs.lemmas.List.{get_or_default}
use Rattle.joint_clip.proofs.Axes.{element_at}
use Rattle.joint_clip.proofs.Beyond.{PassesBeyond, none_outside}
use Rattle.joint_clip.proofs.NamedAxes.{none_more, none_skip}
use Rattle.joint_clip.proofs.outside.passes_outside.Goals as goal
use Rattle.joint_clip.proofs.outside.passes_outside.Goals.{in-Some+else-passes_beyond, in_default}

pub loop-axis-preserved : goal.loop-axis-preserved
loop-axis-preserved c =
    let axis = c.loop-axis.axis in
    let bounds = c.args.bounds.now in
    let p = c.args.p.now in
    let q = c.args.q.now in
    let inside : axis < length bounds = omega arith in
    elim c.match-bounds-axis.branch [
      | in-Some+else-passes_beyond w ↦ record {
        so_far =
            none_more PassesBeyond axis bounds p q w.in-Some.bound _ _
            (element_at bounds axis _ _ inside w.in-Some.is)
            (get_or_default p.axis axis w.index-p-axis.result (pos 0) (omega arith))
            (get_or_default q.axis axis w.index-q-axis.result (pos 0) (omega arith))
            c.loop-axis.invariant.so_far
            (λ passes. false≢true (w.if-passes_beyond.ensures.1 passes));
      }
      | in_default w ↦ record { so_far = none_skip PassesBeyond axis bounds p q (element_at bounds axis _ _ inside w.in_default.is) c.loop-axis.invariant.so_far }
    ]

pub returns : goal.returns
returns c =
    let all : length c.args.bounds.now ≤ c.loop-axis.axis = omega arith in
    (λ is. absurd (false≢true is), λ passes. absurd (none_outside c.loop-axis.axis c.args.bounds.now c.args.p.now c.args.q.now all c.loop-axis.invariant.so_far passes))
