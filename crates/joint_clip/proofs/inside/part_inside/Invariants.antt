use Rattle.std.proofs.Common.{Some}
use Rattle.joint_clip.specs.Touches.{point_at}
use Rattle.joint_clip.specs.Parts.{IsPartWhere}
use Rattle.joint_clip.proofs.Axes.{WithinFirst}
use Rattle.joint_clip.proofs.inside.part_inside.Given as goal

abbrev pub invariant-loop-axis : goal.invariant-loop-axis
invariant-loop-axis l = record {
  so_far : IsPartWhere (Some l.part) (λ k m. WithinFirst l.axis l.bounds (point_at l.p l.q k m) m);
}
