use Rattle.joint_clip.proofs.Beyond.{PassesBeyond}
use Rattle.joint_clip.proofs.NamedAxes.{NoneOf}
use Rattle.joint_clip.proofs.outside.passes_outside.Given as goal

abbrev pub invariant-loop-axis : goal.invariant-loop-axis
invariant-loop-axis l = record { so_far : NoneOf PassesBeyond l.axis l.bounds l.p l.q }
