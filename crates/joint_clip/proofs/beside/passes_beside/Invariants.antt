use Rattle.joint_clip.specs.Beside.{IsBeside}
use Rattle.joint_clip.proofs.NamedAxes.{NoneOf}
use Rattle.joint_clip.proofs.beside.passes_beside.Given as goal

abbrev pub invariant-loop-axis : goal.invariant-loop-axis
invariant-loop-axis l = record { so_far : NoneOf IsBeside l.axis l.bounds l.p l.q }
