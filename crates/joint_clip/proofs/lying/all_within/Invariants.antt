use Rattle.std.proofs.Common.{◌≡◌, drop}
use Rattle.joint_clip.specs.Lying.{all_within}
use Rattle.joint_clip.proofs.lying.all_within.Given as goal

abbrev pub invariant-loop-axis : goal.invariant-loop-axis
invariant-loop-axis l = record { so_far : all_within 0 l.bounds l.at ≡ all_within l.axis (drop l.axis l.bounds) l.at }
