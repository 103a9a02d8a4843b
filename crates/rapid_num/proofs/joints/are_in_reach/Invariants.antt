use Rattle.std.proofs.Common.{◌≡◌, drop}
use Rattle.rapid_num.specs.Reach.{are_in_reach}
use Rattle.rapid_num.proofs.joints.are_in_reach.Given as goal

abbrev pub invariant-loop-axis : goal.invariant-loop-axis
invariant-loop-axis l = are_in_reach 0 l.angles ≡ are_in_reach l.axis (drop l.axis l.angles)
