use Rattle.clearance_tests.proofs.Reaching.{FirstInReach}
use Rattle.clearance_tests.proofs.limits.are_in_reach.Given as goal

abbrev pub invariant-loop-axis : goal.invariant-loop-axis
invariant-loop-axis l = record { so_far : FirstInReach l.axis l.bounds l.p l.q }
