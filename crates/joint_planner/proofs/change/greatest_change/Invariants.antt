use Rattle.std.proofs.Common.{◌≡◌, ◌≤◌}
use Rattle.joint_planner.specs.Setpoints.{greatest_change}
use Rattle.joint_planner.proofs.change.greatest_change.Given as goal

abbrev pub invariant-loop-k : goal.invariant-loop-k
invariant-loop-k l = record { so_far : l.greatest ≡ greatest_change l.k l.start.axis l.target.axis; at_most : l.greatest ≤ 200_000_000 }
