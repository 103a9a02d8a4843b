use Rattle.std.proofs.Common.{◌≡◌, ◌≤◌, length}
use Rattle.joint_planner.specs.Setpoints.{step_of}
use Rattle.joint_planner.proofs.planned.Plan.at.Given as goal

abbrev pub invariant-loop-k : goal.invariant-loop-k
invariant-loop-k l = record {
  so_far : l.joints.axis ≡ step_of l.k l.self-inside.start.axis l.self-inside.target.axis l.self-inside.count l.j;
  start : l.k ≤ length l.self-inside.start.axis;
  target : l.k ≤ length l.self-inside.target.axis;
}
