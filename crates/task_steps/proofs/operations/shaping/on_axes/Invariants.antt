use Rattle.std.proofs.Common.{◌≡◌, length, take, drop, if◌then◌else◌}
use Rattle.rapid_meaning.specs.Zones.{home_high, home_low, on_axes}
use Rattle.task_steps.proofs.Homes.{behind}
use Rattle.task_steps.proofs.operations.shaping.on_axes.Given as goal

abbrev pub invariant-loop-axis : goal.invariant-loop-axis
invariant-loop-axis l = record {
  room : length l.bounds ≡ 12;
  so_far : behind (take l.axis l.bounds) (on_axes (λ m d. if l.above then home_high m d else home_low m d) (drop l.axis l.middles) (drop l.axis l.deltas)) ≡ on_axes (λ m d. if l.above then home_high m d else home_low m d) l.middles l.deltas;
}
