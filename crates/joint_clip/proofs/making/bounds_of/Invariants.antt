use Rattle.std.proofs.Common.{◌≡◌, length, take}
use Rattle.joint_clip.specs.Shapes.{bounds_of}
use Rattle.joint_clip.proofs.making.bounds_of.Given as goal

abbrev pub invariant-loop-axis : goal.invariant-loop-axis
invariant-loop-axis l = record {
  so_far : take l.axis l.bounds ≡ take l.axis (bounds_of l.lows l.highs);
  room : length l.bounds ≡ 12;
}
