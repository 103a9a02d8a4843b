use Rattle.std.proofs.Common.{◌≡◌, length, drop, take, ◌++◌}
use Rattle.std.specs.Option.{option_map}
use Rattle.rapid_values.specs.Values.{nums_of}
use Rattle.rapid_values.proofs.record.fill.Given as goal

abbrev pub invariant-loop-index : goal.invariant-loop-index
invariant-loop-index l = record {
  as_many : length l.parts ≡ length l.nums;
  rest : nums_of l.parts ≡ option_map (λ ns. take l.index l.nums ++ ns) (nums_of (drop l.index l.parts));
}
