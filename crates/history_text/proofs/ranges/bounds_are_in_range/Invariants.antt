use Rattle.std.proofs.Common.{take}
use Rattle.std.specs.List.{AllByRecursion}
use Rattle.history_text.specs.InRange.{IsBound}
use Rattle.history_text.proofs.ranges.bounds_are_in_range.Given as goal

abbrev pub invariant-loop-bound : goal.invariant-loop-bound
invariant-loop-bound l = AllByRecursion IsBound (take l.bound-index l.bounds)
