use Rattle.std.proofs.Common.{take}
use Rattle.std.specs.List.{AllByRecursion}
use Rattle.rapid_num.specs.Range.{IsNum}
use Rattle.history_text.proofs.ranges.nums_are_in_range.Given as goal

abbrev pub invariant-loop-number : goal.invariant-loop-number
invariant-loop-number g l = AllByRecursion IsNum (take l.number-index l.nums)
