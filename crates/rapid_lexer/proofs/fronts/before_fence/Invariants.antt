use Rattle.std.proofs.Common.{◌≡◌, ◌+◌, drop}
use Rattle.std.specs.Option.{option_map}
use Rattle.rapid_lexer.specs.Gaps.{before_fence}
use Rattle.rapid_lexer.proofs.fronts.before_fence.Given as goal

abbrev pub invariant-loop-i : goal.invariant-loop-i
invariant-loop-i l = option_map (λ n. l.i + n) (before_fence (drop l.i l.bytes)) ≡ before_fence l.bytes
