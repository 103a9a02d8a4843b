use Rattle.std.proofs.Common.{length, ◌-◌, ◌≡◌, ◌≤◌, ◌+◌, drop}
use Rattle.std.specs.List.{prefix_len}
use Rattle.rapid_lexer.specs.Bytes.{is_blank}
use Rattle.rapid_lexer.proofs.fronts.skip_blanks.Given as goal

abbrev pub invariant-loop-now : goal.invariant-loop-now
invariant-loop-now l = record {
  same : l.now + prefix_len is_blank (drop l.now l.source) ≡ l.at + prefix_len is_blank (drop l.at l.source);
  within : l.now ≤ length l.source;
}

abbrev pub decreases-loop-now : goal.decreases-loop-now
decreases-loop-now l = length l.source - l.now
