use Rattle.std.proofs.Common.{length, ◌-◌, ◌≡◌, ◌≤◌, ◌+◌, drop, true}
use Rattle.rapid_lexer.specs.Reading.{gap_len}
use Rattle.rapid_lexer.proofs.gaps.line_end.Given as goal

abbrev pub invariant-loop-now : goal.invariant-loop-now
invariant-loop-now l = record {
  same : l.now + gap_len true (drop l.now l.source) ≡ l.at + gap_len true (drop l.at l.source);
  within : l.now ≤ length l.source;
  goes_on : l.at ≤ l.now;
}

abbrev pub decreases-loop-now : goal.decreases-loop-now
decreases-loop-now l = length l.source - l.now
