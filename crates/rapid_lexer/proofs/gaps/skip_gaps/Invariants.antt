use Rattle.std.proofs.Common.{length, ◌-◌, ◌≡◌, ◌≤◌, ◌+◌, drop, false}
use Rattle.rapid_lexer.specs.Reading.{gap_len}
use Rattle.rapid_lexer.proofs.gaps.skip_gaps.Given as goal

abbrev pub invariant-loop-now : goal.invariant-loop-now
invariant-loop-now l = record {
  same : l.now + gap_len false (drop l.now l.source) ≡ l.at + gap_len false (drop l.at l.source);
  within : l.now ≤ length l.source;
}

abbrev pub decreases-loop-now : goal.decreases-loop-now
decreases-loop-now l = length l.source - l.now
