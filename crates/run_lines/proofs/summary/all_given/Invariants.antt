use Rattle.std.proofs.Common.{◌≡◌, ◌≤◌, take}
use Rattle.run_lines.specs.Output.{all_given}
use Rattle.run_lines.proofs.summary.all_given.Given as goal

abbrev pub invariant-loop-k : goal.invariant-loop-k
invariant-loop-k l = record {
  counted : l.given ≡ all_given (take l.k l.core.history);
  few : l.given ≤ l.k;
}
