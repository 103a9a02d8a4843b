use Rattle.std.proofs.Common.{◌≡◌, ◌-◌, length}
use Rattle.machine_stacks.specs.Starts.{index_of}
use Rattle.machine_stacks.proofs.starts.settled.Given as goal

abbrev pub invariant-loop-run : goal.invariant-loop-run
invariant-loop-run l = index_of l.firsts (record { run = l.run; skip = l.skip }) ≡ index_of l.firsts l.fn.start

abbrev pub decreases-loop-run : goal.decreases-loop-run
decreases-loop-run l = length l.firsts - l.run
