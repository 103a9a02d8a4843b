use Rattle.std.proofs.Common.{◌≡◌, ◌+◌, ◌-◌, ◌≤◌, length, take, drop}
use Rattle.stack_code.specs.Firsts.{in_full}
use Rattle.machine_stacks.specs.Starts.{values_from}
use Rattle.task_steps.proofs.operands.first_counts.count_from.Given as goal

abbrev pub invariant-loop-left : goal.invariant-loop-left
invariant-loop-left l = record {
  few : l.left ≤ l.most;
  all : l.most + length (take l.left (drop l.skip (in_full (drop l.run l.firsts)))) ≡ l.left + length (values_from l.firsts l.fn.start l.most);
}

abbrev pub decreases-loop-left : goal.decreases-loop-left
decreases-loop-left l = length l.firsts - l.run
