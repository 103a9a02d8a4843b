use Rattle.std.proofs.Common.{◌≡◌, ◌-◌, ◌++◌, length, take, drop}
use Rattle.stack_code.specs.Firsts.{in_full}
use Rattle.machine_stacks.specs.Starts.{values_from}
use Rattle.machine_stacks.proofs.first_values.append_firsts.Given as goal

abbrev pub invariant-loop-left : goal.invariant-loop-left
invariant-loop-left l =
    (l.values.items ++ take l.left (drop l.skip (in_full (drop l.run l.firsts))) ≡ l.fn.values.items ++ values_from l.firsts l.fn.start l.count) × (l.values.room ≡ l.fn.values.room)

abbrev pub decreases-loop-left : goal.decreases-loop-left
decreases-loop-left l = length l.firsts - l.run
