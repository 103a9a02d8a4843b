use Rattle.std.proofs.Common.{◌≡◌, take}
use Rattle.machine_stacks.proofs.slots.slots_of.Given as goal

abbrev pub invariant-loop-datum : goal.invariant-loop-datum
invariant-loop-datum l = l.slots.items ≡ take l.datum-index l.first_data
