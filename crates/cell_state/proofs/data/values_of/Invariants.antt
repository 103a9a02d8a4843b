-- The data before this slot.
use Rattle.std.proofs.Common.{◌≡◌, take}
use Rattle.cell_state.proofs.data.values_of.Given as goal

abbrev pub invariant-loop-slot : goal.invariant-loop-slot
invariant-loop-slot l = l.values.items ≡ take l.slot l.machine.data'.slots
