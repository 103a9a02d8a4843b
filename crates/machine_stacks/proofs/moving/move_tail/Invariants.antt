use Rattle.std.proofs.Common.{◌≡◌, ◌+◌, ◌++◌, length, drop}
use Rattle.machine_stacks.proofs.moving.move_tail.Given as goal

-- what stands before the index has been copied, the rest has not
abbrev pub invariant-loop-index : goal.invariant-loop-index
invariant-loop-index l = record {
  moved : l.to.items ++ drop l.index l.from.items ≡ l.initial.to.items ++ drop l.at l.from.items;
  room : length l.to.items + l.at ≡ length l.initial.to.items + l.index;
  to_room : l.to.room ≡ l.initial.to.room;
}
