use Rattle.std.proofs.Common.{map, take}
use Rattle.rapid_model.specs.Sorts.{width}
use Rattle.code_expr.specs.Starts.{AreStarts}
use Rattle.code_expr.proofs.starts.slot_starts.Given as goal

abbrev pub invariant-loop-slot : goal.invariant-loop-slot
invariant-loop-slot l = AreStarts l.starts.items (map (λ slot. width slot.len) (take l.slot-index l.slot-items))
