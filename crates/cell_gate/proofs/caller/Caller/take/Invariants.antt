-- Nothing has changed while the turn was not free.
use Rattle.std.proofs.Common.{◌≡◌}
use Rattle.cell_gate.specs.Hands.{IsSameCaller}
use Rattle.cell_gate.proofs.caller.Caller.take.Given as goal

abbrev pub invariant-loop : goal.invariant-loop
invariant-loop g l = IsSameCaller l.initial.self l.self × (l.self.place.me ≡ l.initial.self.place.me)
