-- Nothing has changed while the history was no longer.
use Rattle.std.proofs.Common.{◌≡◌}
use Rattle.cell_gate.specs.Hands.{IsSamePlace}
use Rattle.cell_gate.proofs.steps.wait_past.Given as goal

abbrev pub invariant-loop : goal.invariant-loop
invariant-loop g l = IsSamePlace l.initial.place l.place × (l.place.me ≡ l.initial.place.me)
