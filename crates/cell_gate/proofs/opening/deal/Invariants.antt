-- The passes of this many actors after the first are made.
use Rattle.std.proofs.Common.{◌≡◌, ◌+◌, [], vec_len, vec_capacity}
use Rattle.cell_gate.specs.Calls.{fresh_passes}
use Rattle.cell_gate.specs.Hands.{IsSamePlace, gate_of}
use Rattle.cell_gate.specs.Views.{dealer}
use Rattle.cell_gate.proofs.opening.deal.Given as goal

abbrev pub invariant-loop-before : goal.invariant-loop-before
invariant-loop-before l = record {
  same : IsSamePlace l.initial.place l.place;
  me : l.place.me ≡ (dealer l.initial.place.me.0.cell (l.before + 1), []);
  passes : l.passes.items ≡ fresh_passes (gate_of l.initial.place) 1 l.before;
  len : vec_len l.passes ≡ l.before;
  room : vec_capacity l.passes ≡ vec_capacity l.initial.passes;
}
