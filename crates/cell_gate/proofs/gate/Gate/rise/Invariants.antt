-- The pass has waited, and asked nothing.
use Rattle.std.proofs.Common.{◌≡◌, ◌≤◌}
use mathlib.Core.List.{IsPrefix}
use Rattle.cell_gate.proofs.gate.Gate.rise.Given as goal

abbrev pub invariant-loop : goal.invariant-loop
invariant-loop g l = record {
  gate : l.pass.gate ≡ l.initial.pass.gate;
  actor : l.pass.actor ≡ l.initial.pass.actor;
  begins : IsPrefix l.initial.pass.seen l.pass.seen;
  mine : l.pass.mine ≡ l.initial.pass.mine;
  looks : l.initial.pass.looks ≤ l.pass.looks;
}
