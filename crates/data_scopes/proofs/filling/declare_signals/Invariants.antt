use Rattle.std.proofs.Common.{◌≡◌, drop}
use Rattle.data_scopes.specs.Numbers.{signal_scope}
use Rattle.data_scopes.proofs.filling.declare_signals.Given as goal

abbrev pub invariant-loop-row : goal.invariant-loop-row
invariant-loop-row l = signal_scope l.number (drop l.row-index l.signals) l.scope ≡ signal_scope 0 l.signals l.initial.scope
