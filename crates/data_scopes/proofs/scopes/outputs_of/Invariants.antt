use Rattle.std.proofs.Common.{◌≡◌, ◌++◌, drop}
use Rattle.data_scopes.specs.Rows.{outputs_of}
use Rattle.data_scopes.proofs.scopes.outputs_of.Given as goal

abbrev pub invariant-loop-signal : goal.invariant-loop-signal
invariant-loop-signal l = l.outputs.items ++ outputs_of (drop l.signal-index l.signals) ≡ outputs_of l.signals
