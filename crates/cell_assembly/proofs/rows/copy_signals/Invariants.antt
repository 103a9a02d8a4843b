use Rattle.std.proofs.Common.{◌≡◌, take}
use Rattle.cell_assembly.proofs.rows.copy_signals.Given as goal

abbrev pub invariant-loop-signal : goal.invariant-loop-signal
invariant-loop-signal l = l.copy.items ≡ take l.signal-index l.signals
