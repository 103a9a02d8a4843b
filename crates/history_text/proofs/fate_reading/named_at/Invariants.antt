use Rattle.std.proofs.Common.{◌≡◌, drop}
use Rattle.history_text.specs.EventReading.{named_at}
use Rattle.history_text.proofs.fate_reading.named_at.Given as goal

abbrev pub invariant-loop-fault : goal.invariant-loop-fault
invariant-loop-fault l = named_at l.faults l.text ≡ named_at (drop l.fault-index l.faults) l.text
