use Rattle.std.proofs.Common.{length}
use Rattle.history_text.specs.Named.{view_names}
use Rattle.history_text.specs.NextLine.{HasCome}
use Rattle.history_text.proofs.reading.read_history.Given as goal

abbrev pub invariant-loop-rest : goal.invariant-loop-rest
invariant-loop-rest l = HasCome (view_names l.names) l.text l.rest l.number l.events.items l.fates.items

abbrev pub decreases-loop-rest : goal.decreases-loop-rest
decreases-loop-rest l = length l.rest
