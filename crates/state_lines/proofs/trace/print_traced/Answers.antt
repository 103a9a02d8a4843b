use Rattle.state_lines.proofs.PrintingState.{within_short}
use Rattle.state_lines.proofs.trace.print_traced.Goals as goal

pub write_trace-requires-clause-texts : goal.write_trace-requires-clause-texts
write_trace-requires-clause-texts g c = within_short c.sources_of-sources.result.texts.now c.sources_of-sources.ensures.texts
