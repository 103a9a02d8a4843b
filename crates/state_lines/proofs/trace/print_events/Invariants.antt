-- The earlier events are printed.
use Rattle.state_lines.specs.Sources.{view_modules}
use Rattle.sink_lines.specs.Printed.{sunk}
use Rattle.state_lines.proofs.PrintingTrace.{AmidTrace}
use Rattle.state_lines.proofs.trace.print_events.Given as goal

abbrev pub invariant-loop-k : goal.invariant-loop-k
invariant-loop-k g l =
    AmidTrace l.initial.machines l.machines l.core.cell (view_modules l.modules) l.core.history l.k (sunk g.O.Sink.told g.O.Sink.calls g.O.Sink.faults l.initial.out l.out)
