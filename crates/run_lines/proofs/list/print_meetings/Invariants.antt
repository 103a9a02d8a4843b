use Rattle.std.proofs.Common.{drop}
use Rattle.cell_listing.specs.Listing.{meeting_line, numbered}
use Rattle.sink_lines.specs.Printed.{sunk}
use Rattle.run_lines.proofs.Printing.{Printing}
use Rattle.run_lines.proofs.list.print_meetings.Given as goal

abbrev pub invariant-loop-k : goal.invariant-loop-k
invariant-loop-k g l =
    Printing (numbered meeting_line 0 l.names) (numbered meeting_line l.k (drop l.k l.names))
    (sunk g.O.Sink.told g.O.Sink.calls g.O.Sink.faults l.initial.out l.out)
