use Rattle.std.proofs.Common.{drop}
use Rattle.cell_listing.specs.Listing.{pers_line, numbered}
use Rattle.sink_lines.specs.Printed.{sunk}
use Rattle.run_lines.proofs.Printing.{Printing}
use Rattle.run_lines.proofs.list.print_persistents.Given as goal

abbrev pub invariant-loop-k : goal.invariant-loop-k
invariant-loop-k g l =
    Printing (numbered (pers_line l.tasks) 0 l.rows) (numbered (pers_line l.tasks) l.k (drop l.k l.rows))
    (sunk g.O.Sink.told g.O.Sink.calls g.O.Sink.faults l.initial.out l.out)
