use Rattle.std.proofs.Common.{drop}
use Rattle.cell_listing.specs.Listing.{code_lines}
use Rattle.sink_lines.specs.Printed.{sunk}
use Rattle.run_lines.proofs.Printing.{Printing}
use Rattle.run_lines.proofs.list.print_programs.Given as goal

abbrev pub invariant-loop-k : goal.invariant-loop-k
invariant-loop-k g l =
    Printing (code_lines l.rows l.each) (code_lines (drop l.k l.rows) (drop l.k l.each))
    (sunk g.O.Sink.told g.O.Sink.calls g.O.Sink.faults l.initial.out l.out)
