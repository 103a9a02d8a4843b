use Rattle.std.proofs.Common.{drop}
use Rattle.cell_listing.specs.Listing.{code_line, numbered}
use Rattle.sink_lines.specs.Printed.{sunk}
use Rattle.run_lines.proofs.Printing.{Printing}
use Rattle.run_lines.proofs.list.print_operations.Given as goal

abbrev pub invariant-loop-pc : goal.invariant-loop-pc
invariant-loop-pc g l =
    Printing (numbered (code_line l.task) 0 l.ops) (numbered (code_line l.task) l.pc (drop l.pc l.ops))
    (sunk g.O.Sink.told g.O.Sink.calls g.O.Sink.faults l.initial.out l.out)
