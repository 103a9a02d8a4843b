use Rattle.std.proofs.Common.{drop}
use Rattle.cell_listing.specs.Listing.{numbered}
use Rattle.state_text.specs.StateLines.{element_of, value_line}
use Rattle.sink_lines.specs.Printed.{sunk}
use Rattle.run_lines.proofs.Printing.{Printing}
use Rattle.state_lines.proofs.state.print_elements.Given as goal

abbrev pub invariant-loop-index : goal.invariant-loop-index
invariant-loop-index g l =
    Printing (numbered (λ index. value_line l.tasks l.number l.row (element_of l.row.len index)) 0 l.values)
    (numbered (λ index. value_line l.tasks l.number l.row (element_of l.row.len index)) l.index (drop l.index l.values))
    (sunk g.O.Sink.told g.O.Sink.calls g.O.Sink.faults l.initial.out l.out)
