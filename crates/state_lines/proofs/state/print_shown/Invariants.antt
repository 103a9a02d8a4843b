use Rattle.std.proofs.Common.{drop}
use Rattle.cell_listing.specs.Listing.{numbered}
use Rattle.state_text.specs.StateLines.{datum_line, element_of}
use Rattle.sink_lines.specs.Printed.{sunk}
use Rattle.run_lines.proofs.Printing.{Printing}
use Rattle.state_lines.proofs.state.print_shown.Given as goal

abbrev pub invariant-loop-index : goal.invariant-loop-index
invariant-loop-index g l =
    Printing (numbered (λ index. datum_line l.task l.row.name (element_of l.row.len index)) 0 l.data)
    (numbered (λ index. datum_line l.task l.row.name (element_of l.row.len index)) l.index (drop l.index l.data))
    (sunk g.O.Sink.told g.O.Sink.calls g.O.Sink.faults l.initial.out l.out)
