use Rattle.std.proofs.Common.{drop, map}
use Rattle.typed_trees.specs.Views.{view_slot}
use Rattle.state_text.specs.StateLines.{datum_lines}
use Rattle.sink_lines.specs.Printed.{sunk}
use Rattle.run_lines.proofs.Printing.{Printing}
use Rattle.state_lines.proofs.state.print_data.Given as goal

abbrev pub invariant-loop-row : goal.invariant-loop-row
invariant-loop-row g l =
    Printing (datum_lines l.task (map view_slot l.rows) l.data) (datum_lines l.task (map view_slot (drop l.row-index l.rows)) l.rest)
    (sunk g.O.Sink.told g.O.Sink.calls g.O.Sink.faults l.initial.out l.out)
