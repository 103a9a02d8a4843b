use Rattle.std.proofs.Common.{drop, length}
use Rattle.cell_meaning.specs.Fates.{fates_after}
use Rattle.history_text.specs.Lines.{fate_lines}
use Rattle.sink_lines.specs.Printed.{sunk}
use Rattle.run_lines.proofs.Printing.{Printing}
use Rattle.run_lines.proofs.run.print_fates.Given as goal

abbrev pub invariant-loop-task : goal.invariant-loop-task
invariant-loop-task g l =
    let fates = fates_after l.core.cell l.core.history (length l.core.cell.tasks) in
    Printing (fate_lines l.core.cell.tasks fates) (fate_lines (drop l.task l.core.cell.tasks) (drop l.task fates))
    (sunk g.O.Sink.told g.O.Sink.calls g.O.Sink.faults l.initial.out l.out)
