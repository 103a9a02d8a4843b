use Rattle.std.proofs.Common.{drop}
use Rattle.state_text.specs.StateLines.{value_lines}
use Rattle.sink_lines.specs.Printed.{sunk}
use Rattle.run_lines.proofs.Printing.{Printing}
use Rattle.state_lines.proofs.PrintingState.{elements_in}
use Rattle.state_lines.proofs.state.print_values.Given as goal

abbrev pub invariant-loop-k : goal.invariant-loop-k
invariant-loop-k g l =
    Printing (value_lines l.names.tasks.now 0 l.names.pers.now (elements_in l.pers)) (value_lines l.names.tasks.now l.k (drop l.k l.names.pers.now) (elements_in (drop l.k l.pers)))
    (sunk g.O.Sink.told g.O.Sink.calls g.O.Sink.faults l.initial.out l.out)
