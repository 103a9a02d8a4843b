use Rattle.std.specs.Prelude.{All}
use Rattle.state_text.specs.StateLines.{tasks_lines}
use Rattle.state_lines.specs.Sources.{sources_in}
use Rattle.cell_loading.specs.Loaded.{IsWithin, bytes_of}
use Rattle.sink_lines.specs.Printed.{sunk}
use Rattle.run_lines.proofs.Printing.{Printing}
use Rattle.state_lines.proofs.PrintingState.{tasks_from, trees_in}
use Rattle.state_lines.proofs.state.print_each.Given as goal

abbrev pub invariant-loop-k : goal.invariant-loop-k
invariant-loop-k g l = record {
  printing :
      Printing (tasks_lines l.names.tasks.now (trees_in l.trees) (sources_in l.tasks (bytes_of l.texts)) l.states) (tasks_from l.names.tasks.now l.trees l.tasks l.rest l.states l.k)
      (sunk g.O.Sink.told g.O.Sink.calls g.O.Sink.faults l.initial.out l.out);
  within : All IsWithin l.rest;
}
