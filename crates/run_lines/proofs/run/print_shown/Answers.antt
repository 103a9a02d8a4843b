use Rattle.std.proofs.Common.{sym, subst}
use Rattle.run_lines.specs.EventsShown.{event_lines}
use Rattle.sink_lines.specs.Printed.{sunk}
use Rattle.sink_lines.specs.Written.{Writes}
use Rattle.run_lines.specs.declared.shown.Shown.{Shown}
use Rattle.run_lines.proofs.run.print_shown.Goals as goal

pub returns-in-Events : goal.returns-in-Events
returns-in-Events g c =
    subst (λ (s : Shown). Writes (event_lines s c.args.core.now.cell c.args.core.now.history) c.print_events.result
    (sunk g.O.Sink.told g.O.Sink.calls g.O.Sink.faults c.args.out.now c.print_events.new.out)) (sym c.in-Events.is) c.print_events.ensures

pub returns-in-Summary : goal.returns-in-Summary
returns-in-Summary g c =
    subst (λ (s : Shown). Writes (event_lines s c.args.core.now.cell c.args.core.now.history) c.print_summary.result
    (sunk g.O.Sink.told g.O.Sink.calls g.O.Sink.faults c.args.out.now c.print_summary.new.out)) (sym c.in-Summary.is) c.print_summary.ensures
