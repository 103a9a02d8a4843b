use Rattle.std.proofs.Common.{ℕ, List, [], ◌∷◌, sym, subst}
use Rattle.std.proofs.lemmas.Bool.{false≢true}
use Rattle.sink_lines.specs.Printed.{sunk}
use Rattle.sink_lines.specs.Written.{Writes}
use Rattle.run_lines.proofs.Printing.{given_line, line_skipped, unlined, without_line}
use Rattle.run_lines.proofs.run.print_event.Goals as goal

pub returns-then-not-is_lined : goal.returns-then-not-is_lined
returns-then-not-is_lined g c = λ e at.
    line_skipped c.args.full c.args.core.now.cell.tasks e _ c.if-not-full.true (unlined c.args.core.now.cell.tasks e (sym (c.if-not-is_lined.ensures e at)))

pub returns-in-Some : goal.returns-in-Some
returns-in-Some g c = λ e at.
    subst (λ (line : List ℕ). Writes (line ∷ []) c.print_setpoint.result (sunk g.O.Sink.told g.O.Sink.calls g.O.Sink.faults c.args.out.now c.print_setpoint.new.out))
    (given_line c.args.full c.args.core.now.cell.tasks e c.in-Some.actor c.in-Some.to c.if-not-full.true (c.in-Some.ensures e at))
    c.print_setpoint.ensures

pub returns-then-not-has_line : goal.returns-then-not-has_line
returns-then-not-has_line g c = λ e at.
    line_skipped c.args.full c.args.core.now.cell.tasks e _ c.if-not-full-2.true
    (without_line c.args.core.now.cell.tasks c.args.core.now.history c.args.k c.event-event.result e c.event-event.ensures at
    (λ some. false≢true ((c.if-not-has_line.ensures c.args.core.now.cell.tasks).1 some)))
