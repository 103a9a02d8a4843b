use Rattle.std.proofs.Common.{arith, ◌<◌, length}
use Rattle.std.proofs.lemmas.Result.{err_from_is_err_and}
use Rattle.run_lines.specs.EventsShown.{shown_line}
use Rattle.run_lines.proofs.Printing.{event_printed, event_failed}
use Rattle.run_lines.proofs.run.print_events.Goals as goal

pub loop-k-preserved : goal.loop-k-preserved
loop-k-preserved g c =
    let lt : c.loop-k.k < length c.args.core.now.history = omega arith in
    event_printed (shown_line c.args.full c.args.core.now.cell.tasks) c.args.core.now.history c.loop-k.k _ _ _ _ lt (λ e at. c.in_ok-print_event.ensures e at) c.loop-k.invariant

pub returns-in_err-print_event : goal.returns-in_err-print_event
returns-in_err-print_event g c =
    let p = err_from_is_err_and c.from_residual.result c.from_residual.ensures.1 in
    let lt : c.loop-k.k < length c.args.core.now.history = omega arith in
    rw (p.1) (event_failed (shown_line c.args.full c.args.core.now.cell.tasks) c.args.core.now.history c.loop-k.k _ _ _ _ lt (λ e at. c.in_err-print_event.ensures e at) c.loop-k.invariant)
