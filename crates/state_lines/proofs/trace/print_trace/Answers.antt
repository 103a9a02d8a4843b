use Rattle.std.proofs.Common.{length}
use Rattle.std.proofs.lemmas.Result.{err_from_is_err_and}
use Rattle.cell_meaning.specs.Fates.{fates_after}
use Rattle.history_text.specs.Lines.{fate_lines}
use Rattle.state_text.specs.TraceLines.{trace_lines}
use Rattle.state_lines.specs.Sources.{view_modules}
use Rattle.sink_lines.proofs.Gains.{writes_then, wrote_first}
use Rattle.state_lines.proofs.trace.print_trace.Goals as goal

pub returns : goal.returns
returns g c = λ trees coded checked.
    let cell = c.args.core.now.cell in
    let history = c.args.core.now.history in
    writes_then (trace_lines cell.tasks trees (view_modules c.args.modules.now) history) (fate_lines cell.tasks (fates_after cell history (length cell.tasks))) _ _ _ _ (c.in_ok-print_events.ensures trees coded checked)
    c.print_fates.ensures

pub returns-in_err-print_events : goal.returns-in_err-print_events
returns-in_err-print_events g c = λ trees coded checked.
    let p = err_from_is_err_and c.from_residual.result c.from_residual.ensures.1 in
    let cell = c.args.core.now.cell in
    let history = c.args.core.now.history in
    rw (p.1) (wrote_first (trace_lines cell.tasks trees (view_modules c.args.modules.now) history) (fate_lines cell.tasks (fates_after cell history (length cell.tasks))) _ (c.in_err-print_events.ensures trees coded checked))
