use Rattle.std.proofs.Common.{◌≡◌, ◌++◌, ℕ, List, true, false, length, refl, subst}
use Rattle.std.proofs.lemmas.Result.{err_from_is_err_and}
use Rattle.rapid_model.specs.CellData.{CellData}
use Rattle.rapid_model.specs.declared.event.Event.{Event}
use Rattle.rapid_model.specs.declared.fate.Fate.{Fate}
use Rattle.cell_meaning.specs.Fates.{fates_after}
use Rattle.history_text.specs.Lines.{fate_lines}
use Rattle.run_lines.specs.Output.{lines_of}
use Rattle.run_lines.specs.EventsShown.{event_lines}
use Rattle.sink_lines.specs.Printed.{sunk}
use Rattle.sink_lines.specs.Written.{Writes, WritesPart}
use Rattle.run_lines.specs.declared.shown.Shown.{Shown}
use Rattle.run_lines.specs.declared.shown.Shown.TheVariants as shows
use Rattle.sink_lines.proofs.Gains.{writes_then, wrote_first}
use Rattle.run_lines.proofs.run.print_run.Goals as goal

-- first those of the events, then those of the tasks
in_two : (shown : Shown) (cell : CellData) (history : List Event) (fates : List Fate) → event_lines shown cell history ++ fate_lines cell.tasks fates ≡ lines_of shown cell history fates
in_two (shows.Events true) cell history fates = refl
in_two (shows.Events false) cell history fates = refl
in_two shows.Summary cell history fates = refl

pub returns : goal.returns
returns g c =
    let cell = c.args.core.now.cell in
    let history = c.args.core.now.history in
    let fates = fates_after cell history (length cell.tasks) in
    subst (λ (lines : List (List ℕ)). Writes lines c.print_fates.result (sunk g.O.Sink.told g.O.Sink.calls g.O.Sink.faults c.args.out.now c.print_fates.new.out)) (in_two c.args.shown cell history fates)
    (writes_then (event_lines c.args.shown cell history) (fate_lines cell.tasks fates) _ _ _ _ c.in_ok-print_shown.ensures c.print_fates.ensures)

pub returns-in_err-print_shown : goal.returns-in_err-print_shown
returns-in_err-print_shown g c =
    let p = err_from_is_err_and c.from_residual.result c.from_residual.ensures.1 in
    let cell = c.args.core.now.cell in
    let history = c.args.core.now.history in
    let fates = fates_after cell history (length cell.tasks) in
    rw (p.1) (subst (λ (lines : List (List ℕ)). WritesPart lines (sunk g.O.Sink.told g.O.Sink.calls g.O.Sink.faults c.args.out.now c.print_shown.new.out)) (in_two c.args.shown cell history fates)
    (wrote_first (event_lines c.args.shown cell history) (fate_lines cell.tasks fates) _ c.in_err-print_shown.ensures))
