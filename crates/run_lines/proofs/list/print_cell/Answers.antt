use Rattle.std.proofs.Common.{◌∙◌, ◌++◌}
use Rattle.std.proofs.lemmas.Result.{err_from_is_err_and}
use Rattle.cell_listing.specs.Listing.{cell_lines, meeting_line, numbered, pers_line, signal_line}
use Rattle.sink_lines.proofs.Gains.{writes_then, wrote_first, wrote_part}
use Rattle.run_lines.proofs.PrintingList.{part_same, tables_are, writes_same}
use Rattle.run_lines.proofs.list.print_cell.Goals as goal

pub returns-in_err-print_persistents : goal.returns-in_err-print_persistents
returns-in_err-print_persistents g c =
    let p = err_from_is_err_and c.from_residual.result c.from_residual.ensures.1 in
    let tasks = c.as_slice-tasks.result.now in
    let pers = c.as_slice-pers.result.now in
    let signals = c.as_slice-signals.result.now in
    let meetings = c.as_slice-meetings.result.now in
    rw (p.1) (part_same (numbered (pers_line tasks) 0 pers ++ (numbered signal_line 0 signals ++ numbered meeting_line 0 meetings)) (cell_lines c.args.cell.now) _
    (tables_are c.args.cell.now tasks pers signals meetings (c.as_slice-tasks.ensures ∙ c.tasks.ensures) (c.as_slice-pers.ensures ∙ c.pers.ensures) (c.as_slice-signals.ensures ∙ c.signals.ensures) (c.as_slice-meetings.ensures ∙ c.meetings.ensures))
    (wrote_first (numbered (pers_line tasks) 0 pers) (numbered signal_line 0 signals ++ numbered meeting_line 0 meetings) _ c.in_err-print_persistents.ensures))

pub returns-in_err-print_signals : goal.returns-in_err-print_signals
returns-in_err-print_signals g c =
    let p = err_from_is_err_and c.from_residual-in_err-print_signals.result c.from_residual-in_err-print_signals.ensures.1 in
    let tasks = c.as_slice-tasks.result.now in
    let pers = c.as_slice-pers.result.now in
    let signals = c.as_slice-signals.result.now in
    let meetings = c.as_slice-meetings.result.now in
    rw (p.1) (part_same (numbered (pers_line tasks) 0 pers ++ (numbered signal_line 0 signals ++ numbered meeting_line 0 meetings)) (cell_lines c.args.cell.now) _
    (tables_are c.args.cell.now tasks pers signals meetings (c.as_slice-tasks.ensures ∙ c.tasks.ensures) (c.as_slice-pers.ensures ∙ c.pers.ensures) (c.as_slice-signals.ensures ∙ c.signals.ensures) (c.as_slice-meetings.ensures ∙ c.meetings.ensures))
    (wrote_part (numbered (pers_line tasks) 0 pers) (numbered signal_line 0 signals ++ numbered meeting_line 0 meetings) _ _ _ c.in_ok-print_persistents.ensures
    (wrote_first (numbered signal_line 0 signals) (numbered meeting_line 0 meetings) _ c.in_err-print_signals.ensures)))

pub returns : goal.returns
returns g c =
    let tasks = c.as_slice-tasks.result.now in
    let pers = c.as_slice-pers.result.now in
    let signals = c.as_slice-signals.result.now in
    let meetings = c.as_slice-meetings.result.now in
    writes_same (numbered (pers_line tasks) 0 pers ++ (numbered signal_line 0 signals ++ numbered meeting_line 0 meetings)) (cell_lines c.args.cell.now) _ _
    (tables_are c.args.cell.now tasks pers signals meetings (c.as_slice-tasks.ensures ∙ c.tasks.ensures) (c.as_slice-pers.ensures ∙ c.pers.ensures) (c.as_slice-signals.ensures ∙ c.signals.ensures) (c.as_slice-meetings.ensures ∙ c.meetings.ensures))
    (writes_then (numbered (pers_line tasks) 0 pers) (numbered signal_line 0 signals ++ numbered meeting_line 0 meetings) _ _ _ _ c.in_ok-print_persistents.ensures
    (writes_then (numbered signal_line 0 signals) (numbered meeting_line 0 meetings) _ _ _ _ c.in_ok-print_signals.ensures c.print_meetings.ensures))
