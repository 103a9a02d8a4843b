-- The lines of a run without those of its tasks, as they are written.
use Rattle.std.specs.Prelude.{ℕ, Bool, List, map, if◌then◌else◌}
use Rattle.rapid_model.specs.CellData.{CellData}
use Rattle.rapid_model.specs.declared.event.Event.{Event}
use Rattle.rapid_model.specs.declared.task_row.TaskRow.{TaskRow}
use Rattle.history_text.specs.EventLines.{event_line}
use Rattle.history_text.specs.Lines.{line_of}
use Rattle.run_lines.specs.declared.shown.Shown.{Shown}
use Rattle.run_lines.specs.declared.shown.Shown.TheVariants as shows
use Rattle.run_lines.specs.Output.{summary_lines}

-- the line of an event: if full, the one that each event has, else that of a setpoint or a text, or nothing
abbrev pub shown_line : Bool → List TaskRow → Event → List ℕ
shown_line full tasks e = if full then event_line tasks e else line_of tasks e

abbrev pub event_lines : Shown → CellData → List Event → List (List ℕ)
event_lines (shows.Events full) cell history = map (shown_line full cell.tasks) history
event_lines shows.Summary cell history = summary_lines cell history
