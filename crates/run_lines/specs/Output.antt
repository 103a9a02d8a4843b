-- What is printed of a run.
use Rattle.std.specs.Prelude.{ℕ, true, false, List, [], ◌∷◌, ◌++◌, length, count_by, Option, Some, None, codes, decimal, if◌then◌else◌}
use Rattle.std.specs.List.{concat}
use Rattle.rapid_model.specs.CellData.{CellData}
use Rattle.rapid_model.specs.Paths.{has_path}
use Rattle.rapid_model.specs.Requests.{of_pers}
use Rattle.rapid_model.specs.declared.event.Event.{Event}
use Rattle.rapid_model.specs.declared.fate.Fate.{Fate}
use Rattle.rapid_model.specs.declared.part_name.PartName.TheVariants.{Whole}
use Rattle.rapid_model.specs.declared.path.Path.{Path}
use Rattle.rapid_model.specs.declared.value.Value.{Value}
use Rattle.value_text.specs.ValueText.{value_text}
use Rattle.cell_meaning.specs.Motion.{is_given}
use Rattle.cell_meaning.specs.Stored.{persistent_after, value_at}
use Rattle.history_text.specs.HistoryText.{history_lines}
use Rattle.history_text.specs.Lines.{fate_lines, lines_of as short_lines}
use Rattle.history_text.specs.Named.{NamesData}
use Rattle.run_lines.specs.declared.shown.Shown.{Shown}
use Rattle.run_lines.specs.declared.shown.Shown.TheVariants as shows

-- how many setpoints the arms were given
abbrev pub all_given : List Event → ℕ
all_given history = count_by (λ e. is_given e.request e.answer) history

-- the whole of a persistent that is not an array
abbrev pub whole_path : Path
whole_path = record { index = 0; part = Whole }

-- the last value of the first persistent, if there is one and it is not an array
abbrev pub last_total : CellData → List Event → Option Value
last_total cell history = if of_pers cell 0 (λ row. has_path row whole_path) then value_at (persistent_after cell history 0) whole_path else None

abbrev pub total_words : Option Value → List ℕ
total_words None = []
total_words (Some value) = value_text value

-- L, the name of a number, and the number
abbrev pub summary_line : List ℕ → List ℕ → List ℕ
summary_line name number = codes "L " ++ (name ++ (32 ∷ number ++ codes "\n"))

-- the number of events of a run, the number of setpoints given, and the last value of its persistent
abbrev pub summary_lines : CellData → List Event → List (List ℕ)
summary_lines cell history =
    summary_line (codes "events") (decimal (length history))
    ∷ summary_line (codes "setpoints") (decimal (all_given history))
    ∷ summary_line (codes "total") (total_words (last_total cell history))
    ∷ []

-- the names of a cell's tasks, signals and persistents
abbrev pub names_in : CellData → NamesData
names_in cell = record { tasks = cell.tasks; signals = cell.signals; pers = cell.pers }

-- The lines of a run. If full, each event has one; otherwise each setpoint and each text has one, and any other event's
-- is empty. Or its summary. Then those of the tasks in script order.
abbrev pub lines_of : Shown → CellData → List Event → List Fate → List (List ℕ)
lines_of (shows.Events true) cell history fates = history_lines (names_in cell) history fates
lines_of (shows.Events false) cell history fates = short_lines cell history fates
lines_of shows.Summary cell history fates = summary_lines cell history ++ fate_lines cell.tasks fates

-- the same as bytes
abbrev pub output_of : Shown → CellData → List Event → List Fate → List ℕ
output_of shown cell history fates = concat (lines_of shown cell history fates)
