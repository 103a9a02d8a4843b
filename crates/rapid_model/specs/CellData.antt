-- How contracts see a cell.
use Rattle.std.specs.Prelude.{ℕ, ◌≤◌, Bool, ◌&&◌, ◌==◌, nat_lt, IsTrue, List, map, length}
use Rattle.std.specs.List.{list_all}
use Rattle.rapid_limits.specs.declared.TheConstants.{LONGEST_ARRAY, MOST_CELL_ZONES, MOST_INPUTS, MOST_SIGNALS, MOST_STEPS, MOST_TASKS}
use Rattle.rapid_model.specs.declared.input_row.InputRow.{InputRow}
use Rattle.rapid_model.specs.declared.pers_cell.PersCell.{PersCell}
use Rattle.rapid_model.specs.declared.signal_row.SignalRow.{SignalRow}
use Rattle.rapid_model.specs.declared.task_row.TaskRow.{TaskRow}
use Rattle.rapid_model.specs.declared.zone_row.ZoneRow.{ZoneRow}
use Rattle.rapid_model.specs.Limits.{is_within, holds_where_there, is_start, is_signal, is_zone, is_input}
use Rattle.rapid_model.specs.Names.{is_short_name, differ}
use Rattle.rapid_model.specs.Sorts.{is_value_of, width}

pub record CellData : Type 0 where
  pub steps : ℕ
  pub tasks : List TaskRow
  pub signals : List SignalRow
  pub pers : List PersCell
  pub meetings : List (List ℕ)
  pub zones : List ZoneRow
  pub inputs : List InputRow

-- a task has a name, and its arm, if there is one, starts at a position
abbrev pub starts_well : TaskRow → Bool
starts_well row = is_short_name row.name && is_start row.axes row.arm

-- A persistent belongs to one of this many tasks, or to none. It has one first value of its type, or one for each
-- element of an array.
abbrev pub is_pers_cell : ℕ → PersCell → Bool
is_pers_cell tasks row =
    holds_where_there (λ task. nat_lt task tasks) row.owner && holds_where_there (is_within 1 LONGEST_ARRAY) row.len
    && length row.first == width row.len && list_all (is_value_of row.sort) row.first

-- the limits that every cell is within
pub record IsCell (cell : CellData) : Type 0 where
  pub some_steps : 1 ≤ cell.steps
  pub few_steps : cell.steps ≤ MOST_STEPS
  pub some_tasks : 1 ≤ length cell.tasks
  pub few_tasks : length cell.tasks ≤ MOST_TASKS
  pub starts : IsTrue (list_all starts_well cell.tasks)
  pub task_names : IsTrue (differ (map (λ row. row.name) cell.tasks))
  pub few_signals : length cell.signals ≤ MOST_SIGNALS
  pub signals : IsTrue (list_all is_signal cell.signals)
  pub signal_names : IsTrue (differ (map (λ row. row.name) cell.signals))
  pub pers : IsTrue (list_all (is_pers_cell (length cell.tasks)) cell.pers)
  pub few_zones : length cell.zones ≤ MOST_CELL_ZONES
  pub zones : IsTrue (list_all (is_zone cell.signals (map (λ row. row.axes) cell.tasks)) cell.zones)
  pub few_inputs : length cell.inputs ≤ MOST_INPUTS
  pub inputs : IsTrue (list_all (is_input cell.signals (length cell.tasks)) cell.inputs)
