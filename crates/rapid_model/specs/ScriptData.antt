-- How contracts see a cell script.
use Rattle.std.specs.Prelude.{ℕ, ◌≤◌, Bool, true, false, ◌&&◌, ◌||◌, ◌==◌, nat_le, nat_lt, if◌then◌else◌, IsTrue, List, [], ◌∷◌, ◌++◌, length, map}
use Rattle.std.specs.List.{list_all}
use Rattle.rapid_limits.specs.declared.TheConstants.{LONGEST_ARRAY, LONGEST_FILE_NAME, MOST_CELL_ZONES, MOST_INPUTS, MOST_MODULES, MOST_PERS_VALUES, MOST_SIGNALS, MOST_STEPS, MOST_TASKS, MOST_TASKS_AT_FIRST, NEWEST_VERSION, ROBOT_AXES}
use Rattle.rapid_model.specs.declared.input_row.InputRow.{InputRow}
use Rattle.rapid_model.specs.declared.pers_value.PersValue.{PersValue}
use Rattle.rapid_model.specs.declared.script_task.ScriptTask.{ScriptTask}
use Rattle.rapid_model.specs.declared.signal_row.SignalRow.{SignalRow}
use Rattle.rapid_model.specs.declared.task_row.TaskRow.{TaskRow}
use Rattle.rapid_model.specs.declared.value.Value.{Value}
use Rattle.rapid_model.specs.declared.value.Value.TheVariants as values
use Rattle.rapid_model.specs.declared.zone_row.ZoneRow.{ZoneRow}
use Rattle.rapid_model.specs.Limits.{is_within, holds_where_there, is_start, is_signal, is_zone, is_input}
use Rattle.rapid_model.specs.Names.{is_short_name, differ}

pub record ScriptData : Type 0 where
  pub version : ℕ
  pub steps : ℕ
  pub signals : List SignalRow
  pub tasks : List ScriptTask
  pub pers : List PersValue
  pub zones : List ZoneRow
  pub inputs : List InputRow

-- the name of a file is not empty and within the maximum length
abbrev pub is_file_name : List ℕ → Bool
is_file_name name = is_within 1 LONGEST_FILE_NAME (length name)

-- the maximum number of tasks in a script of this version
abbrev pub most_tasks : ℕ → ℕ
most_tasks version = if version == 1 then MOST_TASKS_AT_FIRST else MOST_TASKS

-- external axes require version 2 or later
abbrev pub takes_axes : ℕ → ℕ → Bool
takes_axes version axes = nat_lt 1 version || nat_le axes ROBOT_AXES

-- a task has a name and at least one module, within their limits, and its arm, if there is one, starts at a position
abbrev pub is_task : ℕ → ScriptTask → Bool
is_task version task =
    is_short_name task.name && is_within 1 MOST_MODULES (length task.modules) && list_all is_file_name task.modules
    && takes_axes version task.axes && is_start task.axes task.arm

-- a script gives only values of num, bool and string
abbrev pub is_given_value : Value → Bool
is_given_value (values.Num n) = true
is_given_value (values.Bool b) = true
is_given_value (values.Text t) = true
is_given_value (values.Rob axes) = false
is_given_value (values.Ext axes) = false
is_given_value (values.Target joints) = false
is_given_value (values.Speed parts) = false

abbrev pub is_pers_value : PersValue → Bool
is_pers_value row = is_short_name row.name && holds_where_there (is_within 1 LONGEST_ARRAY) row.index && is_given_value row.value

-- the limits that every script is within, by its version
pub record IsScript (script : ScriptData) : Type 0 where
  pub version : IsTrue (is_within 1 NEWEST_VERSION script.version)
  pub some_steps : 1 ≤ script.steps
  pub few_steps : script.steps ≤ MOST_STEPS
  pub few_signals : length script.signals ≤ MOST_SIGNALS
  pub signals : IsTrue (list_all is_signal script.signals)
  pub signal_names : IsTrue (differ (map (λ row. row.name) script.signals))
  pub some_tasks : 1 ≤ length script.tasks
  pub few_tasks : length script.tasks ≤ most_tasks script.version
  pub tasks : IsTrue (list_all (is_task script.version) script.tasks)
  pub task_names : IsTrue (differ (map (λ task. task.name) script.tasks))
  pub few_pers : length script.pers ≤ MOST_PERS_VALUES
  pub pers : IsTrue (list_all is_pers_value script.pers)
  pub few_zones : length script.zones ≤ MOST_CELL_ZONES
  pub zones : IsTrue (list_all (is_zone script.signals (map (λ task. task.axes) script.tasks)) script.zones)
  pub few_inputs : length script.inputs ≤ MOST_INPUTS
  pub inputs : IsTrue (list_all (is_input script.signals (length script.tasks)) script.inputs)

-- the cell's row for a task of the script
abbrev pub row_of : ScriptTask → TaskRow
row_of task = record { name = task.name; arm = task.arm; axes = task.axes }

-- the names of the modules, in the order in which they are read
abbrev pub module_names : List ScriptTask → List (List ℕ)
module_names [] = []
module_names (task ∷ tasks) = task.modules ++ module_names tasks
