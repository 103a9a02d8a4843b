-- The tasks of a cell of a script have names, and no two have the same one.
use Rattle.std.proofs.Common.{◌≡◌, ℕ, List, [], ◌∷◌, codes, map, Option, Some, None, Result, Ok, Err, refl, sym, subst}
use Rattle.rapid_limits.specs.declared.TheConstants.{DEFAULT_STEPS, MOST_CELL_ZONES, MOST_INPUTS, MOST_PERS_VALUES, MOST_SIGNALS, MOST_STEPS, NEWEST_VERSION}
use Rattle.toml.specs.Data.{Members}
use Rattle.rapid_model.specs.CellData.{CellData}
use Rattle.rapid_model.specs.ScriptData.{IsScript, ScriptData, most_tasks, row_of}
use Rattle.rapid_model.specs.declared.input_row.InputRow.{InputRow}
use Rattle.rapid_model.specs.declared.pers_value.PersValue.{PersValue}
use Rattle.rapid_model.specs.declared.script_task.ScriptTask.{ScriptTask}
use Rattle.rapid_model.specs.declared.signal_row.SignalRow.{SignalRow}
use Rattle.rapid_model.specs.declared.task_row.TaskRow.{TaskRow}
use Rattle.rapid_model.specs.declared.zone_row.ZoneRow.{ZoneRow}
use Rattle.typed_trees.specs.Plain.{TypedTree}
use Rattle.rule_checks.specs.Checks.{◌>>=◌}
use Rattle.rule_checks.proofs.Keeps.{kept}
use Rattle.rule_checks.proofs.Steps.{behind}
use Rattle.cell_script.specs.Break.{Read}
use Rattle.cell_script.specs.Keys.{Keys, needed, only_keys, optional, value_of, whole_at, rows_at, each_row}
use Rattle.cell_script.specs.Rows.{signal_of, task_of, pers_of, zone_of, input_of}
use Rattle.cell_script.specs.ScriptOf.{ScriptOf, script_of, script_of_keys}
use Rattle.cell_script.proofs.Keeps.{Keeps-only}
use Rattle.cell_script.proofs.LimitsScript.{IsScript-from}
use Rattle.cell_assembly.specs.Made.{MadeCell, make_cell}
use Rattle.cell_assembly.proofs.CellLimits.{IsCell-from}
use Rattle.accepted_cells.proofs.Cells.{tasks_are}
use Rattle.history_text.specs.HistoryText.{AreNamed}
use Rattle.history_text.proofs.NamesApart.{cell_is_named}
use Rattle.cell_loading.specs.declared.refused.Refused.{Refused}
use Rattle.cell_loading.specs.ReadModules.{ReadModule, typed_tasks, checked}
use Rattle.controller.proofs.Accepting.{made_of_trees}
use Rattle.cell_loading.proofs.TreesInTurn.{cell_from}

-- a script that a table spells is within the limits of every script

abbrev all_keys : List (List ℕ)
all_keys = codes "version" ∷ codes "steps" ∷ codes "signal" ∷ codes "task" ∷ codes "pers" ∷ codes "zone" ∷ codes "input" ∷ []

only_known : (keys : Keys) (known : List (List ℕ)) (read script : ScriptData) → only_keys keys known (let r : Read ScriptData = Ok read in r) ≡ Ok script → read ≡ script
only_known keys known read script e = kept (λ (s : ScriptData). read ≡ s) (only_keys keys known (Ok read)) script (Keeps-only (λ (s : ScriptData). read ≡ s) keys known (Ok read) refl) e

within_limits : (members : Members) (script : ScriptData) → script_of members ≡ Ok script → IsScript script
unfolding script_of_keys
within_limits members script e =
    behind P script (needed keys (codes "version") >>= whole_at (codes "version") 1 NEWEST_VERSION) _ e (λ version is_version e1.
    behind P script (optional DEFAULT_STEPS (whole_at (codes "steps") 1 MOST_STEPS) (value_of keys (codes "steps"))) _ e1 (λ steps are_steps e2.
    behind P script (optional [] (λ d. rows_at (codes "signal") 0 MOST_SIGNALS d >>= each_row signal_of []) (value_of keys (codes "signal"))) _ e2 (λ signals are_signals e3.
    behind P script (needed keys (codes "task") >>= rows_at (codes "task") 1 (most_tasks version) >>= each_row (task_of version) []) _ e3 (λ tasks are_tasks e4.
    behind P script (optional [] (λ d. rows_at (codes "pers") 0 MOST_PERS_VALUES d >>= each_row pers_of []) (value_of keys (codes "pers"))) _ e4 (λ pers are_pers e5.
    behind P script (optional [] (λ d. rows_at (codes "zone") 0 MOST_CELL_ZONES d >>= each_row (zone_of signals tasks) []) (value_of keys (codes "zone"))) _ e5 (λ zones are_zones e6.
    behind P script (optional [] (λ d. rows_at (codes "input") 0 MOST_INPUTS d >>= each_row (input_of signals tasks) []) (value_of keys (codes "input"))) _ e6 (λ inputs are_inputs e7.
    let read : ScriptData = record { version = version; steps = steps; signals = signals; tasks = tasks; pers = pers; zones = zones; inputs = inputs } in
    subst IsScript (only_known keys all_keys read script e7)
    (IsScript-from keys version steps signals tasks pers zones inputs is_version are_steps are_signals are_tasks are_pers are_zones are_inputs))))))))
  where
    keys : Keys
    keys = record { path = []; members = members }

    P : Type 0
    P = IsScript script

pub script_within : (text : List ℕ) (script : ScriptData) → ScriptOf text (Ok script) → IsScript script
script_within text script spelled = within_limits spelled.0 script spelled.2

-- the rows of its tasks are those of a cell
rows_named : (script : ScriptData) → IsScript script → AreNamed (map row_of script.tasks)
rows_named script limits = cell_is_named bare (IsCell-from script bare limits refl refl refl refl refl refl)
  where
    bare : CellData
    bare = record { steps = script.steps; tasks = map row_of script.tasks; signals = script.signals; pers = []; meetings = []; zones = script.zones; inputs = script.inputs }

-- and the tasks of the cell that is made of it
pub made_named : (script : ScriptData) (reads : List ReadModule) (made : MadeCell) → IsScript script → checked script reads ≡ Ok made → AreNamed made.cell.tasks
made_named script reads made limits is = by (typed_tasks script script.tasks reads) is
  where
    by : (found : Result (List TypedTree) Refused) → cell_from script reads found ≡ Ok made → AreNamed made.cell.tasks
    by (Ok trees) from =
        subst AreNamed (sym (tasks_are script trees made (made_of_trees script reads (make_cell script trees) made from))) (rows_named script limits)
    by (Err refused) from = cc
