-- A cell is within limits if its script is.
use Rattle.std.proofs.Common.{◌≡◌, ℕ, true, List, [], ◌∷◌, length, map, refl, ap, ◌∙◌}
use Rattle.std.specs.List.{list_all}
use Rattle.std.proofs.lemmas.Bool.{and_parts, and_from}
use Rattle.std.proofs.lemmas.List.{length-map}
use Rattle.rapid_model.specs.declared.script_task.ScriptTask.{ScriptTask}
use Rattle.rapid_model.specs.declared.signal_row.SignalRow.{SignalRow}
use Rattle.rapid_model.specs.declared.task_row.TaskRow.{TaskRow}
use Rattle.rapid_model.specs.CellData.{CellData, IsCell, starts_well, is_pers_cell}
use Rattle.rapid_model.specs.Limits.{is_start, is_signal, is_zone, is_input}
use Rattle.rapid_model.specs.Names.{is_short_name, differ}
use Rattle.rapid_model.specs.ScriptData.{ScriptData, IsScript, is_task, row_of}
use Rattle.rapid_model.proofs.Scripts.{few_tasks, task_named, task_starts}

starts : (version : ℕ) (tasks : List ScriptTask) → list_all (is_task version) tasks ≡ true → list_all starts_well (map row_of tasks) ≡ true
starts version [] e = refl
starts version (task ∷ tasks) e =
    let (here, more) = and_parts (is_task version task) (list_all (is_task version) tasks) e in
    and_from (starts_well (row_of task)) (list_all starts_well (map row_of tasks))
    (and_from (is_short_name task.name) (is_start task.axes task.arm) (task_named version task here) (task_starts version task here)) (starts version tasks more)

-- what a row says about its task
same_parts : {A : Type 0} (part : TaskRow → A) (tasks : List ScriptTask) → map part (map row_of tasks) ≡ map (λ task. part (row_of task)) tasks
same_parts part [] = refl
same_parts part (task ∷ tasks) = ap (λ parts. part (row_of task) ∷ parts) (same_parts part tasks)

pub IsCell-from : (script : ScriptData) (cell : CellData) → IsScript script → cell.steps ≡ script.steps → cell.tasks ≡ map row_of script.tasks → cell.signals ≡ script.signals
    → list_all (is_pers_cell (length script.tasks)) cell.pers ≡ true → cell.zones ≡ script.zones → cell.inputs ≡ script.inputs → IsCell cell
IsCell-from script cell is steps tasks signals fit zones inputs =
    let count : length cell.tasks ≡ length script.tasks = ap length tasks ∙ length-map script.tasks row_of in
    record {
      some_steps = rw steps is.some_steps;
      few_steps = rw steps is.few_steps;
      some_tasks = rw count is.some_tasks;
      few_tasks = rw count (few_tasks script is);
      starts = ap (list_all starts_well) tasks ∙ starts script.version script.tasks is.tasks;
      task_names = ap (λ (ts : List TaskRow). differ (map (λ row. row.name) ts)) tasks ∙ ap differ (same_parts (λ row. row.name) script.tasks) ∙ is.task_names;
      few_signals = rw signals is.few_signals;
      signals = ap (list_all is_signal) signals ∙ is.signals;
      signal_names = ap (λ (ss : List SignalRow). differ (map (λ row. row.name) ss)) signals ∙ is.signal_names;
      pers = ap (λ n. list_all (is_pers_cell n) cell.pers) count ∙ fit;
      few_zones = rw zones is.few_zones;
      zones =
          ap (λ zs. list_all (is_zone cell.signals (map (λ row. row.axes) cell.tasks)) zs) zones
          ∙ ap (λ ss. list_all (is_zone ss (map (λ row. row.axes) cell.tasks)) script.zones) signals
          ∙ ap (λ arms. list_all (is_zone script.signals arms) script.zones) (ap (map (λ row. row.axes)) tasks ∙ same_parts (λ row. row.axes) script.tasks)
          ∙ is.zones;
      few_inputs = rw inputs is.few_inputs;
      inputs =
          ap (λ steps. list_all (is_input cell.signals (length cell.tasks)) steps) inputs
          ∙ ap (λ ss. list_all (is_input ss (length cell.tasks)) script.inputs) signals
          ∙ ap (λ n. list_all (is_input script.signals n) script.inputs) count
          ∙ is.inputs;
    }
