-- A script that is read is within its limits.
use Rattle.std.proofs.Common.{◌≡◌, ℕ, ◌≤◌, Bool, true, false, nat_le, List, [], length, map, codes, Option, Ok, Err, ◌==◌, if◌then◌else◌, refl, arith}
use Rattle.std.proofs.lemmas.Bool.{and_parts, leb-true}
use Rattle.rapid_limits.specs.declared.TheConstants.{DEFAULT_STEPS, NEWEST_VERSION}
use Rattle.toml.specs.Data.{Data}
use Rattle.rapid_model.specs.Limits.{is_within, is_signal, is_zone, is_input}
use Rattle.rapid_model.specs.Names.{differ}
use Rattle.rapid_model.specs.ScriptData.{IsScript, is_task, is_pers_value, most_tasks}
use Rattle.rapid_model.specs.declared.input_row.InputRow.{InputRow}
use Rattle.rapid_model.specs.declared.pers_value.PersValue.{PersValue}
use Rattle.rapid_model.specs.declared.script_task.ScriptTask.{ScriptTask}
use Rattle.rapid_model.specs.declared.signal_row.SignalRow.{SignalRow}
use Rattle.rapid_model.specs.declared.zone_row.ZoneRow.{ZoneRow}
use Rattle.cell_script.specs.Break.{Read}
use Rattle.cell_script.specs.Keys.{Keys, at, value_of, needed, optional, whole_at, rows_at, each_row}
use Rattle.cell_script.specs.Parts.{rows_in, needed_rows, needed_whole}
use Rattle.cell_script.specs.Rows.{signal_of, task_of, pers_of, zone_of, input_of}
use Rattle.rule_checks.proofs.Keeps.{Keeps, Keeps-any, Keeps-grouped, kept}
use Rattle.cell_script.proofs.Keeps.{Keeps-optional}
use Rattle.cell_script.proofs.KeepsNames.{IsNew}
use Rattle.cell_script.proofs.KeepsRows.{IsAt, SoMany, rows_keep, rows_differ}
use Rattle.cell_script.proofs.Limits.{whole_keeps, signal_keeps, task_keeps, pers_keeps}
use Rattle.cell_script.proofs.LimitsZone.{zone_keeps}
use Rattle.cell_script.proofs.LimitsInput.{input_keeps}

-- two facts, one after the other
first_kept : {A : Type 0} (P Q : A → Type 0) (read : Read A) → Keeps (λ x. P x × Q x) read → Keeps P read
first_kept P Q (Ok x) both = both.0
first_kept P Q (Err b) both = tt

second_kept : {A : Type 0} (P Q : A → Type 0) (read : Read A) → Keeps (λ x. P x × Q x) read → Keeps Q read
second_kept P Q (Ok x) both = both.1
second_kept P Q (Err b) both = tt

-- the rows of an optional array
optional_rows : {A : Type 0} (test : A → Bool) (key : List ℕ) (high : ℕ) (read : List A → Data → Read A) (o : Option Data) → ((b : List A) (e : Data) → Keeps (IsAt test) (read b e))
    → Keeps (SoMany test 0 high) (optional [] (rows_in key 0 high read) o)
optional_rows test key high read o row =
    Keeps-optional (SoMany test 0 high) [] (rows_in key 0 high read) o (record { each = refl; at_least = omega arith; at_most = omega arith }) (λ d. rows_keep test key 0 high read d row)

signal_is : (b : List SignalRow) (e : Data) → Keeps (IsAt is_signal) (signal_of b e)
signal_is b e = first_kept (IsAt is_signal) (λ row. IsNew (map (λ row. row.name) b) row.name) (signal_of b e) (signal_keeps b e)

signal_is_new : (b : List SignalRow) (e : Data) → Keeps (λ row. IsNew (map (λ row. row.name) b) row.name) (signal_of b e)
signal_is_new b e = second_kept (IsAt is_signal) (λ row. IsNew (map (λ row. row.name) b) row.name) (signal_of b e) (signal_keeps b e)

task_is : (version : ℕ) (b : List ScriptTask) (e : Data) → Keeps (IsAt (is_task version)) (task_of version b e)
task_is version b e = first_kept (IsAt (is_task version)) (λ task. IsNew (map (λ task. task.name) b) task.name) (task_of version b e) (task_keeps version b e)

task_is_new : (version : ℕ) (b : List ScriptTask) (e : Data) → Keeps (λ task. IsNew (map (λ task. task.name) b) task.name) (task_of version b e)
task_is_new version b e = second_kept (IsAt (is_task version)) (λ task. IsNew (map (λ task. task.name) b) task.name) (task_of version b e) (task_keeps version b e)

pub signals_are : (key : List ℕ) (o : Option Data) (signals : List SignalRow) → optional [] (rows_in key 0 256 signal_of) o ≡ Ok signals → SoMany is_signal 0 256 signals
signals_are key o signals e = kept (SoMany is_signal 0 256) _ signals (optional_rows is_signal key 256 signal_of o signal_is) e

signals_differ : (key : List ℕ) (o : Option Data) (signals : List SignalRow) → optional [] (rows_in key 0 256 signal_of) o ≡ Ok signals → differ (map (λ row. row.name) signals) ≡ true
signals_differ key o signals e =
    let Q : List SignalRow → Type 0 = λ rows. differ (map (λ row. row.name) rows) ≡ true in
    kept Q _ signals (Keeps-optional Q [] (rows_in key 0 256 signal_of) o refl (λ d. rows_differ (λ row. row.name) key 0 256 signal_of d signal_is_new)) e

pub tasks_are : (version : ℕ) (keys : Keys) (tasks : List ScriptTask) → needed_rows keys (codes "task") 1 (most_tasks version) (task_of version) ≡ Ok tasks → SoMany (is_task version) 1 (most_tasks version) tasks
tasks_are version keys tasks e =
    let most : ℕ = most_tasks version in
    let Q : List ScriptTask → Type 0 = SoMany (is_task version) 1 most in
    let key : List ℕ = at keys (codes "task") in
    kept Q (needed_rows keys (codes "task") 1 most (task_of version)) tasks (Keeps-grouped Q (needed keys (codes "task")) (rows_at key 1 most) (each_row (task_of version) [])
    (Keeps-any Q (needed keys (codes "task")) (rows_in key 1 most (task_of version)) (λ d. rows_keep (is_task version) key 1 most (task_of version) d (task_is version)))) e

-- no version takes more than sixteen
few : (b : Bool) → (if b then 8 else 16) ≤ 16
few true = omega arith
few false = omega arith

pub few_tasks : (version : ℕ) (keys : Keys) (tasks : List ScriptTask) → needed_rows keys (codes "task") 1 (most_tasks version) (task_of version) ≡ Ok tasks → length tasks ≤ 16
few_tasks version keys tasks e =
    let most : length tasks ≤ most_tasks version = (tasks_are version keys tasks e).at_most in
    omega (arith, most, few (version == 1))

tasks_differ : (version : ℕ) (keys : Keys) (tasks : List ScriptTask) → needed_rows keys (codes "task") 1 (most_tasks version) (task_of version) ≡ Ok tasks → differ (map (λ task. task.name) tasks) ≡ true
tasks_differ version keys tasks e =
    let most : ℕ = most_tasks version in
    let Q : List ScriptTask → Type 0 = λ rows. differ (map (λ task. task.name) rows) ≡ true in
    let key : List ℕ = at keys (codes "task") in
    kept Q (needed_rows keys (codes "task") 1 most (task_of version)) tasks (Keeps-grouped Q (needed keys (codes "task")) (rows_at key 1 most) (each_row (task_of version) [])
    (Keeps-any Q (needed keys (codes "task")) (rows_in key 1 most (task_of version)) (λ d. rows_differ (λ task. task.name) key 1 most (task_of version) d (task_is_new version)))) e

pub IsScript-from : (keys : Keys) (version steps : ℕ) (signals : List SignalRow) (tasks : List ScriptTask) (pers : List PersValue) (zones : List ZoneRow) (inputs : List InputRow)
    → needed_whole keys (codes "version") 1 NEWEST_VERSION ≡ Ok version
    → optional DEFAULT_STEPS (whole_at (at keys (codes "steps")) 1 1_000_000) (value_of keys (codes "steps")) ≡ Ok steps
    → optional [] (rows_in (at keys (codes "signal")) 0 256 signal_of) (value_of keys (codes "signal")) ≡ Ok signals
    → needed_rows keys (codes "task") 1 (most_tasks version) (task_of version) ≡ Ok tasks
    → optional [] (rows_in (at keys (codes "pers")) 0 1_000 pers_of) (value_of keys (codes "pers")) ≡ Ok pers
    → optional [] (rows_in (at keys (codes "zone")) 0 16 (zone_of signals tasks)) (value_of keys (codes "zone")) ≡ Ok zones
    → optional [] (rows_in (at keys (codes "input")) 0 10_000 (input_of signals tasks)) (value_of keys (codes "input")) ≡ Ok inputs
    → IsScript (record { version = version; steps = steps; signals = signals; tasks = tasks; pers = pers; zones = zones; inputs = inputs })
IsScript-from keys version steps signals tasks pers zones inputs s0 s1 s2 s3 s4 s5 s6 =
    let one_or_two = kept (λ n. is_within 1 NEWEST_VERSION n ≡ true) _ version (Keeps-any (λ n. is_within 1 NEWEST_VERSION n ≡ true) (needed keys (codes "version")) _ (λ d. whole_keeps (at keys (codes "version")) 1 NEWEST_VERSION d)) s0 in
    let S : ℕ → Type 0 = λ n. is_within 1 1_000_000 n ≡ true in
    let within = kept S _ steps (Keeps-optional S DEFAULT_STEPS (whole_at (at keys (codes "steps")) 1 1_000_000) (value_of keys (codes "steps")) refl (λ d. whole_keeps (at keys (codes "steps")) 1 1_000_000 d)) s1 in
    let parts = and_parts (nat_le 1 steps) (nat_le steps 1_000_000) within in
    let are_signals = signals_are (at keys (codes "signal")) (value_of keys (codes "signal")) signals s2 in
    let are_tasks = tasks_are version keys tasks s3 in
    let are_pers = kept (SoMany is_pers_value 0 1_000) _ pers (optional_rows is_pers_value (at keys (codes "pers")) 1_000 pers_of (value_of keys (codes "pers")) pers_keeps) s4 in
    let arms = map (λ task. task.axes) tasks in
    let are_zones = kept (SoMany (is_zone signals arms) 0 16) _ zones (optional_rows (is_zone signals arms) (at keys (codes "zone")) 16 (zone_of signals tasks) (value_of keys (codes "zone")) (zone_keeps version signals tasks are_tasks.each)) s5 in
    let are_inputs = kept (SoMany (is_input signals (length tasks)) 0 10_000) _ inputs (optional_rows (is_input signals (length tasks)) (at keys (codes "input")) 10_000 (input_of signals tasks) (value_of keys (codes "input")) (input_keeps signals tasks)) s6 in
    record {
      version = one_or_two;
      some_steps = leb-true 1 steps parts.0;
      few_steps = leb-true steps 1_000_000 parts.1;
      few_signals = are_signals.at_most;
      signals = are_signals.each;
      signal_names = signals_differ (at keys (codes "signal")) (value_of keys (codes "signal")) signals s2;
      some_tasks = are_tasks.at_least;
      few_tasks = are_tasks.at_most;
      tasks = are_tasks.each;
      task_names = tasks_differ version keys tasks s3;
      few_pers = are_pers.at_most;
      pers = are_pers.each;
      few_zones = are_zones.at_most;
      zones = are_zones.each;
      few_inputs = are_inputs.at_most;
      inputs = are_inputs.each;
    }
