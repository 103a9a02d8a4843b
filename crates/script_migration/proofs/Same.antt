-- A script with its version set to 2.
use Rattle.std.proofs.Common.{◌≡◌, ℕ, ◌≤◌, Bool, true, false, ◌&&◌, nat_le, List, [], ◌∷◌, ◌++◌, length, map, codes, Option, Some, None, Result, Ok, Err, is_ok, ◌==◌, if◌then◌else◌, ℤ, refl, subst, ap, ◌∙◌, arith}
use Rattle.std.specs.Prelude.{pos}
use Rattle.std.specs.Ordering.{is_eq, nat_cmp}
use Rattle.std.specs.Cmp.Lexicographic.{slice_cmp}
use Rattle.std.proofs.lemmas.Bool.{and_parts, and_from, leb-true, le-leb}
use Rattle.toml.specs.Data.{Data, integer, Members, as_array, as_integer, get_member}
use Rattle.rapid_limits.specs.declared.TheConstants.{DEFAULT_STEPS, NEWEST_VERSION}
use Rattle.rapid_num.specs.Reach.{are_in_reach}
use Rattle.rapid_model.specs.Limits.{is_within}
use Rattle.rapid_model.specs.ScriptData.{ScriptData, most_tasks, takes_axes}
use Rattle.rapid_model.specs.declared.script_rule.ScriptRule.TheVariants.{Kind, NoKey, Range}
use Rattle.rapid_model.specs.declared.input_row.InputRow.{InputRow}
use Rattle.rapid_model.specs.declared.pers_value.PersValue.{PersValue}
use Rattle.rapid_model.specs.declared.script_task.ScriptTask.{ScriptTask}
use Rattle.rapid_model.specs.declared.signal_row.SignalRow.{SignalRow}
use Rattle.rapid_model.specs.declared.zone_row.ZoneRow.{ZoneRow}
use Rattle.rule_checks.specs.Checks.{◌>>=◌, ◌>>◌, must, found_or}
use Rattle.cell_script.specs.Break.{Read, at_key}
use Rattle.cell_script.specs.Keys.{Keys, at, needed, none_unknown, optional, value_of, only_keys, first_unknown, keys_of, items_list, list_at, table_at, whole_at, rows_at, each_row}
use Rattle.cell_script.specs.Rows.{signal_of, task_name_at, files_at, is_arm, arm_of, arm_at, task_of, pers_of, zone_of, input_of}
use Rattle.cell_script.specs.ScriptOf.{script_of, script_of_keys}
use Rattle.script_migration.specs.Migrated.{with_version_2}
use Rattle.script_migration.proofs.Put.{put_elsewhere, put_here, put_known}
use Rattle.script_migration.proofs.Steps.{behind, held, joined, ok_is, wrapped}

-- version 2 takes what another version takes

arm_too : (version : ℕ) (angles : List ℤ) → is_arm version angles ≡ true → is_arm 2 angles ≡ true
arm_too version angles fit =
    let n : ℕ = length angles in
    let parts = and_parts (is_within 6 12 n && takes_axes version n) (are_in_reach 0 angles) fit in
    and_from (is_within 6 12 n && takes_axes 2 n) (are_in_reach 0 angles) (and_from (is_within 6 12 n) (takes_axes 2 n) (and_parts (is_within 6 12 n) (takes_axes version n) parts.0).0 refl) parts.1

must_too : {A Break : Type 0} (a b : Bool) (broken : Break) (next : Result A Break) → (a ≡ true → b ≡ true) → is_ok (must a broken >> next) ≡ true → (must b broken >> next) ≡ (must a broken >> next)
must_too true b broken next too is = rw (too refl) refl
must_too false b broken next too is = absurd cc

tested_too : {A B Break : Type 0} (check : Result A Break) (a b : A → Bool) (broken : Break) (next : A → Result B Break) → ((x : A) → a x ≡ true → b x ≡ true) → is_ok (check >>= (λ x. must (a x) broken >> next x)) ≡ true
    → (check >>= (λ x. must (b x) broken >> next x)) ≡ (check >>= (λ x. must (a x) broken >> next x))
tested_too (Ok x) a b broken next too is = must_too (a x) (b x) broken (next x) (too x) is
tested_too (Err e) a b broken next too is = refl

arm_more : (version : ℕ) (key : List ℕ) (d : Data) → is_ok (arm_at version key d) ≡ true → arm_at 2 key d ≡ arm_at version key d
arm_more version key d is = tested_too (list_at key as_integer d) (is_arm version) (is_arm 2) (at_key key Range) (λ angles. Ok (arm_of angles)) (arm_too version) is

arms_more : (version : ℕ) (key : List ℕ) (o : Option Data) → is_ok (optional None (λ a. arm_at version key a >>= (λ arm. Ok (Some arm))) o) ≡ true
    → optional None (λ a. arm_at 2 key a >>= (λ arm. Ok (Some arm))) o ≡ optional None (λ a. arm_at version key a >>= (λ arm. Ok (Some arm))) o
arms_more version key None is = refl
arms_more version key (Some d) is = ap (λ read. read >>= (λ arm. Ok (Some arm))) (arm_more version key d (wrapped (arm_at version key d) Some is))

task_more : (version : ℕ) (before : List ScriptTask) (d : Data) (task : ScriptTask) → task_of version before d ≡ Ok task → task_of 2 before d ≡ Ok task
unfolding task_of
task_more version before d task is =
    let keys = behind (table_at (codes "task") (length before) d) _ task is in
    let name = behind (needed keys.value (codes "name") >>= task_name_at (at keys.value (codes "name")) (map (λ task. task.name) before)) _ task keys.rest in
    let modules = behind (needed keys.value (codes "modules") >>= files_at (at keys.value (codes "modules"))) _ task name.rest in
    let arm = behind (optional None (λ a. arm_at version (at keys.value (codes "arm")) a >>= (λ arm. Ok (Some arm))) (value_of keys.value (codes "arm"))) _ task modules.rest in
    let same = arms_more version (at keys.value (codes "arm")) (value_of keys.value (codes "arm")) (ok_is _ arm.value arm.first) ∙ arm.first in
    joined _ _ keys.value task keys.first (joined _ _ name.value task name.first (joined _ _ modules.value task modules.first (joined _ _ arm.value task same arm.rest)))

tasks_more : (version : ℕ) (before : List ScriptTask) (ds : List Data) (tasks : List ScriptTask) → each_row (task_of version) before ds ≡ Ok tasks → each_row (task_of 2) before ds ≡ Ok tasks
tasks_more version before [] tasks is = is
tasks_more version before (d ∷ ds) tasks is =
    let one = behind (task_of version before d) (λ row. each_row (task_of version) (before ++ (row ∷ [])) ds) tasks is in
    joined _ _ one.value tasks (task_more version before d one.value one.first) (tasks_more version (before ++ (one.value ∷ [])) ds tasks one.rest)

few : (b : Bool) → (if b then 8 else 16) ≤ 16
few true = omega arith
few false = omega arith

rows_more : (version : ℕ) (key : List ℕ) (d : Data) (ds : List Data) → rows_at key 1 (most_tasks version) d ≡ Ok ds → rows_at key 1 16 d ≡ Ok ds
rows_more version key d ds is =
    let items = behind (found_or (as_array d) (at_key key Kind)) (λ xs. must (is_within 1 (most_tasks version) (length (items_list xs))) (at_key key Range) >> Ok (items_list xs)) ds is in
    let n : ℕ = length (items_list items.value) in
    let fit = held (is_within 1 (most_tasks version) n) (at_key key Range) (Ok (items_list items.value)) ds items.rest in
    let parts = and_parts (nat_le 1 n) (nat_le n (most_tasks version)) fit.holds in
    let most : n ≤ most_tasks version = leb-true n (most_tasks version) parts.1 in
    let too : is_within 1 16 n ≡ true = and_from (nat_le 1 n) (nat_le n 16) parts.0 (le-leb n 16 (omega (arith, most, few (version == 1)))) in
    joined _ _ items.value ds items.first (rw too fit.rest)

-- the rows of the tasks
needed_more : (version : ℕ) (d : Read Data) (key : List ℕ) (tasks : List ScriptTask) → (d >>= rows_at key 1 (most_tasks version) >>= each_row (task_of version) []) ≡ Ok tasks
    → (d >>= rows_at key 1 16 >>= each_row (task_of 2) []) ≡ Ok tasks
needed_more version d key tasks is =
    let rows = behind (d >>= rows_at key 1 (most_tasks version)) (each_row (task_of version) []) tasks is in
    let value = behind d (rows_at key 1 (most_tasks version)) rows.value rows.first in
    joined _ _ rows.value tasks (joined _ _ value.value rows.value value.first (rows_more version key value.value rows.value value.rest)) (tasks_more version [] rows.value tasks rows.rest)

abbrev known : List (List ℕ)
known = codes "version" ∷ codes "steps" ∷ codes "signal" ∷ codes "task" ∷ codes "pers" ∷ codes "zone" ∷ codes "input" ∷ []

-- another key keeps its value
kept : (key : List ℕ) (members : Members) → is_eq (slice_cmp nat_cmp key (codes "version")) ≡ false → get_member key (with_version_2 members) ≡ get_member key members
kept key members other = put_elsewhere key (codes "version") (integer (pos 2)) members other

-- no key is unknown
only_known : (keys : Keys) (o : Option (List ℕ)) (script result : ScriptData) → none_unknown keys o (Ok script) ≡ Ok result → (o ≡ None) × (script ≡ result)
only_known keys None script result is = (refl, cc)
only_known keys (Some key) script result is = absurd cc

abbrev keys_in : Members → Keys
keys_in members = record { path = []; members = members }

-- the parts of a script, as its table gives them
record Parts (members : Members) (version steps : ℕ) (signals : List SignalRow) (tasks : List ScriptTask) (pers : List PersValue) (zones : List ZoneRow) (inputs : List InputRow) : Type 0 where
  steps_are : optional DEFAULT_STEPS (whole_at (codes "steps") 1 1_000_000) (get_member (codes "steps") members) ≡ Ok steps
  signals_are : optional [] (λ d. rows_at (codes "signal") 0 256 d >>= each_row signal_of []) (get_member (codes "signal") members) ≡ Ok signals
  tasks_are : (needed (keys_in members) (codes "task") >>= rows_at (codes "task") 1 (most_tasks version) >>= each_row (task_of version) []) ≡ Ok tasks
  pers_are : optional [] (λ d. rows_at (codes "pers") 0 1_000 d >>= each_row pers_of []) (get_member (codes "pers") members) ≡ Ok pers
  zones_are : optional [] (λ d. rows_at (codes "zone") 0 16 d >>= each_row (zone_of signals tasks) []) (get_member (codes "zone") members) ≡ Ok zones
  inputs_are : optional [] (λ d. rows_at (codes "input") 0 10_000 d >>= each_row (input_of signals tasks) []) (get_member (codes "input") members) ≡ Ok inputs
  none_unknown_is : first_unknown known (keys_of members) ≡ None

-- these parts, and the version, spell the script
spelled : (members : Members) (version steps : ℕ) (signals : List SignalRow) (tasks : List ScriptTask) (pers : List PersValue) (zones : List ZoneRow) (inputs : List InputRow)
    → (needed (keys_in members) (codes "version") >>= whole_at (codes "version") 1 NEWEST_VERSION) ≡ Ok version → Parts members version steps signals tasks pers zones inputs
    → script_of members ≡ Ok (record { version = version; steps = steps; signals = signals; tasks = tasks; pers = pers; zones = zones; inputs = inputs })
unfolding script_of_keys
spelled members version steps signals tasks pers zones inputs is parts =
    let script : ScriptData = record { version = version; steps = steps; signals = signals; tasks = tasks; pers = pers; zones = zones; inputs = inputs } in
    joined _ _ version script is (joined _ _ steps script parts.steps_are (joined _ _ signals script parts.signals_are (joined _ _ tasks script parts.tasks_are
    (joined _ _ pers script parts.pers_are (joined _ _ zones script parts.zones_are (joined _ _ inputs script parts.inputs_are
    (ap (λ o. none_unknown (keys_in members) o (Ok script)) parts.none_unknown_is)))))))

-- a script has such parts
record Spelled (members : Members) (script : ScriptData) : Type 0 where
  version : ℕ
  parts : Parts members version script.steps script.signals script.tasks script.pers script.zones script.inputs

-- each part in its turn, with those before it

abbrev the_rest : List SignalRow → List ScriptTask → Members → ℕ → ℕ → List PersValue → List ZoneRow → List InputRow → Read ScriptData
the_rest signals tasks members version steps pers zones inputs =
    only_keys (keys_in members) known (Ok (record { version = version; steps = steps; signals = signals; tasks = tasks; pers = pers; zones = zones; inputs = inputs }))

last_part : (members : Members) (version steps : ℕ) (signals : List SignalRow) (tasks : List ScriptTask) (pers : List PersValue) (zones : List ZoneRow) (inputs : List InputRow) (script : ScriptData)
    → the_rest signals tasks members version steps pers zones inputs ≡ Ok script
    → (first_unknown known (keys_of members) ≡ None) × (◌≡◌ {A = ScriptData} (record { version = version; steps = steps; signals = signals; tasks = tasks; pers = pers; zones = zones; inputs = inputs }) script)
last_part members version steps signals tasks pers zones inputs script is =
    only_known (keys_in members) (first_unknown known (keys_of members)) (record { version = version; steps = steps; signals = signals; tasks = tasks; pers = pers; zones = zones; inputs = inputs }) script is

spelled_by : (members : Members) (version steps : ℕ) (signals : List SignalRow) (tasks : List ScriptTask) (pers : List PersValue) (zones : List ZoneRow) (inputs : List InputRow) (script : ScriptData)
    → Parts members version steps signals tasks pers zones inputs
    → ◌≡◌ {A = ScriptData} (record { version = version; steps = steps; signals = signals; tasks = tasks; pers = pers; zones = zones; inputs = inputs }) script → Spelled members script
spelled_by members version steps signals tasks pers zones inputs script parts same =
    subst (λ (s : ScriptData). Spelled members s) same (record { version = version; parts = parts })

parts_of : (members : Members) (script : ScriptData) → script_of members ≡ Ok script → Spelled members script
unfolding script_of_keys
parts_of members script is =
    let version = behind (needed (keys_in members) (codes "version") >>= whole_at (codes "version") 1 NEWEST_VERSION) _ script is in
    let steps = behind (optional DEFAULT_STEPS (whole_at (codes "steps") 1 1_000_000) (value_of (keys_in members) (codes "steps"))) _ script version.rest in
    let signals = behind (optional [] (λ d. rows_at (codes "signal") 0 256 d >>= each_row signal_of []) (value_of (keys_in members) (codes "signal"))) _ script steps.rest in
    let tasks = behind (needed (keys_in members) (codes "task") >>= rows_at (codes "task") 1 (most_tasks version.value) >>= each_row (task_of version.value) []) _ script signals.rest in
    let pers = behind (optional [] (λ d. rows_at (codes "pers") 0 1_000 d >>= each_row pers_of []) (value_of (keys_in members) (codes "pers"))) _ script tasks.rest in
    let zones = behind (optional [] (λ d. rows_at (codes "zone") 0 16 d >>= each_row (zone_of signals.value tasks.value) []) (value_of (keys_in members) (codes "zone"))) _ script pers.rest in
    let inputs = behind (optional [] (λ d. rows_at (codes "input") 0 10_000 d >>= each_row (input_of signals.value tasks.value) []) (value_of (keys_in members) (codes "input"))) _ script zones.rest in
    let last = last_part members version.value steps.value signals.value tasks.value pers.value zones.value inputs.value script inputs.rest in
    spelled_by members version.value steps.value signals.value tasks.value pers.value zones.value inputs.value script (record {
      steps_are = steps.first;
      signals_are = signals.first;
      tasks_are = tasks.first;
      pers_are = pers.first;
      zones_are = zones.first;
      inputs_are = inputs.first;
      none_unknown_is = last.0;
    }) last.1

-- version 2 has the same parts
parts_more : (members : Members) (version steps : ℕ) (signals : List SignalRow) (tasks : List ScriptTask) (pers : List PersValue) (zones : List ZoneRow) (inputs : List InputRow)
    → Parts members version steps signals tasks pers zones inputs → Parts (with_version_2 members) 2 steps signals tasks pers zones inputs
parts_more members version steps signals tasks pers zones inputs parts = record {
  steps_are = ap (optional DEFAULT_STEPS (whole_at (codes "steps") 1 1_000_000)) (kept (codes "steps") members refl) ∙ parts.steps_are;
  signals_are = ap (optional [] (λ d. rows_at (codes "signal") 0 256 d >>= each_row signal_of [])) (kept (codes "signal") members refl) ∙ parts.signals_are;
  tasks_are = ap (λ o. found_or o (at_key (codes "task") NoKey) >>= rows_at (codes "task") 1 16 >>= each_row (task_of 2) []) (kept (codes "task") members refl)
      ∙ needed_more version (needed (keys_in members) (codes "task")) (codes "task") tasks parts.tasks_are;
  pers_are = ap (optional [] (λ d. rows_at (codes "pers") 0 1_000 d >>= each_row pers_of [])) (kept (codes "pers") members refl) ∙ parts.pers_are;
  zones_are = ap (optional [] (λ d. rows_at (codes "zone") 0 16 d >>= each_row (zone_of signals tasks) [])) (kept (codes "zone") members refl) ∙ parts.zones_are;
  inputs_are = ap (optional [] (λ d. rows_at (codes "input") 0 10_000 d >>= each_row (input_of signals tasks) [])) (kept (codes "input") members refl) ∙ parts.inputs_are;
  none_unknown_is = put_known known (codes "version") (integer (pos 2)) members refl ∙ parts.none_unknown_is;
}

version_2 : (members : Members) → (needed (keys_in (with_version_2 members)) (codes "version") >>= whole_at (codes "version") 1 NEWEST_VERSION) ≡ Ok 2
version_2 members = ap (λ o. found_or o (at_key (codes "version") NoKey) >>= whole_at (codes "version") 1 NEWEST_VERSION) (put_here (codes "version") (integer (pos 2)) members)

pub same_script : (members : Members) (script : ScriptData) → script_of members ≡ Ok script → script_of (with_version_2 members) ≡ Ok (record script { version = 2 })
same_script members script is =
    let old = parts_of members script is in
    spelled (with_version_2 members) 2 script.steps script.signals script.tasks script.pers script.zones script.inputs (version_2 members)
    (parts_more members old.version script.steps script.signals script.tasks script.pers script.zones script.inputs old.parts)
