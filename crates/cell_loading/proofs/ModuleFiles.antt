-- The files of the modules that a script names.
use Rattle.std.proofs.Common.{◌≡◌, ℕ, ◌+◌, ◌*◌, ◌<◌, ◌≤◌, List, [], ◌∷◌, ◌++◌, length, take, get_or, Bool, true, false, ◌&&◌, refl, ap, sym, ◌∙◌, arith, append-nil, append_assoc, length-append}
use Rattle.std.specs.Borrow.{Bor}
use Rattle.std.specs.Prelude.{IsTrue}
use Rattle.std.specs.List.{list_all}
use Rattle.std.proofs.lemmas.List.{length-map, map-append}
use Rattle.std.proofs.lemmas.Bool.Decides.{nat_tests}
use Rattle.rapid_model.specs.ScriptData.{ScriptData, IsScript, is_task, module_names}
use Rattle.rapid_model.specs.declared.script_task.ScriptTask.{ScriptTask}
use Rattle.rapid_model.proofs.Scripts.{few_tasks}
use Rattle.cell_loading.specs.Loaded.{names_in_turn}
use Rattle.sink_lines.proofs.Lists.{take-element}

-- one more file of a task
pub file_pushed : (found more : List (Bor (List ℕ))) (before files : List (List ℕ)) (k : ℕ) (file : List ℕ) (name : Bor (List ℕ)) → k < length files → file ≡ get_or files k file → name.now ≡ file
    → more ≡ found ++ name ∷ [] → names_in_turn found ≡ before ++ take k files → names_in_turn more ≡ before ++ take (k + 1) files
file_pushed found more before files k file name lt is same pushed p =
    ap names_in_turn pushed ∙ map-append (λ (n : Bor (List ℕ)). n.now) found (name ∷ []) ∙ ap (λ (xs : List (List ℕ)). xs ++ name.now ∷ []) p
    ∙ ap (λ (x : List ℕ). (before ++ take k files) ++ x ∷ []) same
    ∙ append_assoc before (take k files) (file ∷ []) ∙ ap (λ (xs : List (List ℕ)). before ++ xs) (sym (take-element files k file lt is))

names-append : (first second : List ScriptTask) → module_names (first ++ second) ≡ module_names first ++ module_names second
names-append [] second = refl
names-append (task ∷ first) second =
    ap (λ (xs : List (List ℕ)). task.modules ++ xs) (names-append first second) ∙ sym (append_assoc task.modules (module_names first) (module_names second))

-- the files of one more task
pub task_pushed : (more found : List (List ℕ)) (tasks : List ScriptTask) (k : ℕ) (task : ScriptTask) → k < length tasks → task ≡ get_or tasks k task → more ≡ found ++ task.modules
    → found ≡ module_names (take k tasks) → more ≡ module_names (take (k + 1) tasks)
task_pushed more found tasks k task lt is pushed p =
    pushed ∙ ap (λ (xs : List (List ℕ)). xs ++ task.modules) p
    ∙ sym (ap module_names (take-element tasks k task lt is) ∙ names-append (take k tasks) (task ∷ [])
    ∙ ap (λ (xs : List (List ℕ)). module_names (take k tasks) ++ xs) (append-nil task.modules))

-- a task has 1 to 16 modules
pub record IsFew (n : ℕ) : Type 0 where
  pub some : 1 ≤ n
  pub few : n ≤ 16

pub task_modules : (version : ℕ) (task : ScriptTask) → IsTrue (is_task version task) → IsFew (length task.modules)
task_modules version task h = record { some = grind (arith, nat_tests); few = grind (arith, nat_tests) }

pub first_of_all : (b c : Bool) → IsTrue (b && c) → IsTrue b
first_of_all true c h = refl
first_of_all false c h = h

pub rest_of_all : (b c : Bool) → IsTrue (b && c) → IsTrue c
rest_of_all true c h = h
rest_of_all false c h = absurd (let no : false ≡ true = h in cc)

sixteen_each : (version : ℕ) (tasks : List ScriptTask) → IsTrue (list_all (is_task version) tasks) → length (module_names tasks) ≤ 16 * length tasks
sixteen_each version [] all = omega arith
sixteen_each version (task ∷ tasks) all =
    let more = sixteen_each version tasks (rest_of_all (is_task version task) (list_all (is_task version) tasks) all) in
    let few = (task_modules version task (first_of_all (is_task version task) (list_all (is_task version) tasks) all)).few in
    let whole = length-append task.modules (module_names tasks) in
    omega (arith, more, few, whole)

-- a script names few modules
pub few_files : (script : ScriptData) (names : List (Bor (List ℕ))) → IsScript script → names_in_turn names ≡ module_names script.tasks → length names ≤ 256
few_files script names limits is =
    let all = sixteen_each script.version script.tasks limits.tasks in
    let few = few_tasks script limits in
    let seen = length-map names (λ (n : Bor (List ℕ)). n.now) in
    let same = ap length is in
    omega (arith, all, few, seen, same)
