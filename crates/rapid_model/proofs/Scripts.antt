-- What the limits of a script say about its tasks, in each version.
use Rattle.std.proofs.Common.{◌≡◌, ℕ, zero, suc, ◌≤◌, Bool, true, false, ◌&&◌, ◌||◌, ◌==◌, List, [], ◌∷◌, length, Option, Some, None, slice_get, refl, ap, subst, lit≤, arith, IsTrue}
use Rattle.std.specs.Prelude.{if◌then◌else◌, nat_le}
use Rattle.std.specs.List.{list_all}
use Rattle.std.proofs.lemmas.Bool.{and_parts, eqb-true, leb-true}
use Rattle.rapid_num.specs.Reach.{is_position}
use Rattle.rapid_num.specs.declared.joints.Joints.{Joints}
use Rattle.rapid_model.specs.Limits.{is_axes, is_start, is_within}
use Rattle.rapid_model.specs.Names.{is_short_name}
use Rattle.rapid_model.specs.ScriptData.{IsScript, ScriptData, is_file_name, is_task, most_tasks, takes_axes}
use Rattle.rapid_model.specs.declared.script_task.ScriptTask.{ScriptTask}

most_tasks-at_most : (version : ℕ) → most_tasks version ≤ 16
most_tasks-at_most version = by_test (version == 1)
  where
    by_test : (first : Bool) → (if first then 8 else 16) ≤ 16
    by_test true = lit≤ tt
    by_test false = lit≤ tt

pub few_tasks : (script : ScriptData) → IsScript script → length script.tasks ≤ 16
few_tasks script is = within (length script.tasks) (most_tasks script.version) is.few_tasks (most_tasks-at_most script.version)
  where
    within : (n m : ℕ) → n ≤ m → m ≤ 16 → n ≤ 16
    within n m few most = omega arith

-- the arm of a task starts at a position
pub task_starts : (version : ℕ) (task : ScriptTask) → is_task version task ≡ true → is_start task.axes task.arm ≡ true
task_starts version task is =
    (and_parts (((is_short_name task.name && is_within 1 16 (length task.modules)) && list_all is_file_name task.modules) && takes_axes version task.axes) (is_start task.axes task.arm) is).1

-- the name of a task is a short name
pub task_named : (version : ℕ) (task : ScriptTask) → is_task version task ≡ true → is_short_name task.name ≡ true
task_named version task is =
    let name : Bool = is_short_name task.name in
    let modules : Bool = is_within 1 16 (length task.modules) in
    let files : Bool = list_all is_file_name task.modules in
    let listed = (and_parts (((name && modules) && files) && takes_axes version task.axes) (is_start task.axes task.arm) is).0 in
    (and_parts name modules (and_parts (name && modules) files (and_parts ((name && modules) && files) (takes_axes version task.axes) listed).0).0).0

starts_at : (version : ℕ) (tasks : List ScriptTask) (k : ℕ) (task : ScriptTask) → list_all (is_task version) tasks ≡ true → slice_get tasks k ≡ Some task → is_start task.axes task.arm ≡ true
starts_at version [] k task all there = absurd (cc there)
starts_at version (t ∷ ts) zero task all there =
    let same : t ≡ task = cc in
    subst (λ (x : ScriptTask). is_start x.axes x.arm ≡ true) same (task_starts version t (and_parts (is_task version t) (list_all (is_task version) ts) all).0)
starts_at version (t ∷ ts) (suc k) task all there = starts_at version ts k task (and_parts (is_task version t) (list_all (is_task version) ts) all).1 there

pub script_starts : (script : ScriptData) (k : ℕ) (task : ScriptTask) → IsScript script → slice_get script.tasks k ≡ Some task → is_start task.axes task.arm ≡ true
script_starts script k task is there = starts_at script.version script.tasks k task is.tasks there

either : (a b : Bool) → b ≡ true → (a || b) ≡ true
either true b e = refl
either false b e = e

-- an arm that starts at a position has six to twelve axes
pub start_axes : (axes : ℕ) (arm : Option Joints) → is_start axes arm ≡ true → IsTrue (is_axes axes)
start_axes axes None start = ap (λ (none : Bool). none || is_within 6 12 axes) start
start_axes axes (Some arm) start = either (axes == 0) (is_within 6 12 axes) (and_parts (is_within 6 12 axes) (is_position axes arm) start).0

-- an arm has at most twelve axes
pub axes-at_most : (axes : ℕ) → IsTrue (is_axes axes) → axes ≤ 12
axes-at_most axes is = by_test (axes == 0) (is_within 6 12 axes) (λ none. omega (arith, eqb-true axes 0 none)) (λ some. leb-true axes 12 (and_parts (nat_le 6 axes) (nat_le axes 12) some).1) is
  where
    by_test : (none some : Bool) → (none ≡ true → axes ≤ 12) → (some ≡ true → axes ≤ 12) → (none || some) ≡ true → axes ≤ 12
    by_test true some no_arm arm is = no_arm refl
    by_test false some no_arm arm is = arm is
