-- Checking one task after another.
use Rattle.std.proofs.Common.{◌≡◌, ℕ, zero, suc, ◌+◌, ◌*◌, ◌<◌, ◌≤◌, min, List, [], ◌∷◌, ◌++◌, length, take, drop, get_or, map, refl, ap, sym, ◌∙◌, subst, ◌⊎◌, inl, inr, arith, append_assoc, Bool}
use Rattle.std.proofs.lemmas.List.{map-append}
use Rattle.std.specs.Prelude.{Option, Some, Result, Ok, Err, IsTrue, IfSome, IfErr, is_some, slice_get}
use Rattle.std.specs.List.{list_all}
use Rattle.rapid_model.specs.ScriptData.{ScriptData, is_task}
use Rattle.rapid_model.specs.declared.script_task.ScriptTask.{ScriptTask}
use Rattle.typed_trees.specs.Plain.{TypedTree}
use Rattle.typed_trees.specs.Views.{view_tree}
use Rattle.typed_trees.specs.declared.tree.Tree.{Tree}
use Rattle.cell_assembly.specs.Cells.{Clash, InScript, Making}
use Rattle.cell_assembly.specs.Made.{MadeCell, make_cell}
use Rattle.raw_trees.specs.Plain.{PlainModule}
use Rattle.raw_trees.specs.Views.{view_module}
use Rattle.rapid_model.specs.declared.signal_row.SignalRow.{SignalRow}
use Rattle.rule_checks.specs.TypeChecks.{Checked, Fails}
use Rattle.rule_checks.specs.declared.fault.TypeFault.{TypeFault}
use Rattle.rule_checks.specs.declared.fault.TypeFault.TheVariants as types
use Rattle.cell_loading.proofs.ReadModules.{raws-of}
use Rattle.task_types.specs.Task.{task_of}
use Rattle.cell_loading.specs.declared.refused.Refused.{Refused}
use Rattle.cell_loading.specs.declared.refused.Refused.TheVariants.{Script, Module, Memory}
use Rattle.cell_loading.specs.declared.refused.ModuleRule.{ModuleRule}
use Rattle.cell_loading.specs.declared.refused.ModuleRule.TheVariants.{«Type»}
use Rattle.rapid_lexer.specs.declared.place.Place.{Place}
use Rattle.rapid_model.specs.declared.script_rule.ScriptRule.{ScriptRule}
use Rattle.rule_checks.specs.declared.rule.TypeRule.TheVariants.{PersType}
use Rattle.cell_loading.specs.declared.modules.Modules.{Modules}
use Rattle.cell_loading.specs.ReadModules.{ReadModule, place_at, read_text, read_file, rule_refusal, or_refused, names_in, typed_task, typed_tasks, modules_before, cell_or_refused, checked}
use Rattle.cell_loading.proofs.TreesInTurn.{with_tree, then_trees, cell_from}
use Rattle.cell_loading.specs.Files.{IsLoadFault}
use Rattle.cell_loading.specs.Loaded.{reads_in, ArePaired, IsRuleRefusal}
use Rattle.sink_lines.proofs.Lists.{drop-element}
use Rattle.cell_loading.proofs.ModuleFiles.{task_modules, first_of_all, rest_of_all}

-- with these before further trees
abbrev pub with_trees : List TypedTree → Result (List TypedTree) Refused → Result (List TypedTree) Refused
with_trees front (Ok more) = Ok (front ++ more)
with_trees front (Err refused) = Err refused

trees_more : (front : List TypedTree) (t : TypedTree) (v : Result (List TypedTree) Refused) → with_trees front (with_tree t v) ≡ with_trees (front ++ t ∷ []) v
trees_more front t (Ok more) = ap Ok (sym (append_assoc front (t ∷ []) more))
trees_more front t (Err refused) = refl

-- the typed tree of a task, from what its modules come to
pub one_checked : (script : ScriptData) (task : ScriptTask) (reads : List ReadModule) (own : Modules) (names : List (List ℕ)) (signals : List SignalRow) (axes : ℕ) (found : Checked TypedTree)
    → ArePaired own → reads_in own ≡ reads → names ≡ names_in script.tasks → signals ≡ script.signals → axes ≡ task.axes
    → task_of (map view_module own.trees.now) names signals axes ≡ found → typed_task script task reads ≡ or_refused reads found
one_checked script task reads own names signals axes found paired same named signalled counted is =
    let raws : map (λ (r : ReadModule). r.raw) reads ≡ map view_module own.trees.now =
    ap (map (λ (r : ReadModule). r.raw)) (sym same) ∙ raws-of own.first own.texts.now own.trees.now paired.same in
    ap (λ (ms : List PlainModule). or_refused reads (task_of ms (names_in script.tasks) script.signals task.axes)) raws
    ∙ ap (λ (ns : List (List ℕ)). or_refused reads (task_of (map view_module own.trees.now) ns script.signals task.axes)) (sym named)
    ∙ ap (λ (rows : List SignalRow). or_refused reads (task_of (map view_module own.trees.now) names rows task.axes)) (sym signalled)
    ∙ ap (λ (count : ℕ). or_refused reads (task_of (map view_module own.trees.now) names signals count)) (sym counted)
    ∙ ap (or_refused reads) is

-- its refusal
pub one_refused : (script : ScriptData) (task : ScriptTask) (reads : List ReadModule) (own : Modules) (names : List (List ℕ)) (signals : List SignalRow) (axes : ℕ) (fault : TypeFault) (refused : Refused)
    → ArePaired own → reads_in own ≡ reads → names ≡ names_in script.tasks → signals ≡ script.signals → axes ≡ task.axes
    → Fails fault (task_of (map view_module own.trees.now) names signals axes) → IsRuleRefusal (reads_in own) fault refused
    → (refused ≡ Memory) ⊎ (typed_task script task reads ≡ Err refused)
one_refused script task reads own names signals axes types.Memory refused paired same named signalled counted fails told = inl told
one_refused script task reads own names signals axes (types.Rule number at rule) refused paired same named signalled counted fails told =
    inr (
    one_checked script task reads own names signals axes (Err (record { «module» = number; at = at; rule = rule })) paired same named signalled counted fails
    ∙ ap Err (ap (λ (rs : List ReadModule). rule_refusal rs number at rule) (sym same) ∙ sym told)
    )

-- in the middle of the tasks: those before this one are checked
pub record Checking (script : ScriptData) (all : List ReadModule) (k : ℕ) (trees : List Tree) (rest : Modules) : Type 0 where
  pub paired : ArePaired rest
  pub goes_on : typed_tasks script script.tasks all ≡ with_trees (map view_tree trees) (typed_tasks script (drop k script.tasks) (reads_in rest))

-- what this task and those after it come to
here_goes : (script : ScriptData) (all : List ReadModule) (k : ℕ) (trees : List Tree) (rest : Modules) (task : ScriptTask) (found : Result TypedTree Refused) → k < length script.tasks
    → task ≡ get_or script.tasks k task → Checking script all k trees rest → typed_task script task (take (length task.modules) (reads_in rest)) ≡ found
    → typed_tasks script script.tasks all ≡ with_trees (map view_tree trees) (then_trees found (typed_tasks script (drop (k + 1) script.tasks) (drop (length task.modules) (reads_in rest))))
here_goes script all k trees rest task found lt is p here =
    p.goes_on
    ∙ ap (λ (ts : List ScriptTask). with_trees (map view_tree trees) (typed_tasks script ts (reads_in rest))) (drop-element script.tasks k task lt is)
    ∙ ap (λ (f : Result TypedTree Refused). with_trees (map view_tree trees) (then_trees f (typed_tasks script (drop (k + 1) script.tasks) (drop (length task.modules) (reads_in rest))))) here

-- a task is checked
pub checking_more : (script : ScriptData) (all : List ReadModule) (k : ℕ) (trees : List Tree) (tree : Tree) (rest later : Modules) (task : ScriptTask) → k < length script.tasks
    → task ≡ get_or script.tasks k task → Checking script all k trees rest → typed_task script task (take (length task.modules) (reads_in rest)) ≡ Ok (view_tree tree)
    → ArePaired later → reads_in later ≡ drop (length task.modules) (reads_in rest) → Checking script all (k + 1) (trees ++ tree ∷ []) later
checking_more script all k trees tree rest later task lt is p here paired behind = record {
  paired = paired;
  goes_on =
      let behind_trees : Result (List TypedTree) Refused = typed_tasks script (drop (k + 1) script.tasks) (drop (length task.modules) (reads_in rest)) in
      here_goes script all k trees rest task (Ok (view_tree tree)) lt is p here
      ∙ trees_more (map view_tree trees) (view_tree tree) behind_trees
      ∙ ap (λ (front : List TypedTree). with_trees front behind_trees) (sym (map-append view_tree trees (tree ∷ [])))
      ∙ ap (λ (rs : List ReadModule). with_trees (map view_tree (trees ++ tree ∷ [])) (typed_tasks script (drop (k + 1) script.tasks) rs)) (sym behind);
}

-- each task has few modules
pub few_each : (version : ℕ) (tasks : List ScriptTask) (k : ℕ) (task : ScriptTask) → IsTrue (list_all (is_task version) tasks) → k < length tasks → task ≡ get_or tasks k task → length task.modules ≤ 16
few_each version [] k task all lt is = absurd (omega arith)
few_each version (t ∷ tasks) zero task all lt is =
    let few = (task_modules version t (first_of_all (is_task version t) (list_all (is_task version) tasks) all)).few in
    let same = ap (λ (x : ScriptTask). length x.modules) is in omega (arith, few, same)
few_each version (t ∷ tasks) (suc k) task all lt is = few_each version tasks k task (rest_of_all (is_task version t) (list_all (is_task version) tasks) all) (omega arith) is

-- the modules of the tasks before one

before_none : (tasks : List ScriptTask) → modules_before tasks 0 ≡ 0
before_none [] = refl
before_none (t ∷ tasks) = refl

before_one_more : (tasks : List ScriptTask) (k : ℕ) (task : ScriptTask) → k < length tasks → task ≡ get_or tasks k task → modules_before tasks (suc k) ≡ modules_before tasks k + length task.modules
before_one_more [] k task lt is = absurd (omega arith)
before_one_more (t ∷ tasks) zero task lt is =
    let none = before_none tasks in
    let same = ap (λ (x : ScriptTask). length x.modules) is in omega (arith, none, same)
before_one_more (t ∷ tasks) (suc k) task lt is = let more = before_one_more tasks k task (omega arith) is in omega (arith, more)

pub before_all : (tasks : List ScriptTask) (number n : ℕ) → n ≡ min (length tasks) number → modules_before tasks n ≡ modules_before tasks number
before_all [] number n is = refl
before_all (t ∷ tasks) zero n is = let none : n ≡ 0 = omega arith in ap (modules_before (t ∷ tasks)) none
before_all (t ∷ tasks) (suc number) zero is = absurd (omega arith)
before_all (t ∷ tasks) (suc number) (suc n) is = ap (λ (m : ℕ). length t.modules + m) (before_all tasks number n (omega arith))

-- in the middle of the tasks before one: this many modules
pub record Counting (tasks : List ScriptTask) (k before : ℕ) : Type 0 where
  pub few : before ≤ 16 * k
  pub is : before ≡ modules_before tasks k

pub counting_begins : (tasks : List ScriptTask) → Counting tasks 0 0
counting_begins tasks = record { few = omega arith; is = sym (before_none tasks) }

pub counting_more : (tasks : List ScriptTask) (k before then : ℕ) (task : ScriptTask) → k < length tasks → task ≡ get_or tasks k task → length task.modules ≤ 16 → Counting tasks k before
    → then ≡ before + length task.modules → Counting tasks (k + 1) then
counting_more tasks k before then task lt is few p next = record {
  few = let f = p.few in omega (arith, f, few, next);
  is =
      let one : suc k ≡ k + 1 = omega arith in
      let more = before_one_more tasks k task lt is in
      let f = p.is in
      let whole : then ≡ modules_before tasks (suc k) = omega (arith, more, f, next) in whole ∙ ap (modules_before tasks) one;
}

-- what is true of each refusal for a rule of the script or of a module is true of what the check is refused for
module _ (P : Refused → Type 0) (of_script : (key : List ℕ) (rule : ScriptRule) → P (Script key rule)) (of_module : (file : ℕ) (place : Place) (rule : ModuleRule) → P (Module file place rule)) where
  in_refused : (reads : List ReadModule) (found : Checked TypedTree) (refused : Refused) → or_refused reads found ≡ Err refused → P refused
  in_refused reads (Ok tree) refused is = cc
  in_refused reads (Err broken) refused is =
      let e : rule_refusal reads broken.«module» broken.at broken.rule ≡ refused = cc in
      let read = slice_get reads broken.«module» in
      subst P e (of_module (read_file read) (place_at (read_text read) broken.at) («Type» broken.rule))

  in_with : (tree : TypedTree) (more : Result (List TypedTree) Refused) (refused : Refused) → ((r : Refused) → more ≡ Err r → P r) → with_tree tree more ≡ Err refused → P refused
  in_with tree (Ok trees) refused told is = cc
  in_with tree (Err r) refused told is = told refused is

  in_then : (first : Result TypedTree Refused) (more : Result (List TypedTree) Refused) (refused : Refused) → ((r : Refused) → first ≡ Err r → P r) → ((r : Refused) → more ≡ Err r → P r)
      → then_trees first more ≡ Err refused → P refused
  in_then (Ok tree) more refused here told is = in_with tree more refused told is
  in_then (Err r) more refused here told is = let e : r ≡ refused = cc in here refused (ap Err e)

  in_tasks : (script : ScriptData) (tasks : List ScriptTask) (reads : List ReadModule) (refused : Refused) → typed_tasks script tasks reads ≡ Err refused → P refused
  in_tasks script [] reads refused is = cc
  in_tasks script (task ∷ tasks) reads refused is =
      in_then (typed_task script task (take (length task.modules) reads)) (typed_tasks script tasks (drop (length task.modules) reads)) refused
      (λ r e. in_refused (take (length task.modules) reads)
      (task_of (map (λ read. read.raw) (take (length task.modules) reads)) (names_in script.tasks) script.signals task.axes) r e)
      (λ r e. in_tasks script tasks (drop (length task.modules) reads) r e) is

  in_cell : (script : ScriptData) (reads : List ReadModule) (making : Making MadeCell) → IfErr (cell_or_refused script reads making) P
  in_cell script reads (Ok made) = tt
  in_cell script reads (Err (Clash task number at)) =
      let read = slice_get reads (modules_before script.tasks task + number) in
      of_module (read_file read) (place_at (read_text read) at) («Type» PersType)
  in_cell script reads (Err (InScript key rule)) = of_script key rule

  in_trees : (script : ScriptData) (reads : List ReadModule) (trees : Result (List TypedTree) Refused) → ((r : Refused) → trees ≡ Err r → P r) → IfErr (cell_from script reads trees) P
  in_trees script reads (Ok trees) told = in_cell script reads (make_cell script trees)
  in_trees script reads (Err refused) told = told refused refl

  pub checks_refuse : (script : ScriptData) (reads : List ReadModule) → IfErr (checked script reads) P
  checks_refuse script reads = in_trees script reads (typed_tasks script script.tasks reads) (λ r e. in_tasks script script.tasks reads r e)

-- what the check is refused for
pub checks_told : (old new : ℕ) (script : ScriptData) (reads : List ReadModule) (told : Option Refused) (refused : Refused) → (refused ≡ Memory) ⊎ (checked script reads ≡ Err refused) → told ≡ Some refused
    → IfSome told (IsLoadFault old new)
checks_told old new script reads told refused (inl memory) is = subst (λ (o : Option Refused). IfSome o (IsLoadFault old new)) (sym (is ∙ ap Some memory)) tt
checks_told old new script reads told refused (inr found) is =
    subst (λ (o : Option Refused). IfSome o (IsLoadFault old new)) (sym is)
    (subst (λ (r : Result MadeCell Refused). IfErr r (IsLoadFault old new)) found (checks_refuse (IsLoadFault old new) (λ key rule. tt) (λ file place rule. tt) script reads))
