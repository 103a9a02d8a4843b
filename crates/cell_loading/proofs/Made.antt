-- The cell of a script and of the trees of its tasks.
use Rattle.std.proofs.Common.{◌≡◌, ℕ, suc, List, [], ◌∷◌, length, take, drop, map, refl, ap, sym, ◌∙◌, subst, ◌⊎◌, inl, inr}
use Rattle.std.specs.Prelude.{Result, Ok, Err, IsTrue, is_some}
use Rattle.std.specs.Cmp.Derive.{both_true}
use Rattle.std.specs.List.{list_all}
use Rattle.std.proofs.lemmas.List.{length-map}
use Rattle.rapid_model.specs.CellData.{CellData}
use Rattle.rapid_model.specs.ScriptData.{ScriptData}
use Rattle.rapid_model.specs.declared.script_task.ScriptTask.{ScriptTask}
use Rattle.typed_trees.specs.Plain.{TypedTree}
use Rattle.typed_trees.specs.Sound.{has_sound_pers}
use Rattle.typed_trees.specs.Views.{view_tree}
use Rattle.typed_trees.specs.declared.tree.Tree.{Tree}
use Rattle.rule_checks.specs.TypeChecks.{Checked}
use Rattle.task_types.proofs.Sound.{task_sound}
use Rattle.task_types.specs.Task.{task_of}
use Rattle.cell_assembly.specs.Made.{MadeCell, make_cell}
use Rattle.cell_assembly.specs.Views.{Fails}
use Rattle.cell_assembly.specs.declared.cell_fault.CellFault.{CellFault}
use Rattle.cell_assembly.specs.declared.cell_fault.CellFault.TheVariants as faults
use Rattle.cell_loading.specs.declared.refused.Refused.{Refused}
use Rattle.cell_loading.specs.declared.refused.Refused.TheVariants.{Memory}
use Rattle.cell_loading.specs.ReadModules.{ReadModule, or_refused, names_in, typed_task, typed_tasks, cell_or_refused, checked}
use Rattle.cell_loading.proofs.TreesInTurn.{then_trees, cell_from}
use Rattle.cell_loading.specs.Loaded.{IsCellRefusal}

-- a tree for each task, and the persistents of each are sound
pub record AreSound (tasks : List ScriptTask) (trees : List TypedTree) : Type 0 where
  pub one_each : length trees ≡ length tasks
  pub sound : IsTrue (list_all has_sound_pers trees)

one_sound : (reads : List ReadModule) (found : Checked TypedTree) (tree : TypedTree) → ((t : TypedTree) → found ≡ Ok t → IsTrue (has_sound_pers t)) → or_refused reads found ≡ Ok tree
    → IsTrue (has_sound_pers tree)
one_sound reads (Ok t) tree each is = let same : t ≡ tree = cc in each tree (ap Ok same)
one_sound reads (Err broken) tree each is = cc

then_sound : (task : ScriptTask) (tasks : List ScriptTask) (first : Result TypedTree Refused) (more : Result (List TypedTree) Refused) (trees : List TypedTree)
    → ((t : TypedTree) → first ≡ Ok t → IsTrue (has_sound_pers t)) → ((ts : List TypedTree) → more ≡ Ok ts → AreSound tasks ts) → then_trees first more ≡ Ok trees → AreSound (task ∷ tasks) trees
then_sound task tasks (Ok t) (Ok ts) trees here behind is =
    let same : t ∷ ts ≡ trees = cc in
    let rest = behind ts refl in
    subst (λ (xs : List TypedTree). AreSound (task ∷ tasks) xs) same (record {
      one_each = ap (λ (n : ℕ). suc n) rest.one_each;
      sound = both_true (here t refl) rest.sound;
    })
then_sound task tasks (Ok t) (Err refused) trees here behind is = cc
then_sound task tasks (Err refused) more trees here behind is = cc

typed_sound : (script : ScriptData) (tasks : List ScriptTask) (reads : List ReadModule) (trees : List TypedTree) → typed_tasks script tasks reads ≡ Ok trees → AreSound tasks trees
typed_sound script [] reads trees is =
    let none : trees ≡ [] = cc in
    subst (λ (xs : List TypedTree). AreSound [] xs) (sym none) (record { one_each = refl; sound = refl })
typed_sound script (task ∷ tasks) reads trees is =
    let own = take (length task.modules) reads in
    let raws = map (λ (r : ReadModule). r.raw) own in
    then_sound task tasks (typed_task script task own) (typed_tasks script tasks (drop (length task.modules) reads)) trees
    (λ t e. one_sound own (task_of raws (names_in script.tasks) script.signals task.axes) t
    (λ x f. task_sound raws (names_in script.tasks) script.signals task.axes x f) e)
    (λ ts e. typed_sound script tasks (drop (length task.modules) reads) ts e) is

-- the trees of all tasks, as the cell is made of them
pub trees_sound : (script : ScriptData) (reads : List ReadModule) (typed trees : List Tree) → typed_tasks script script.tasks reads ≡ Ok (map view_tree typed) → trees ≡ typed
    → IsTrue (list_all has_sound_pers (map view_tree trees))
trees_sound script reads typed trees is same =
    subst (λ (ts : List Tree). IsTrue (list_all has_sound_pers (map view_tree ts))) (sym same) (typed_sound script script.tasks reads (map view_tree typed) is).sound

pub one_tree_each : (script : ScriptData) (reads : List ReadModule) (typed trees : List Tree) → typed_tasks script script.tasks reads ≡ Ok (map view_tree typed) → trees ≡ typed → length trees ≡ length script.tasks
one_tree_each script reads typed trees is same =
    ap length same ∙ sym (length-map typed view_tree) ∙ (typed_sound script script.tasks reads (map view_tree typed) is).one_each

-- the cell that is made of them
cell_made : (script : ScriptData) (reads : List ReadModule) (typed trees : List Tree) (made : MadeCell) → typed_tasks script script.tasks reads ≡ Ok (map view_tree typed) → trees ≡ typed
    → make_cell script (map view_tree trees) ≡ Ok made → checked script reads ≡ Ok made
cell_made script reads typed trees made is same makes =
    ap (cell_from script reads) (is ∙ ap (λ (ts : List Tree). Ok (map view_tree ts)) (sym same)) ∙ ap (cell_or_refused script reads) makes

-- the same for the trees that the program keeps
pub cell_kept : (script : ScriptData) (reads : List ReadModule) (typed trees new kept : List Tree) (cell : CellData) → typed_tasks script script.tasks reads ≡ Ok (map view_tree typed) → trees ≡ typed
    → make_cell script (map view_tree trees) ≡ Ok (record { cell = cell; trees = map view_tree new }) → kept ≡ new → checked script reads ≡ Ok (record { cell = cell; trees = map view_tree kept })
cell_kept script reads typed trees new kept cell is same makes equal =
    subst (λ (ts : List Tree). checked script reads ≡ Ok (record { cell = cell; trees = map view_tree ts })) (sym equal)
    (cell_made script reads typed trees (record { cell = cell; trees = map view_tree new }) is same makes)

-- or why there is none
pub cell_refused : (script : ScriptData) (reads : List ReadModule) (typed trees : List Tree) (fault : CellFault) (refused : Refused) → typed_tasks script script.tasks reads ≡ Ok (map view_tree typed) → trees ≡ typed
    → Fails fault (make_cell script (map view_tree trees)) → IsCellRefusal script reads fault refused → (refused ≡ Memory) ⊎ (checked script reads ≡ Err refused)
cell_refused script reads typed trees (faults.Clash task number at) refused is same fails told =
    inr (ap (cell_from script reads) (is ∙ ap (λ (ts : List Tree). Ok (map view_tree ts)) (sym same)) ∙ ap (cell_or_refused script reads) fails ∙ ap Err (sym told))
cell_refused script reads typed trees (faults.Script key rule) refused is same fails told =
    inr (ap (cell_from script reads) (is ∙ ap (λ (ts : List Tree). Ok (map view_tree ts)) (sym same)) ∙ ap (cell_or_refused script reads) fails ∙ ap Err (sym told))
cell_refused script reads typed trees faults.Memory refused is same fails told = inl told
