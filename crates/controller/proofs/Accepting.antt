-- What is checked of modules that texts spell is accepted: its tasks go on.
use Rattle.std.proofs.Common.{◌≡◌, ℕ, ◌+◌, ◌≤◌, List, [], ◌∷◌, length, map, take, drop, Option, Some, None, Result, Ok, Err, refl, ap, sym, subst, ◌∙◌}
use Rattle.std.specs.Prelude.{is_some}
use Rattle.std.proofs.lemmas.List.{length-map}
use Rattle.std.proofs.lemmas.List.Elements.{All-cons, All-drop, All-map, All-nil, All-take}
use Rattle.rapid_model.specs.ScriptData.{IsScript, ScriptData, row_of}
use Rattle.rapid_model.specs.declared.script_task.ScriptTask.{ScriptTask}
use Rattle.raw_trees.specs.Plain.{PlainModule}
use Rattle.module_parser.specs.Modules.{ModuleText}
use Rattle.typed_trees.specs.Plain.{TypedTree}
use Rattle.rule_checks.specs.TypeChecks.{Checked}
use Rattle.task_types.specs.Task.{task_of}
use Rattle.cell_assembly.specs.Cells.{Making}
use Rattle.cell_assembly.specs.Made.{MadeCell, make_cell}
use Rattle.accepted_cells.specs.Accepted.{AreChecked, AreRead, IsAccepted}
use Rattle.accepted_cells.proofs.Cells.{tasks_are}
use Rattle.cell_loading.specs.declared.refused.Refused.{Refused}
use Rattle.cell_loading.specs.ReadModules.{ReadModule, or_refused, names_in, typed_tasks, cell_or_refused, checked}
use Rattle.cell_loading.proofs.TreesInTurn.{then_trees, cell_from}
use Rattle.cell_loading.specs.Loaded.{AreSpelled, IsSpelled, TextsDecide}
use Rattle.controller.specs.Ready.{HasScript}

-- the modules that texts come to are spelled
pub texts_spell : (file : ℕ) (texts : List (List ℕ)) (failed : Option Refused) (reads : List ReadModule) → TextsDecide file texts failed (Ok reads) → AreSpelled reads
texts_spell file [] None reads d = let none : reads ≡ [] = cc in subst AreSpelled (sym none) (All-nil IsSpelled)
texts_spell file [] (Some refused) reads d = cc
texts_spell file (text ∷ texts) failed [] d = absurd d
texts_spell file (text ∷ texts) failed (read ∷ reads) d =
    All-cons IsSpelled read reads (text, d.0.2) (texts_spell (file + 1) texts failed reads d.1)

abbrev raws : List ReadModule → List PlainModule
raws reads = map (λ (r : ReadModule). r.raw) reads

-- the modules of each task
abbrev modules_in : List ScriptTask → List ReadModule → List (List PlainModule)
modules_in [] reads = []
modules_in (task ∷ tasks) reads = raws (take (length task.modules) reads) ∷ modules_in tasks (drop (length task.modules) reads)

are_read : (reads : List ReadModule) → AreSpelled reads → AreRead (raws reads)
are_read reads spelled = All-map (λ (m : PlainModule). (source : List ℕ) × ModuleText source (Ok m)) (λ (r : ReadModule). r.raw) reads spelled

-- the trees of a task and of those after it
typed_first : (script : ScriptData) (task : ScriptTask) (tasks : List ScriptTask) (own : List ReadModule) (more : List (List PlainModule)) (found : Checked TypedTree) (behind : Result (List TypedTree) Refused)
    (trees : List TypedTree) → found ≡ task_of (raws own) (names_in script.tasks) script.signals task.axes → AreSpelled own → then_trees (or_refused own found) behind ≡ Ok trees
    → ((ts : List TypedTree) → behind ≡ Ok ts → AreChecked script tasks more ts) → AreChecked script (task ∷ tasks) (raws own ∷ more) trees
typed_first script task tasks own more (Ok tree) (Ok ts) [] here spelled is rest = cc
typed_first script task tasks own more (Ok tree) (Ok ts) (t ∷ us) here spelled is rest =
    let same : tree ≡ t = cc in
    let others : ts ≡ us = cc in
    (are_read own spelled, sym here ∙ ap Ok same, rest us (ap Ok others))
typed_first script task tasks own more (Ok tree) (Err refused) trees here spelled is rest = cc
typed_first script task tasks own more (Err broken) behind trees here spelled is rest = cc

are_checked : (script : ScriptData) (tasks : List ScriptTask) (reads : List ReadModule) (trees : List TypedTree) → AreSpelled reads → typed_tasks script tasks reads ≡ Ok trees
    → AreChecked script tasks (modules_in tasks reads) trees
are_checked script [] reads [] spelled is = tt
are_checked script [] reads (tree ∷ trees) spelled is = cc
are_checked script (task ∷ tasks) reads trees spelled is =
    let count = length task.modules in
    typed_first script task tasks (take count reads) (modules_in tasks (drop count reads)) (task_of (raws (take count reads)) (names_in script.tasks) script.signals task.axes)
    (typed_tasks script tasks (drop count reads)) trees refl (All-take IsSpelled count reads spelled) is
    (λ ts behind. are_checked script tasks (drop count reads) ts (All-drop IsSpelled count reads spelled) behind)

-- the cell is made of the trees
pub made_of_trees : (script : ScriptData) (reads : List ReadModule) (making : Making MadeCell) (made : MadeCell) → cell_or_refused script reads making ≡ Ok made → making ≡ Ok made
made_of_trees script reads (Ok m) made is = let same : m ≡ made = cc in ap Ok same
made_of_trees script reads (Err broken) made is = cc

from_trees : (script : ScriptData) (reads : List ReadModule) (found : Result (List TypedTree) Refused) (made : MadeCell) → IsScript script → AreSpelled reads → typed_tasks script script.tasks reads ≡ found
    → cell_from script reads found ≡ Ok made → IsAccepted script made
from_trees script reads (Ok trees) made limits spelled typed is = record {
  modules = modules_in script.tasks reads;
  trees = trees;
  is_script = limits;
  are_checked = are_checked script script.tasks reads trees spelled typed;
  is_made = made_of_trees script reads (make_cell script trees) made is;
}
from_trees script reads (Err refused) made limits spelled typed is = cc

checked_is_accepted : (script : ScriptData) (reads : List ReadModule) (made : MadeCell) → IsScript script → AreSpelled reads → checked script reads ≡ Ok made → IsAccepted script made
checked_is_accepted script reads made limits spelled is = from_trees script reads (typed_tasks script script.tasks reads) made limits spelled refl is

-- and has a tree for each task
pub checked_has_script : (script : ScriptData) (reads : List ReadModule) (made : MadeCell) → IsScript script → AreSpelled reads → checked script reads ≡ Ok made → length made.trees ≡ length script.tasks
    → HasScript made
checked_has_script script reads made limits spelled is one_each =
    let accepted = checked_is_accepted script reads made limits spelled is in
    record {
      script = script;
      accepted = accepted;
      one_each = one_each ∙ sym (length-map script.tasks row_of) ∙ sym (ap length (tasks_are script accepted.trees made accepted.is_made));
    }
