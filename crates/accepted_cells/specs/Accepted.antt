-- The accepted cells: those of a script and of the modules of its tasks, if texts spell the modules and they check.
use Rattle.std.specs.Prelude.{◌≡◌, ℕ, List, [], ◌∷◌, map, Ok, ⊤}
use Rattle.std.specs.List.{All}
use Rattle.rapid_model.specs.ScriptData.{IsScript, ScriptData}
use Rattle.rapid_model.specs.declared.script_task.ScriptTask.{ScriptTask}
use Rattle.raw_trees.specs.Plain.{PlainModule}
use Rattle.module_parser.specs.Modules.{ModuleText}
use Rattle.typed_trees.specs.Plain.{TypedTree}
use Rattle.task_types.specs.Task.{task_of}
use Rattle.cell_assembly.specs.Made.{MadeCell, make_cell}

-- a text spells each of the modules
abbrev pub AreRead : List PlainModule → Type 0
AreRead modules = All (λ (m : PlainModule). (source : List ℕ) × ModuleText source (Ok m)) modules

-- for each task its modules, and the tree they check to, with the script's tasks and signals, and as many axes as the
-- task's arm has
abbrev pub AreChecked : ScriptData → List ScriptTask → List (List PlainModule) → List TypedTree → Type 0
AreChecked script [] [] [] = ⊤
AreChecked script (task ∷ tasks) (modules ∷ more) (tree ∷ trees) =
    AreRead modules × (task_of modules (map (λ (t : ScriptTask). t.name) script.tasks) script.signals task.axes ≡ Ok tree) × AreChecked script tasks more trees
AreChecked script _ _ _ = ⊥

-- a cell of the script, which keeps its limits, and the trees of its tasks with the cell's numbers
pub record IsAccepted (script : ScriptData) (made : MadeCell) : Type 0 where
  pub modules : List (List PlainModule)
  pub trees : List TypedTree
  pub is_script : IsScript script
  pub are_checked : AreChecked script script.tasks modules trees
  pub is_made : make_cell script trees ≡ Ok made
