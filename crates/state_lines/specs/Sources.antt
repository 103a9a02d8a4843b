-- The modules of each task, for an action that prints places.
use Rattle.cell_loading.specs.declared.module_texts.ModuleTexts.{ModuleTexts}
use Rattle.rapid_model.specs.declared.script_task.ScriptTask.{ScriptTask}
use Rattle.state_text.specs.StateLines.{SourcesData}
use Rattle.std.specs.Prelude.{ℕ, take, drop, List, [], ◌∷◌, length, Option, Some, None}
use Rattle.cell_loading.specs.Loaded.{bytes_of}

-- the modules of each task, of these texts, which are those of all modules in order
abbrev pub sources_in : List ScriptTask → List (List ℕ) → List SourcesData
sources_in [] texts = []
sources_in (task ∷ tasks) texts =
    let count = length task.modules in
    record { files = task.modules; texts = take count texts } ∷ sources_in tasks (drop count texts)

-- the modules of each task, for an action that prints places
abbrev pub view_modules : Option ModuleTexts → List SourcesData
view_modules None = []
view_modules (Some modules) = sources_in modules.script.tasks (bytes_of modules.texts.items)
