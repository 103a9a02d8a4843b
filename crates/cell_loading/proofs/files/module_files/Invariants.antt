use Rattle.std.proofs.Common.{◌≡◌, take}
use Rattle.rapid_model.specs.ScriptData.{module_names}
use Rattle.cell_loading.specs.Loaded.{names_in_turn}
use Rattle.cell_loading.proofs.files.module_files.Given as goal

abbrev pub invariant-loop-task : goal.invariant-loop-task
invariant-loop-task l = names_in_turn l.found.items ≡ module_names (take l.task-index l.tasks)
