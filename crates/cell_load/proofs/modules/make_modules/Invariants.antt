use Rattle.std.proofs.Common.{◌≡◌, map, take}
use Rattle.cell_load.specs.Views.{view_modules}
use Rattle.cell_load.specs.Texts.{module_file, task_numbers}
use Rattle.cell_load.proofs.modules.make_modules.Given as goal

abbrev pub invariant-loop-task : goal.invariant-loop-task
invariant-loop-task l = view_modules l.modules.items ≡ map (module_file l.moves) (take l.task-index task_numbers)
