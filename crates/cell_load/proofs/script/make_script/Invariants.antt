use Rattle.std.proofs.Common.{◌≡◌, ◌++◌, take}
use Rattle.std.specs.Prelude.{string_bytes}
use Rattle.std.specs.List.{flat_map}
use Rattle.cell_load.specs.Texts.{task_numbers, task_text}
use Rattle.cell_load.proofs.script.make_script.Given as goal

abbrev pub invariant-loop-task : goal.invariant-loop-task
invariant-loop-task l = string_bytes l.script ≡ string_bytes l.initial.script ++ flat_map task_text (take l.task-index task_numbers)
