use Rattle.std.proofs.Common.{◌≡◌, map, take}
use Rattle.rapid_model.specs.ScriptData.{row_of}
use Rattle.cell_assembly.proofs.rows.task_rows.Given as goal

abbrev pub invariant-loop-task : goal.invariant-loop-task
invariant-loop-task l = l.rows.items ≡ map row_of (take l.task-index l.tasks)
