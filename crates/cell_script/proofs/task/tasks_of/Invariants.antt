use Rattle.std.proofs.Common.{◌≡◌, [], drop, map}
use Rattle.toml.specs.View.{view}
use Rattle.cell_script.specs.Keys.{each_row}
use Rattle.cell_script.specs.Rows.{task_of}
use Rattle.cell_script.proofs.task.tasks_of.Given as goal

abbrev pub invariant-loop-row : goal.invariant-loop-row
invariant-loop-row l = each_row (task_of l.version) l.tasks.items (map view (drop l.row-index l.rows)) ≡ each_row (task_of l.version) [] (map view l.rows)
