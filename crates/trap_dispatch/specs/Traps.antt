-- The interrupts of the tasks of a cell.
use Rattle.std.specs.Prelude.{ℕ, List, slice_index_or, slice_set}
use Rattle.trap_dispatch.specs.Tasks.{TaskData, before_all}

-- the interrupts of a task
abbrev pub task_at : List TaskData → ℕ → TaskData
task_at tasks task = slice_index_or tasks task before_all

-- the same with other interrupts for one task
abbrev pub with_task : List TaskData → ℕ → TaskData → List TaskData
with_task tasks task t = slice_set tasks task t
