-- The numbers that a cell gave a task's persistents and meetings.
use Rattle.std.specs.Prelude.{◌≡◌, ℕ, ◌<◌, ◌≤◌, IsTrue, length, map, Some, slice_get}
use Rattle.rapid_limits.specs.declared.TheConstants.{MOST_TASKS}
use Rattle.rapid_model.specs.CellData.{CellData}
use Rattle.rapid_model.specs.Limits.{is_start}
use Rattle.rapid_model.specs.declared.pers_cell.PersCell.{PersCell}
use Rattle.rapid_model.specs.declared.task_row.TaskRow.{TaskRow}
use Rattle.typed_trees.specs.Plain.{TypedPers, TypedTree}

-- a row of the tree is the cell's persistent with this number, with the same type and length
pub record IsOne (cell : CellData) (row : TypedPers) (number : ℕ) : Type 0 where
  pub cell_row : PersCell
  pub there : slice_get cell.pers number ≡ Some cell_row
  pub same_sort : cell_row.sort ≡ row.sort
  pub same_len : cell_row.len ≡ row.len

-- The tree of a task of a cell, which has at most sixteen tasks: each of its persistents and meetings has a number of
-- the cell, its list of tasks is the cell's, and its arm has as many axes as the task's row in the cell and starts at a
-- position.
pub record Numbered (cell : CellData) (task : ℕ) (tree : TypedTree) : Type 0 where
  pub task_row : TaskRow
  pub there : slice_get cell.tasks task ≡ Some task_row
  pub tasks : tree.tasks ≡ map (λ row. row.name) cell.tasks
  pub few_tasks : length cell.tasks ≤ MOST_TASKS
  pub axes : tree.axes ≡ task_row.axes
  pub starts : IsTrue (is_start task_row.axes task_row.arm)
  pub as_many_pers : length tree.pers_of ≡ length tree.pers
  pub pers : (row number : ℕ) (p : TypedPers) → slice_get tree.pers_of row ≡ Some number → slice_get tree.pers row ≡ Some p → IsOne cell p number
  pub as_many_meetings : length tree.meeting_of ≡ length tree.meetings
  pub meetings : (row number : ℕ) → slice_get tree.meeting_of row ≡ Some number → number < length cell.meetings
