-- Whether a cell has stalled, with tasks that wait for one another.
use Rattle.std.specs.Prelude.{ℕ, zero, suc, Bool, true, not, ◌&&◌, ◌||◌, List, length}
use Rattle.rapid_model.specs.CellData.{CellData}
use Rattle.rapid_model.specs.Own.{part_of, has_ended, is_held}
use Rattle.rapid_model.specs.declared.event.Event.{Event}
use Rattle.cell_meaning.specs.Fates.{all_ended, is_spent}
use Rattle.cell_meaning.specs.Inputs.{inputs_done, is_open}
use Rattle.cell_meaning.specs.Rising.{can_rise}

-- the task is held, and cannot go on
abbrev pub is_stuck : CellData → List Event → ℕ → Bool
is_stuck cell history task = is_held (part_of task history) && not (can_rise cell history task)

-- each of the first tasks, from 0, has ended or is stuck
abbrev pub all_rest : CellData → ℕ → List Event → Bool
all_rest cell zero history = true
all_rest cell (suc tasks) history = all_rest cell tasks history && (has_ended (part_of tasks history) || is_stuck cell history tasks)

-- steps are left, a task has not ended, each such task is stuck, and no step of the input script is open
abbrev pub is_stalled : CellData → List Event → Bool
is_stalled cell history =
    not (is_spent cell history) && not (all_ended (length cell.tasks) history) && all_rest cell (length cell.tasks) history
    && not (is_open cell history (inputs_done cell history))
