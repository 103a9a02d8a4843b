-- When a step of the input script is open.
use Rattle.std.specs.Prelude.{ℕ, Bool, false, not, ◌&&◌, ◌==◌, nat_le, nat_lt, List, length, Option, None, Some, slice_get}
use Rattle.rapid_model.specs.CellData.{CellData}
use Rattle.rapid_model.specs.Limits.{holds_where_there}
use Rattle.rapid_model.specs.Own.{part_of}
use Rattle.rapid_model.specs.Truths.{same_truth}
use Rattle.rapid_model.specs.declared.event.Event.{Event}
use Rattle.rapid_model.specs.declared.input_row.InputRow.{InputRow}
use Rattle.cell_meaning.specs.Counted.{counted}
use Rattle.cell_meaning.specs.Fates.{all_ended}
use Rattle.cell_meaning.specs.Motion.{setpoints_given}
use Rattle.cell_meaning.specs.Stored.{signal_after}

-- how many steps of the input script are done; the script is the actor whose number follows the tasks'
abbrev pub inputs_done : CellData → List Event → ℕ
inputs_done cell history = length (part_of (length cell.tasks) history)

-- each given part of the gate holds: a signal's value, setpoints given to a task's arm, counted events
abbrev pub gate_holds : CellData → List Event → InputRow → Bool
gate_holds cell history row =
    holds_where_there (λ w. same_truth (signal_after cell history w.0) w.1) row.when
    && holds_where_there (λ g. nat_le g.1 (setpoints_given history g.0)) row.given
    && holds_where_there (λ count. nat_le count (counted history)) row.after

abbrev pub is_gate_open : CellData → List Event → Option InputRow → Bool
is_gate_open cell history None = false
is_gate_open cell history (Some row) = gate_holds cell history row

-- the step is the next one, its gate holds, a task has not ended, and steps of the run are left
abbrev pub is_open : CellData → List Event → ℕ → Bool
is_open cell history index =
    index == inputs_done cell history && is_gate_open cell history (slice_get cell.inputs index)
    && not (all_ended (length cell.tasks) history) && nat_lt (counted history) cell.steps
