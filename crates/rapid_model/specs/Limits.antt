-- The limits of a script and its cell.
use Rattle.std.specs.Prelude.{ℕ, ◌+◌, Bool, true, false, not, ◌&&◌, ◌||◌, ◌==◌, nat_le, nat_lt, int_lt, List, [], ◌∷◌, length, take, drop, Option, None, Some, is_some, is_none, slice_get, unwrap_or}
use Rattle.std.specs.List.{list_all, list_any}
use Rattle.rapid_limits.specs.declared.TheConstants.{MOST_AXES, MOST_STEPS, ROBOT_AXES}
use Rattle.rapid_num.specs.Reach.{is_in_reach, is_position}
use Rattle.rapid_num.specs.declared.joints.Joints.{Joints}
use Rattle.rapid_num.specs.declared.shape.Bound.{Bound}
use Rattle.rapid_num.specs.declared.shape.Shape.{Shape}
use Rattle.rapid_model.specs.declared.input_row.InputRow.{InputRow}
use Rattle.rapid_model.specs.declared.signal_row.SignalRow.{SignalRow}
use Rattle.rapid_model.specs.declared.zone_row.ZoneRow.{ZoneRow}
use Rattle.rapid_model.specs.Names.{is_short_name}

abbrev pub is_within : ℕ → ℕ → ℕ → Bool
is_within low high n = nat_le low n && nat_le n high

-- it holds of the value if there is one
abbrev pub holds_where_there : {A : Type 0} → (A → Bool) → Option A → Bool
holds_where_there test None = true
holds_where_there test (Some x) = test x

-- the number of axes of a task's arm: those of a robot and any external ones, or 0 if the task has no arm
abbrev pub is_axes : ℕ → Bool
is_axes axes = axes == 0 || is_within ROBOT_AXES MOST_AXES axes

-- an arm with this many axes starts at a position; with 0 axes there is no arm
abbrev pub is_start : ℕ → Option Joints → Bool
is_start axes None = axes == 0
is_start axes (Some arm) = is_within ROBOT_AXES MOST_AXES axes && is_position axes arm

abbrev pub is_signal : SignalRow → Bool
is_signal row = is_short_name row.name

-- the bounds of an axis, numbered from 0, are in its reach, and the low one is below the high one
abbrev pub is_bounded : ℕ → Bound → Bool
is_bounded axis bound = is_in_reach axis bound.low && is_in_reach axis bound.high && int_lt bound.low bound.high

-- the bounds of consecutive axes, starting with this one
abbrev pub are_bounded : ℕ → List (Option Bound) → Bool
are_bounded axis [] = true
are_bounded axis (bound ∷ bounds) = holds_where_there (is_bounded axis) bound && are_bounded (axis + 1) bounds

-- at least one of the arm's axes, this many, has bounds, and no other axis does
abbrev pub is_zone_shape : ℕ → Shape → Bool
is_zone_shape axes shape =
    list_any is_some (take axes shape.bounds) && are_bounded 0 (take axes shape.bounds) && list_all is_none (drop axes shape.bounds)

-- the number of axes of a task's arm, given those of all tasks; 0 if the task has no arm or does not exist
abbrev pub axes_at : List ℕ → ℕ → ℕ
axes_at axes number = unwrap_or (slice_get axes number) 0

-- the task exists and has an arm
abbrev pub has_arm : List ℕ → ℕ → Bool
has_arm axes number = nat_lt 0 (axes_at axes number)

-- the signal exists and is an input
abbrev pub is_input_signal : List SignalRow → ℕ → Bool
is_input_signal signals number = is_input_row (slice_get signals number)
  where
    is_input_row : Option SignalRow → Bool
    is_input_row None = false
    is_input_row (Some row) = not row.output

-- a zone of a cell, given the number of axes of each task's arm
abbrev pub is_zone : List SignalRow → List ℕ → ZoneRow → Bool
is_zone signals axes row =
    is_short_name row.name && has_arm axes row.task && is_zone_shape (axes_at axes row.task) row.shape && nat_lt row.signal (length signals)

-- a step of the input script, given the number of tasks
abbrev pub is_input : List SignalRow → ℕ → InputRow → Bool
is_input signals tasks row =
    is_input_signal signals row.signal && holds_where_there (λ w. nat_lt w.0 (length signals)) row.when
    && holds_where_there (λ g. nat_lt g.0 tasks && nat_le g.1 MOST_STEPS) row.given && holds_where_there (is_within 0 MOST_STEPS) row.after
