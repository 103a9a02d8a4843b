-- What one event changes that tasks wait for, read off the boards.
use Rattle.std.specs.Prelude.{ℕ, Bool, true, false, nat_lt, List, [], ◌∷◌, length, Option, None, Some, slice_index_or, slice_set, if◌then◌else◌}
use Rattle.std.specs.Cmp.Lexicographic.{pointwise}
use Rattle.rapid_num.specs.declared.joints.Joints.{Joints}
use Rattle.rapid_model.specs.Truths.{same_truth}
use Rattle.rapid_model.specs.declared.answer.Answer.{Answer}
use Rattle.rapid_model.specs.declared.answer.Answer.TheVariants as answers
use Rattle.rapid_model.specs.declared.input_row.InputRow.{InputRow}
use Rattle.rapid_model.specs.declared.path.Path.{Path}
use Rattle.rapid_model.specs.declared.request.Request.{Request}
use Rattle.rapid_model.specs.declared.request.Request.TheVariants.{Setpoint, ZoneTie, ZoneOn}
use Rattle.rapid_model.specs.declared.value.Value.{Value}
use Rattle.rapid_model.specs.declared.watched.Watched.{Watched}
use Rattle.rapid_model.specs.declared.watched.Watched.TheVariants as watched
use Rattle.rapid_values.specs.Equality.{same}
use Rattle.persist_store.specs.Stores.{PersData, row_at}
use Rattle.world_zones.specs.declared.own_zone.OwnZone.{OwnZone}
use Rattle.cell_meaning.specs.Outputs.{outputs_set}
use Rattle.cell_meaning.specs.Stored.{with_part}
use Rattle.cell_core.specs.declared.change.Change.{Change}
use Rattle.cell_core.specs.declared.change.Change.TheVariants as changes

-- the signals and the persistent that have new values
abbrev pub watched_of : Change → List Watched
watched_of (changes.Value on) = on ∷ []
watched_of (changes.Outputs changed) = changed
watched_of _ = []

-- it is a change at all
abbrev pub is_some_change : Change → Bool
is_some_change changes.Nothing = false
is_some_change changes.Arrival = true
is_some_change (changes.Value on) = true
is_some_change (changes.Outputs changed) = true

-- a new value, or nothing if the value is still the same
abbrev pub value_change : Bool → Watched → Change
value_change still on = if still then changes.Nothing else changes.Value on

abbrev pub signal_change : List Bool → ℕ → Bool → Change
signal_change signals signal value = value_change (same_truth (slice_index_or signals signal false) value) (watched.Signal signal value)

abbrev pub input_change : List Bool → Option InputRow → Change
input_change signals None = changes.Nothing
input_change signals (Some row) = signal_change signals row.signal row.value

-- whether a value written to a part leaves all elements of a persistent as they were
abbrev pub stays_same : PersData → Path → Value → Bool
stays_same row path value = pointwise same row.values (with_part row.values path value)

abbrev pub pers_change : List PersData → ℕ → Path → Value → Change
pers_change rows pers path value = value_change (stays_same (row_at rows pers) path value) (watched.Pers pers)

-- an arrival, or nothing if the task already waits at the meeting
abbrev pub arrival_change : Bool → Change
arrival_change waits = if waits then changes.Nothing else changes.Arrival

-- the signals that have a new value once each in turn is set, with these values
abbrev pub changed_outputs : List Bool → List (ℕ × Bool) → List Watched
changed_outputs signals [] = []
changed_outputs signals (o ∷ os) =
    if same_truth (slice_index_or signals o.0 false) o.1 then changed_outputs (slice_set signals o.0 o.1) os
    else watched.Signal o.0 o.1 ∷ changed_outputs (slice_set signals o.0 o.1) os

-- new values of these signals, or nothing if there are none
abbrev pub outputs_change : List Watched → Change
outputs_change changed = if nat_lt 0 (length changed) then changes.Outputs changed else changes.Nothing

-- what the zones of an arm change, given these zones and the position of the arm after the event
abbrev pub set_change : List Bool → List (Option OwnZone) → Option Joints → Request → Answer → Change
set_change signals zones arm (ZoneTie old temporary shape signal value) (answers.Number number) =
    outputs_change (changed_outputs signals (outputs_set zones arm (ZoneTie old temporary shape signal value) (answers.Number number)))
set_change signals zones arm (ZoneOn number) answers.Ok = outputs_change (changed_outputs signals (outputs_set zones arm (ZoneOn number) answers.Ok))
set_change signals zones arm (Setpoint to) answers.Given = outputs_change (changed_outputs signals (outputs_set zones arm (Setpoint to) answers.Given))
set_change signals zones arm _ _ = changes.Nothing
