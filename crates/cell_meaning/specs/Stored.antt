-- The values of signals and persistents after a history.
use Rattle.std.specs.Prelude.{ℕ, ◌-◌, Bool, true, false, List, [], ◌∷◌, ◌++◌, map, Option, Some, None, slice_get, slice_set, slice_index_or}
use Rattle.std.specs.List.{fold}
use Rattle.std.specs.Option.{option_and_then, unwrap_or}
use Rattle.rapid_num.specs.declared.joints.Joints.{Joints}
use Rattle.rapid_model.specs.CellData.{CellData}
use Rattle.rapid_model.specs.declared.answer.Answer.{Answer}
use Rattle.rapid_model.specs.declared.answer.Answer.TheVariants as answers
use Rattle.rapid_model.specs.declared.event.Event.{Event}
use Rattle.rapid_model.specs.declared.input_row.InputRow.{InputRow}
use Rattle.rapid_model.specs.declared.path.Path.{Path}
use Rattle.rapid_model.specs.declared.request.Request.{Request}
use Rattle.rapid_model.specs.declared.request.Request.TheVariants.{WriteP, TestSet, WriteS, Input}
use Rattle.rapid_model.specs.declared.value.Value.{Value}
use Rattle.rapid_model.specs.declared.value.Value.TheVariants as values
use Rattle.rapid_values.specs.Values.{part_of, put_part}
use Rattle.world_zones.specs.declared.own_zone.OwnZone.{OwnZone}
use Rattle.world_zones.specs.Zones.{arm_at}
use Rattle.cell_meaning.specs.Motion.{arm_after}
use Rattle.cell_meaning.specs.Outputs.{outputs_set, with_outputs}
use Rattle.cell_meaning.specs.Zones.{zones_after}

abbrev pub with_input : List Bool → Option InputRow → List Bool
with_input signals (Some row) = slice_set signals row.signal row.value
with_input signals None = signals

-- the values of the signals after what an event writes itself, from those before it
abbrev pub signals_written : CellData → List Bool → Request → Answer → List Bool
signals_written cell signals (WriteS signal value) answers.Ok = slice_set signals signal value
signals_written cell signals (Input index) answers.Ok = with_input signals (slice_get cell.inputs index)
signals_written cell signals _ _ = signals

-- and after what zones of its task's arm set, given these zones and the position of the arm after the event
abbrev pub signals_with : CellData → List (Option OwnZone) → Option Joints → List Bool → Request → Answer → List Bool
signals_with cell zones arm signals request answer = with_outputs (signals_written cell signals request answer) (outputs_set zones arm request answer)

-- the same for the last event of a history
abbrev pub signals_by : CellData → List Event → Event → List Bool → List Bool
signals_by cell history e signals =
    signals_with cell (arm_at (zones_after cell history) e.actor) (arm_after cell history e.actor) signals e.request e.answer

-- after these events and the later ones
abbrev pub signals_from : CellData → List Bool → List Event → List Event → List Bool
signals_from cell signals before [] = signals
signals_from cell signals before (e ∷ es) = signals_from cell (signals_by cell (before ++ e ∷ []) e signals) (before ++ e ∷ []) es

abbrev pub signals_after : CellData → List Event → List Bool
signals_after cell history = signals_from cell (map (λ row. row.start) cell.signals) [] history

-- the value of the signal with this number
abbrev pub signal_after : CellData → List Event → ℕ → Bool
signal_after cell history signal = slice_index_or (signals_after cell history) signal false

-- the index of the element that a path names; a persistent that is not an array has one element
abbrev pub element_index : Path → ℕ
element_index path = path.index - 1

abbrev pub part_put : List Value → Path → Value → Option Value → List Value
part_put elements path new None = elements
part_put elements path new (Some old) = slice_set elements (element_index path) (unwrap_or (put_part old path.part new) old)

-- the elements of a persistent with this value put in at a path
abbrev pub with_part : List Value → Path → Value → List Value
with_part elements path new = part_put elements path new (slice_get elements (element_index path))

abbrev pub put_at : List (List Value) → ℕ → Path → Value → List (List Value)
put_at rows pers path new = slice_set rows pers (with_part (slice_index_or rows pers []) path new)

-- the elements of each persistent after an event, from those before it
abbrev pub persistents_with : List (List Value) → Request → Answer → List (List Value)
persistents_with rows (WriteP pers path value) answers.Ok = put_at rows pers path value
persistents_with rows (TestSet pers path) (answers.Yes true) = put_at rows pers path (values.Bool true)
persistents_with rows _ _ = rows

abbrev pub persistents_after : CellData → List Event → List (List Value)
persistents_after cell history = fold (λ rows e. persistents_with rows e.request e.answer) (map (λ row. row.first) cell.pers) history

-- the elements of the persistent with this number
abbrev pub persistent_after : CellData → List Event → ℕ → List Value
persistent_after cell history pers = slice_index_or (persistents_after cell history) pers []

-- the part that a path names, of a persistent with these elements
abbrev pub value_at : List Value → Path → Option Value
value_at elements path = option_and_then (λ value. part_of value path.part) (slice_get elements (element_index path))
