-- The value that a task wrote to a signal, from the events of a history alone (RAPID Instructions: SetDO, WZDOSet).
use Rattle.std.specs.Prelude.{◌≡◌, ◌⊎◌, ℕ, Bool, List, Some, slice_get}
use Rattle.rapid_num.specs.declared.shape.Shape.{Shape}
use Rattle.rapid_model.specs.CellData.{CellData}
use Rattle.rapid_model.specs.declared.answer.Answer.TheVariants as answers
use Rattle.rapid_model.specs.declared.event.Event.{Event}
use Rattle.rapid_model.specs.declared.input_row.InputRow.{InputRow}
use Rattle.rapid_model.specs.declared.request.Request.TheVariants.{WriteS, Input, ZoneTie}
use Rattle.cell_meaning.specs.Since.{IsEvent}

-- a task writes this value to the signal
abbrev pub WritesSignal : ℕ → Bool → List Event → Event → Type 0
WritesSignal signal value before e = (task : ℕ) × IsEvent task (WriteS signal value) answers.Ok e

-- the input script sets the signal
pub record FeedsSignal (cell : CellData) (signal : ℕ) (e : Event) : Type 0 where
  pub script : ℕ
  pub index : ℕ
  pub row : InputRow
  pub there : slice_get cell.inputs index ≡ Some row
  pub names : row.signal ≡ signal
  pub is : IsEvent script (Input index) answers.Ok e

-- a task gives a zone whose output is the signal
pub record TiesSignal (signal : ℕ) (e : Event) : Type 0 where
  pub task : ℕ
  pub old : ℕ
  pub temporary : Bool
  pub shape : Shape
  pub value : Bool
  pub number : ℕ
  pub is : IsEvent task (ZoneTie old temporary shape signal value) (answers.Number number) e

-- the signal is written anew, set by the input script, or tied to a zone
abbrev pub SetsAnew : CellData → ℕ → List Event → Event → Type 0
SetsAnew cell signal before e = ((value : Bool) × WritesSignal signal value before e) ⊎ FeedsSignal cell signal e ⊎ TiesSignal signal e
