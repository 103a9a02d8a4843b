-- Who asks what.
use Rattle.std.specs.Prelude.{◌≡◌, ◌<◌, ◌⊎◌, ℕ, List, length}
use Rattle.rapid_model.specs.CellData.{CellData}
use Rattle.rapid_model.specs.declared.answer.Answer.{Answer}
use Rattle.rapid_model.specs.declared.request.Request.{Request}
use Rattle.rapid_model.specs.declared.request.Request.TheVariants.{Input}

-- after these answers, this actor makes this request
abbrev pub Asking : Type 1
Asking = ℕ → List Answer → Request → Type 0

-- a task of the cell makes it
pub record TaskAsks (asks : Asking) (cell : CellData) (actor : ℕ) (answers : List Answer) (request : Request) : Type 0 where
  pub task : actor < length cell.tasks
  pub asked : asks actor answers request

-- the input script, whose number follows the tasks', asks its steps in order while one is left
pub record InputsAsk (cell : CellData) (actor : ℕ) (answers : List Answer) (request : Request) : Type 0 where
  pub script : actor ≡ length cell.tasks
  pub left : length answers < length cell.inputs
  pub next : request ≡ Input (length answers)

-- the tasks as they ask, and the input script
abbrev pub with_inputs : Asking → CellData → Asking
with_inputs asks cell actor answers request = TaskAsks asks cell actor answers request ⊎ InputsAsk cell actor answers request
