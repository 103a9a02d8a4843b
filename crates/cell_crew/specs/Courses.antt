-- What a task alone asks and is answered, whatever the other tasks and the input script do.
use Rattle.std.specs.Prelude.{◌≡◌, ℕ, List, ◌∷◌, ◌++◌, map, Some, slice_get, IsTrue}
use Rattle.rapid_model.specs.CellData.{CellData}
use Rattle.rapid_model.specs.Fits.{fits_request, fitting_in}
use Rattle.rapid_model.specs.declared.answer.Answer.{Answer}
use Rattle.rapid_model.specs.declared.event.Event.{Event}
use Rattle.rapid_model.specs.declared.request.Request.{Request}
use Rattle.cell_meaning.specs.MayAsk.{may_ask}

-- the answers of these events
abbrev pub answers_in : List Event → List Answer
answers_in mine = map (λ e. e.answer) mine

-- The next of a task's own events: its request is one that the task's program asks after the answers so far, and its
-- answer fits.
pub record IsStep {P : Type 0} (program_asks : P → List Answer → Request → Type 0) (cell : CellData) (task : ℕ) (program : P) (before : List Event) (e : Event) : Type 0 where
  pub own : e.actor ≡ task
  pub asked : program_asks program (answers_in before) e.request
  pub fits : IsTrue (fits_request (fitting_in cell task before) e.request e.answer)

-- A task's own events, step by step. For a task's tree, `AreOwn` and `AreFit` of tree_typing together say what this
-- says of a program.
pub record IsCourse {P : Type 0} (program_asks : P → List Answer → Request → Type 0) (cell : CellData) (task : ℕ) (program : P) (mine : List Event) : Type 0 where
  pub at : (before after : List Event) (e : Event) → mine ≡ before ++ e ∷ after → IsStep program_asks cell task program before e

-- A program suits a task of the cell: after each course of events the answers fit the program, and the task may ask
-- what the program asks next.
pub record SuitsTask {P : Type 0} (fits : P → List Answer → Type 0) (program_asks : P → List Answer → Request → Type 0) (cell : CellData) (task : ℕ) (program : P) : Type 0 where
  pub fit : (mine : List Event) → IsCourse program_asks cell task program mine → fits program (answers_in mine)
  pub may : (mine : List Event) (request : Request) → IsCourse program_asks cell task program mine → program_asks program (answers_in mine) request
      → IsTrue (may_ask cell task mine request)

-- each program suits the task with its number
pub record SuitTasks {P : Type 0} (fits : P → List Answer → Type 0) (program_asks : P → List Answer → Request → Type 0) (cell : CellData) (programs : List P) : Type 0 where
  pub each : (task : ℕ) (program : P) → slice_get programs task ≡ Some program → SuitsTask fits program_asks cell task program
