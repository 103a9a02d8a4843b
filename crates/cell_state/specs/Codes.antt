-- The state of a cell whose tasks run these codes.
use Rattle.std.specs.Prelude.{◌≡◌, ℕ, ◌+◌, List, length, Some, slice_get}
use Rattle.rapid_model.specs.CellData.{CellData}
use Rattle.rapid_model.specs.Own.{answers_of}
use Rattle.rapid_model.specs.declared.answer.Answer.{Answer}
use Rattle.rapid_model.specs.declared.event.Event.{Event}
use Rattle.stack_code.specs.CodeData.{CodeData}
use Rattle.stack_code.specs.CodeRuns.{code_after}
use Rattle.cell_meaning.specs.Stored.{persistents_after}
use Rattle.cell_state.specs.States.{CellStateData, TaskStateData, state_in}

-- after these answers, within some number of operations and within any larger number, code is in this state
pub record IsReachedBy (code : CodeData) (answers : List Answer) (state : TaskStateData) : Type 0 where
  pub operations : ℕ
  pub stands : (more : ℕ) → state_in (code_after code (operations + more) answers) ≡ Some state

-- the state after a history: each code is where its task's answers have led it, and the persistents hold what was
-- written
pub record IsStateByCodes (cell : CellData) (codes : List CodeData) (history : List Event) (state : CellStateData) : Type 0 where
  pub one_each : length state.tasks ≡ length codes
  pub tasks : (task : ℕ) (code : CodeData) (here : TaskStateData) → slice_get codes task ≡ Some code → slice_get state.tasks task ≡ Some here
      → IsReachedBy code (answers_of task history) here
  pub pers : state.pers ≡ persistents_after cell history
