-- The state of a cell after a history: what its persistents and its tasks' module data hold, and where each task is.
use Rattle.std.specs.Prelude.{◌≡◌, ℕ, List, length, Option, None, Some, slice_get}
use Rattle.rapid_model.specs.CellData.{CellData}
use Rattle.rapid_model.specs.Own.{answers_of}
use Rattle.rapid_model.specs.declared.answer.Answer.{Answer}
use Rattle.rapid_model.specs.declared.at.At.{At}
use Rattle.rapid_model.specs.declared.event.Event.{Event}
use Rattle.rapid_model.specs.declared.request.Request.{Request}
use Rattle.rapid_model.specs.declared.value.Value.{Value}
use Rattle.typed_trees.specs.Plain.{TypedTree}
use Rattle.typed_trees.specs.declared.datum.Datum.{Datum}
use Rattle.rapid_meaning.specs.Answering.{Outcome, Asking, Ended}
use Rattle.rapid_meaning.specs.Data.{Data}
use Rattle.rapid_meaning.specs.Runs.{state_after}
use Rattle.cell_meaning.specs.Stored.{persistents_after}

-- The state of a task: the place of the last Look that it asked, if it asked one; what it asks next, none once it has
-- ended; and the data of its modules, an array as one for each element.
pub record TaskStateData : Type 0 where
  pub place : Option At
  pub next : Option Request
  pub values : List Datum

-- the states of the tasks in script order, and the elements of each persistent
pub record CellStateData : Type 0 where
  pub tasks : List TaskStateData
  pub pers : List (List Value)

abbrev pub standing : Option Request → Data → TaskStateData
standing next d = record { place = d.place; next = next; values = d.slots }

-- the state of a task that asks, or has ended
abbrev pub state_in : {A : Type 0} → Outcome A → Option TaskStateData
state_in (Asking request d) = Some (standing (Some request) d)
state_in (Ended d) = Some (standing None d)
state_in _ = None

-- the state that the task of this tree has reached after these answers
abbrev pub reached : TypedTree → List Answer → Option TaskStateData
reached tree answers = state_in (state_after tree answers)

-- The state of a cell whose tasks have these trees, after a history: each task is where its own answers have led it, and
-- the persistents hold what was written.
pub record IsStateAfter (cell : CellData) (trees : List TypedTree) (history : List Event) (state : CellStateData) : Type 0 where
  pub one_each : length state.tasks ≡ length trees
  pub tasks : (task : ℕ) (tree : TypedTree) → slice_get trees task ≡ Some tree → slice_get state.tasks task ≡ reached tree (answers_of task history)
  pub pers : state.pers ≡ persistents_after cell history
