-- What the laws on complete histories require of those who ask.
use Rattle.std.specs.Prelude.{◌≡◌, ◌↔◌, ℕ, ◌<◌, ◌≤◌, false, List, ◌∷◌, ◌++◌, length, IsTrue}
use Rattle.std.specs.List.{list_all}
use Rattle.rapid_model.specs.CellData.{CellData}
use Rattle.rapid_model.specs.Lengths.{is_full}
use Rattle.rapid_model.specs.Own.{part_of, answers_of, has_ended}
use Rattle.rapid_model.specs.declared.answer.Answer.{Answer}
use Rattle.rapid_model.specs.declared.event.Event.{Event}
use Rattle.rapid_model.specs.declared.request.Request.{Request}
use Rattle.rapid_model.specs.declared.request.Request.TheVariants.{Input}
use Rattle.cell_meaning.specs.Answers.{IsAnswer}
use Rattle.cell_meaning.specs.Asking.{Asking, with_inputs}
use Rattle.cell_meaning.specs.Histories.{IsLegal}
use Rattle.cell_meaning.specs.MayAsk.{may_ask}

-- only tasks of the cell and its input script ask; the script's number follows the tasks'
pub record OnlyActorsAsk (asks : Asking) (cell : CellData) : Type 0 where
  pub within : (actor : ℕ) (answers : List Answer) (request : Request) → asks actor answers request → actor ≤ length cell.tasks

-- after given answers an actor makes at most one request
pub record AsksOne (asks : Asking) : Type 0 where
  pub one : (actor : ℕ) (answers : List Answer) (r r' : Request) → asks actor answers r → asks actor answers r' → r ≡ r'

-- after what the cell answered so far, an actor makes only requests that it may
pub record AsksWhatItMay (asks : Asking) (cell : CellData) : Type 0 where
  pub may : (history : List Event) (actor : ℕ) (request : Request) → IsLegal asks cell history → asks actor (answers_of actor history) request
      → IsTrue (may_ask cell actor (part_of actor history) request)

-- after what the cell answered so far, a task that has not ended makes a request
pub record AsksUntilItsEnd (asks : Asking) (cell : CellData) : Type 0 where
  pub goes_on : (history : List Event) (task : ℕ) → task < length cell.tasks → IsLegal asks cell history → has_ended (part_of task history) ≡ false
      → (request : Request) × asks task (answers_of task history) request

-- each actor may ask what it asked, and got the cell's answer
pub record AllAnswered (cell : CellData) (history : List Event) : Type 0 where
  pub might : (before after : List Event) (e : Event) → history ≡ before ++ e ∷ after → IsTrue (may_ask cell e.actor (part_of e.actor before) e.request)
  pub answered : (before after : List Event) (e : Event) → history ≡ before ++ e ∷ after → IsAnswer cell before e.actor e.request e.answer

-- the persistents' first values are as long as their types say, as all values in a program are
pub record StartsFull (cell : CellData) : Type 0 where
  pub full : IsTrue (list_all (λ row. list_all is_full row.first) cell.pers)

-- each asks exactly what the other asks
pub record AskTheSame (asks other : Asking) : Type 0 where
  pub same : (actor : ℕ) (answers : List Answer) (request : Request) → asks actor answers request ↔ other actor answers request

-- the input script asks its steps in order while one is left
pub record AsksInputs (asks : Asking) (cell : CellData) : Type 0 where
  pub next : (answers : List Answer) → length answers < length cell.inputs → asks (length cell.tasks) answers (Input (length answers))

-- besides the input script, each task makes only requests that it may, and makes one until its end
pub record TasksAskWell (asks : Asking) (cell : CellData) : Type 0 where
  pub may : (history : List Event) (task : ℕ) (request : Request) → task < length cell.tasks → IsLegal (with_inputs asks cell) cell history → asks task (answers_of task history) request
      → IsTrue (may_ask cell task (part_of task history) request)
  pub goes_on : (history : List Event) (task : ℕ) → task < length cell.tasks → IsLegal (with_inputs asks cell) cell history → has_ended (part_of task history) ≡ false
      → (request : Request) × asks task (answers_of task history) request
