-- How a request is served, and how that extends the history.
use Rattle.std.specs.Prelude.{◌≡◌, ℕ, false, List, [], ◌∷◌, ◌++◌, IsTrue}
use Rattle.rapid_model.specs.CellData.{CellData}
use Rattle.rapid_model.specs.declared.answer.Answer.{Answer}
use Rattle.rapid_model.specs.declared.event.Event.{Event}
use Rattle.rapid_model.specs.declared.request.Request.{Request}
use Rattle.cell_meaning.specs.Answers.{is_enabled, IsAnswer}
use Rattle.cell_meaning.specs.Counted.{can_be_served}
use Rattle.cell_core.specs.declared.served.Served.{Served}
use Rattle.cell_core.specs.declared.served.Served.TheVariants.{Answered, Spent, NotYet}

-- it can be served and is enabled, and gets the cell's answer
pub record IsAnswered (cell : CellData) (history : List Event) (actor : ℕ) (request : Request) (answer : Answer) : Type 0 where
  pub served : IsTrue (can_be_served cell history request)
  pub enabled : IsTrue (is_enabled cell history actor request)
  pub answered : IsAnswer cell history actor request answer

-- it could be served, but is not enabled
pub record IsNotYet (cell : CellData) (history : List Event) (actor : ℕ) (request : Request) : Type 0 where
  pub served : IsTrue (can_be_served cell history request)
  pub not_enabled : is_enabled cell history actor request ≡ false

-- Spent if it is counted and the steps are spent; otherwise NotYet if it is not enabled; otherwise the cell's answer
abbrev pub Serves : CellData → List Event → ℕ → Request → Served → Type 0
Serves cell history actor request (Answered answer) = IsAnswered cell history actor request answer
Serves cell history actor request Spent = can_be_served cell history request ≡ false
Serves cell history actor request NotYet = IsNotYet cell history actor request

-- it holds of the answer, if there is one
abbrev pub IfAnswered : Served → (Answer → Type 0) → Type 0
IfAnswered (Answered answer) P = P answer
IfAnswered Spent P = Unit {0}
IfAnswered NotYet P = Unit {0}

abbrev pub event_of : ℕ → Request → Answer → Event
event_of actor request answer = record { actor = actor; request = request; answer = answer }

-- an answered request is the next event; otherwise nothing changes
abbrev pub history_with : List Event → ℕ → Request → Served → List Event
history_with history actor request (Answered answer) = history ++ event_of actor request answer ∷ []
history_with history actor request Spent = history
history_with history actor request NotYet = history
