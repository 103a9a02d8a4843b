-- A task's own events: what it asks, each request with the answer that it gets.
use Rattle.std.specs.Prelude.{◌≡◌, ℕ, List, [], ◌∷◌, ◌++◌, map, IsTrue}
use Rattle.rapid_model.specs.CellData.{CellData}
use Rattle.rapid_model.specs.Fits.{fitting_in, fits_request}
use Rattle.rapid_model.specs.declared.answer.Answer.{Answer}
use Rattle.rapid_model.specs.declared.event.Event.{Event}
use Rattle.typed_trees.specs.Plain.{TypedTree}
use Rattle.rapid_meaning.specs.Runs.{Next, asks, asked_after}

-- the event of the task with this number: its pending request with the answer; none if no request is pending
abbrev pub event_of : ℕ → Next → Answer → List Event
event_of actor (asks request) a = record { actor = actor; request = request; answer = a } ∷ []
event_of actor next a = []

-- the events of these answers, after the answers before them
abbrev pub events_behind : ℕ → TypedTree → List Answer → List Answer → List Event
events_behind actor tree before [] = []
events_behind actor tree before (a ∷ more) = event_of actor (asked_after tree before) a ++ events_behind actor tree (before ++ a ∷ []) more

-- all events of the task with this number, for these answers
abbrev pub own_events : ℕ → TypedTree → List Answer → List Event
own_events actor tree answers = events_behind actor tree [] answers

-- these are the task's own events: each is the task's, and has the request that is pending after the answers before it
pub record AreOwn (actor : ℕ) (tree : TypedTree) (mine : List Event) : Type 0 where
  pub its : (before after : List Event) (e : Event) → mine ≡ before ++ e ∷ after → e.actor ≡ actor
  pub due : (before after : List Event) (e : Event) → mine ≡ before ++ e ∷ after → asked_after tree (map (λ (x : Event). x.answer) before) ≡ asks e.request

-- each answer fits its request, by the cell, the task's number and the events before it
pub record AreFit (cell : CellData) (task : ℕ) (mine : List Event) : Type 0 where
  pub at : (before after : List Event) (e : Event) → mine ≡ before ++ e ∷ after → IsTrue (fits_request (fitting_in cell task before) e.request e.answer)
