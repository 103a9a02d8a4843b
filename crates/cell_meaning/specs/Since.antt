-- What has held since an event, from the events of a history alone, whatever the boards keep.
use Rattle.std.specs.Prelude.{◌≡◌, ℕ, List, ◌∷◌, ◌++◌}
use Rattle.rapid_model.specs.declared.answer.Answer.{Answer}
use Rattle.rapid_model.specs.declared.event.Event.{Event}
use Rattle.rapid_model.specs.declared.request.Request.{Request}

-- An event that no later one undid. What begins and what undoes may depend on the events before.
pub record Since (Is Undoes : List Event → Event → Type 0) (history : List Event) : Type 0 where
  pub before : List Event
  pub event : Event
  pub after : List Event
  pub cut : history ≡ before ++ event ∷ after
  pub is : Is before event
  pub kept : (first later : List Event) (e : Event) → after ≡ first ++ e ∷ later → ¬ Undoes (before ++ event ∷ first) e

-- a request of this task, with its answer
abbrev pub IsEvent : ℕ → Request → Answer → Event → Type 0
IsEvent task request answer e = e ≡ record { actor = task; request = request; answer = answer }
