-- Histories: lists of events, oldest first.
use Rattle.std.specs.Prelude.{◌≡◌, Bool, List, ◌∷◌, ◌++◌, IsTrue}
use Rattle.rapid_model.specs.CellData.{CellData}
use Rattle.rapid_model.specs.Fits.{fits_request, fitting_in}
use Rattle.rapid_model.specs.Own.{part_of, answers_of}
use Rattle.rapid_model.specs.declared.event.Event.{Event}
use Rattle.cell_meaning.specs.Answers.{is_enabled, IsAnswer}
use Rattle.cell_meaning.specs.Asking.{Asking}
use Rattle.cell_meaning.specs.Counted.{can_be_served}

-- the event may come next: its actor asks it, it is enabled, it can be served, and its answer is the cell's
pub record Follows (asks : Asking) (cell : CellData) (before : List Event) (e : Event) : Type 0 where
  pub asked : asks e.actor (answers_of e.actor before) e.request
  pub enabled : IsTrue (is_enabled cell before e.actor e.request)
  pub served : IsTrue (can_be_served cell before e.request)
  pub answered : IsAnswer cell before e.actor e.request e.answer

-- the answer of an event after these fits its request
abbrev pub is_fit : CellData → List Event → Event → Bool
is_fit cell before e = fits_request (fitting_in cell e.actor (part_of e.actor before)) e.request e.answer

-- each event follows from those before it, and its answer fits
pub record IsLegal (asks : Asking) (cell : CellData) (history : List Event) : Type 0 where
  pub at : (before after : List Event) (e : Event) → history ≡ before ++ e ∷ after → Follows asks cell before e
  pub fits : (before after : List Event) (e : Event) → history ≡ before ++ e ∷ after → IsTrue (is_fit cell before e)

-- no event follows: every task has ended or can never go on, or the steps are used up
pub record IsWhole (asks : Asking) (cell : CellData) (history : List Event) : Type 0 where
  pub over : (e : Event) → Follows asks cell history e → ⊥
