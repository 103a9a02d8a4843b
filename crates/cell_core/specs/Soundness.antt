-- What holds of every history of a core.
use Rattle.std.specs.Prelude.{◌≡◌, List, ◌∷◌, ◌++◌, IsTrue}
use Rattle.rapid_model.specs.CellData.{CellData}
use Rattle.rapid_model.specs.Own.{part_of}
use Rattle.rapid_model.specs.declared.event.Event.{Event}
use Rattle.cell_meaning.specs.Answers.{is_enabled, IsAnswer}
use Rattle.cell_meaning.specs.Counted.{can_be_served}
use Rattle.cell_meaning.specs.Histories.{is_fit}
use Rattle.cell_meaning.specs.MayAsk.{may_ask}

-- the actor was allowed to ask the event's request, which was enabled and could be served, and it got the cell's
-- answer, which fits
pub record IsServed (cell : CellData) (before : List Event) (e : Event) : Type 0 where
  pub asked : IsTrue (may_ask cell e.actor (part_of e.actor before) e.request)
  pub enabled : IsTrue (is_enabled cell before e.actor e.request)
  pub served : IsTrue (can_be_served cell before e.request)
  pub answered : IsAnswer cell before e.actor e.request e.answer
  pub fits : IsTrue (is_fit cell before e)

-- each event was served after those before it
pub record IsSound (cell : CellData) (history : List Event) : Type 0 where
  pub at : (before after : List Event) (e : Event) → history ≡ before ++ e ∷ after → IsServed cell before e
