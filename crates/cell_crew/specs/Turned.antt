-- The outcome of one request to a core.
use Rattle.std.specs.Prelude.{◌≡◌, ◌⊎◌, ℕ, false, List, [], ◌∷◌, ◌++◌, Option, Some, None}
use Rattle.rapid_model.specs.CellData.{CellData}
use Rattle.rapid_model.specs.declared.answer.Answer.{Answer}
use Rattle.rapid_model.specs.declared.event.Event.{Event}
use Rattle.rapid_model.specs.declared.request.Request.{Request}
use Rattle.cell_meaning.specs.Answers.{is_enabled}
use Rattle.cell_meaning.specs.Asking.{Asking}
use Rattle.cell_meaning.specs.Counted.{can_be_served}
use Rattle.cell_meaning.specs.Histories.{Follows}
use Rattle.cell_core.specs.Serving.{event_of}

-- the request cannot be served after the history, or it is not enabled
abbrev pub CannotFollow : CellData → List Event → ℕ → Request → Type 0
CannotFollow cell history actor request = (can_be_served cell history request ≡ false) ⊎ (is_enabled cell history actor request ≡ false)

-- an event with the answer was added, and it may follow; or none was, and none can follow
abbrev pub CameOf : Asking → CellData → List Event → ℕ → Request → List Event → Option Answer → Type 0
CameOf asks cell before actor request after (Some answer) =
    Follows asks cell before (event_of actor request answer) × (after ≡ before ++ event_of actor request answer ∷ [])
CameOf asks cell before actor request after None = CannotFollow cell before actor request × (after ≡ before)
