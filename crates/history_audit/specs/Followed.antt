-- The outcome of doing one event again.
use Rattle.std.specs.Prelude.{◌≡◌, List, [], ◌∷◌, ◌++◌, Option, Some, None}
use Rattle.rapid_model.specs.CellData.{CellData}
use Rattle.rapid_model.specs.declared.event.Event.{Event}
use Rattle.cell_meaning.specs.Asking.{Asking}
use Rattle.cell_meaning.specs.Histories.{IsLegal}
use Rattle.history_audit.specs.Wrongs.{IsWrong}
use Rattle.history_audit.specs.declared.wrong.Wrong.{Wrong}

-- the event is added to a history, which stays legal; or it is wrong
abbrev pub Followed : Asking → CellData → List Event → Event → List Event → Option Wrong → Type 0
Followed asks cell before e after None = IsLegal asks cell after × (after ≡ before ++ e ∷ [])
Followed asks cell before e after (Some wrong) = IsWrong asks cell before e wrong
