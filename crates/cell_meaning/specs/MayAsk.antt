-- Which actors may ask what of a cell.
use Rattle.std.specs.Prelude.{ℕ, Bool, List}
use Rattle.rapid_model.specs.CellData.{CellData}
use Rattle.rapid_model.specs.Requests.{suits_actor}
use Rattle.rapid_model.specs.declared.event.Event.{Event}
use Rattle.rapid_model.specs.declared.request.Request.{Request}

-- the actor, with its own events so far, may make this request; a cell offers every request
abbrev pub may_ask : CellData → ℕ → List Event → Request → Bool
may_ask cell actor mine request = suits_actor cell actor mine request
