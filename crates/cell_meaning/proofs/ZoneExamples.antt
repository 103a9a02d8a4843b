-- Zones on worked examples.
use Rattle.std.proofs.Common.{◌≡◌, true, false, List, [], ◌∷◌, refl, Option, Some, None, replicate}
use Rattle.rapid_num.specs.declared.shape.Shape.{Shape}
use Rattle.rapid_model.specs.declared.answer.Answer.{Answer}
use Rattle.rapid_model.specs.declared.answer.Answer.TheVariants as answers
use Rattle.rapid_model.specs.declared.event.Event.{Event}
use Rattle.rapid_model.specs.declared.request.Request.{Request}
use Rattle.rapid_model.specs.declared.request.Request.TheVariants as requests
use Rattle.rapid_model.specs.declared.zone_name.ZoneName.TheVariants as names
use Rattle.world_zones.specs.Touched.{supervised}
use Rattle.cell_meaning.specs.Answers.{answer_after}
use Rattle.cell_meaning.specs.Stored.{signals_after}
use Rattle.cell_meaning.specs.Zones.{zones_after}
use Rattle.cell_meaning.proofs.ExampleCell.{cell}
use Rattle.cell_meaning.proofs.MoreEvents.{event}

abbrev to_a : List Event → Request → Answer
to_a history request = answer_after cell history 0 request

-- whether the first zone of task A watches its arm
abbrev watching : List Event → Option Shape
watching history = supervised (zones_after cell history) 0 (signals_after cell history) (names.Own 1)

-- the bounds of axis 1 to 6 do not matter here
abbrev shape : Shape
shape = record { inside = true; bounds = replicate 12 None }

abbrev temporary : Event
temporary = event 0 (requests.ZoneSet 0 true shape) (answers.Number 1)

abbrev stationary : Event
stationary = event 0 (requests.ZoneSet 0 false shape) (answers.Number 1)

abbrev off : Event
off = event 0 (requests.ZoneOff 1) answers.Ok

first_number : to_a [] (requests.ZoneSet 0 true shape) ≡ answers.Number 1
first_number = refl

used : to_a (temporary ∷ []) (requests.ZoneSet 1 true shape) ≡ answers.ZoneUsed
used = refl

freed : to_a (temporary ∷ event 0 (requests.ZoneFree 1) answers.Ok ∷ []) (requests.ZoneSet 1 true shape) ≡ answers.Number 1
freed = refl

-- each arm has its own zones
not_of_b : answer_after cell (temporary ∷ []) 1 (requests.ZoneSet 1 true shape) ≡ answers.Number 1
not_of_b = refl

watches : watching (temporary ∷ []) ≡ Some shape
watches = refl

switched_off : watching (temporary ∷ off ∷ []) ≡ None
switched_off = refl

switched_on : watching (temporary ∷ off ∷ event 0 (requests.ZoneOn 1) answers.Ok ∷ []) ≡ Some shape
switched_on = refl

-- a stationary zone is not switched
stays : to_a (stationary ∷ []) (requests.ZoneOff 1) ≡ answers.NoZone
stays = refl

none_there : to_a [] (requests.ZoneFree 1) ≡ answers.NoZone
none_there = refl
