-- Zones that set outputs on worked examples: the first output is set while axis 1 of task A is from 0.5 to 1.5 degrees, the
-- second while it is from -0.5 to 0.5 degrees.
use Rattle.std.proofs.Common.{◌≡◌, true, false, List, [], ◌∷◌, ◌++◌, refl, Some, None, replicate}
use Rattle.std.specs.Prelude.{codes, neg_ℤ, pos}
use Rattle.rapid_num.specs.declared.shape.Shape.{Shape}
use Rattle.rapid_model.specs.CellData.{CellData}
use Rattle.rapid_model.specs.declared.answer.Answer.{Answer}
use Rattle.rapid_model.specs.declared.answer.Answer.TheVariants as answers
use Rattle.rapid_model.specs.declared.event.Event.{Event}
use Rattle.rapid_model.specs.declared.fate.Fate.TheVariants as fates
use Rattle.rapid_model.specs.declared.request.Request.{Request}
use Rattle.rapid_model.specs.declared.request.Request.TheVariants as requests
use Rattle.rapid_model.specs.declared.watched.Watched.TheVariants as watched
use Rattle.rapid_model.specs.declared.zone_name.ZoneName.TheVariants as names
use Rattle.world_zones.specs.Touched.{supervised}
use Rattle.cell_meaning.specs.Answers.{answer_after}
use Rattle.cell_meaning.specs.Changes.{changes_of}
use Rattle.cell_meaning.specs.Stored.{signal_after, signals_after}
use Rattle.cell_meaning.specs.Zones.{zones_after}
use Rattle.cell_meaning.proofs.ExampleCell.{cell, went}
use Rattle.cell_meaning.proofs.MoreEvents.{event}

abbrev doors : CellData
doors = record cell { signals = record { name = codes "do1"; output = true; start = false } ∷ record { name = codes "do2"; output = true; start = false } ∷ []; inputs = [] }

abbrev near_one : Shape
near_one = record { inside = true; bounds = Some (record { low = pos 500; high = pos 1500 }) ∷ replicate 11 None }

abbrev near_zero : Shape
near_zero = record { inside = true; bounds = Some (record { low = neg_ℤ (pos 500); high = pos 500 }) ∷ replicate 11 None }

abbrev tied_one : Event
tied_one = event 0 (requests.ZoneTie 0 true near_one 0 true) (answers.Number 1)

abbrev tied_zero : Event
tied_zero = event 0 (requests.ZoneTie 0 true near_zero 1 true) (answers.Number 2)

abbrev tied : List Event
tied = tied_one ∷ tied_zero ∷ []

abbrev off : Event
off = event 0 (requests.ZoneOff 1) answers.Ok

abbrev to_b : List Event → Request → Answer
to_b history request = answer_after doors history 1 request

-- the arm lies in the second zone, whose output is set at once
not_set : signal_after doors tied 0 ≡ false
not_set = refl

set_at_once : signal_after doors tied 1 ≡ true
set_at_once = refl

-- one setpoint sets both, and that is one change
both_set : changes_of doors tied went ≡ watched.Signal 0 true ∷ watched.Signal 1 false ∷ []
both_set = refl

one_change : to_b (tied ++ went ∷ []) requests.Look ≡ answers.Go 2
one_change = refl

-- a zone that is off sets nothing; switched on again, it sets its output
stays_off : signal_after doors (tied ++ off ∷ went ∷ []) 0 ≡ false
stays_off = refl

set_again : signal_after doors (tied ++ off ∷ went ∷ event 0 (requests.ZoneOn 1) answers.Ok ∷ []) 0 ≡ true
set_again = refl

-- it does not stop the arm
never_stops : supervised (zones_after doors tied) 0 (signals_after doors tied) (names.Own 1) ≡ None
never_stops = refl

-- its output is tied for all tasks, whether the zone is on or off, and after its task ends
not_written : to_b tied (requests.WriteS 0 true) ≡ answers.Tied
not_written = refl

nor_by_its_own : answer_after doors tied 0 (requests.WriteS 0 true) ≡ answers.Tied
nor_by_its_own = refl

nor_while_off : to_b (tied ++ off ∷ []) (requests.WriteS 0 true) ≡ answers.Tied
nor_while_off = refl

nor_after_its_end : to_b (tied ++ event 0 (requests.End fates.Done) answers.Ok ∷ []) (requests.WriteS 0 true) ≡ answers.Tied
nor_after_its_end = refl

not_tied_twice : to_b tied (requests.ZoneTie 0 true near_one 0 false) ≡ answers.Tied
not_tied_twice = refl

-- until the zone is freed
freed : to_b (tied ++ event 0 (requests.ZoneFree 1) answers.Ok ∷ []) (requests.WriteS 0 true) ≡ answers.Ok
freed = refl

-- a zone that is freed or switched off leaves its output, in the arm's zone or out of it
freed_leaves : signals_after doors (tied ++ event 0 (requests.ZoneFree 2) answers.Ok ∷ event 0 (requests.ZoneFree 1) answers.Ok ∷ []) ≡ false ∷ true ∷ []
freed_leaves = refl

moved_and_freed : signals_after doors (tied ++ went ∷ event 0 (requests.ZoneFree 1) answers.Ok ∷ event 0 (requests.ZoneFree 2) answers.Ok ∷ []) ≡ true ∷ false ∷ []
moved_and_freed = refl

off_leaves : signals_after doors (tied ++ went ∷ off ∷ []) ≡ true ∷ false ∷ []
off_leaves = refl

-- an output that a task wrote keeps its value while other outputs are set by zones and moves
written_stays : signals_after doors (event 1 (requests.WriteS 1 true) answers.Ok ∷ tied_one ∷ went ∷ event 0 (requests.ZoneFree 1) answers.Ok ∷ []) ≡ true ∷ true ∷ []
written_stays = refl
