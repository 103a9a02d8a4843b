-- At which place each event of a history is asked.
use Rattle.std.specs.Prelude.{◌≡◌, List, Option, None, Some, slice_get}
use Rattle.std.specs.Option.{option_and_then}
use Rattle.rapid_model.specs.Own.{answers_of}
use Rattle.rapid_model.specs.declared.answer.Answer.{Answer}
use Rattle.rapid_model.specs.declared.at.At.{At}
use Rattle.rapid_model.specs.declared.event.Event.{Event}
use Rattle.typed_trees.specs.Plain.{TypedTree}
use Rattle.stack_code.specs.CodeData.{CodeData}
use Rattle.cell_state.specs.Codes.{IsReachedBy}
use Rattle.cell_state.specs.States.{TaskStateData, reached}

-- the place of the last Look that the task of this tree asked after these answers: while a Look is due, its own
abbrev pub place_after : TypedTree → List Answer → Option At
place_after tree answers = option_and_then (λ state. state.place) (reached tree answers)

-- The place at which an event is asked, which comes after these: that of its task after the task's answers so far. The
-- input script has none.
abbrev pub event_place : List TypedTree → List Event → Event → Option At
event_place trees before e = option_and_then (λ tree. place_after tree (answers_of e.actor before)) (slice_get trees e.actor)

-- the same of the code of a task, if there is one
abbrev pub IsPlaceBy : Option CodeData → List Answer → Option At → Type 0
IsPlaceBy None answers place = place ≡ None
IsPlaceBy (Some code) answers place = (state : TaskStateData) × IsReachedBy code answers state × (place ≡ state.place)

-- and of an event, if the tasks run these codes
abbrev pub IsAskedAt : List CodeData → List Event → Event → Option At → Type 0
IsAskedAt codes before e place = IsPlaceBy (slice_get codes e.actor) (answers_of e.actor before) place
