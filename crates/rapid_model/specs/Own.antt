-- What an actor's own events say about it.
use Rattle.std.specs.Prelude.{ℕ, Bool, true, false, not, List, [], ◌∷◌, Option, Some, None, is_some, filter, map, count_by, ◌==◌}
use Rattle.std.specs.List.{list_any}
use Rattle.std.specs.Option.{option_or}
use Rattle.rapid_model.specs.declared.answer.Answer.{Answer}
use Rattle.rapid_model.specs.declared.answer.Answer.TheVariants as answers
use Rattle.rapid_model.specs.declared.event.Event.{Event}
use Rattle.rapid_model.specs.declared.fate.Fate.{Fate}
use Rattle.rapid_model.specs.declared.request.Request.{Request}
use Rattle.rapid_model.specs.declared.request.Request.TheVariants.{Leave, Hold, Rise, Connect, End}

-- an actor's own events, in order
abbrev pub part_of : ℕ → List Event → List Event
part_of actor history = filter (λ e. e.actor == actor) history

-- the answers that an actor received, in order
abbrev pub answers_of : ℕ → List Event → List Answer
answers_of actor history = map (λ e. e.answer) (part_of actor history)

-- the fate in a request
abbrev pub fate_of : Request → Option Fate
fate_of (End fate) = Some fate
fate_of _ = None

-- the fate in the first End among some events
abbrev pub end_of : List Event → Option Fate
end_of [] = None
end_of (e ∷ es) = option_or (fate_of e.request) (end_of es)

abbrev pub has_ended : List Event → Bool
has_ended mine = is_some (end_of mine)

abbrev pub is_hold : Request → Bool
is_hold (Hold seen) = true
is_hold _ = false

abbrev pub is_rise : Request → Bool
is_rise Rise = true
is_rise _ = false

abbrev pub is_leave : Request → Bool
is_leave Leave = true
is_leave _ = false

-- the answer starts a trap
abbrev pub is_trap : Answer → Bool
is_trap (answers.Trap number trap) = true
is_trap _ = false

-- a task is held if its last event is a Hold
abbrev pub is_held : List Event → Bool
is_held [] = false
is_held (e ∷ []) = is_hold e.request
is_held (_ ∷ e ∷ es) = is_held (e ∷ es)

-- a trap is running unless as many traps have ended as started
abbrev pub is_trapped : List Event → Bool
is_trapped mine = not (count_by (λ e. is_trap e.answer) mine == count_by (λ e. is_leave e.request) mine)

abbrev pub connects_with : ℕ → Request → Bool
connects_with trap (Connect old with) = with == trap
connects_with trap _ = false

-- the task asked to connect an interrupt to the routine
abbrev pub has_connected : List Event → ℕ → Bool
has_connected mine trap = list_any (λ e. connects_with trap e.request) mine
