-- What events change, and how many changes each task sees.
use Rattle.std.specs.Prelude.{ℕ, zero, ◌+◌, Bool, false, not, ◌&&◌, ◌||◌, nat_lt, List, [], ◌∷◌, ◌++◌, length, ◌==◌, if◌then◌else◌}
use Rattle.std.specs.Cmp.Lexicographic.{pointwise}
use Rattle.rapid_model.specs.CellData.{CellData}
use Rattle.rapid_model.specs.declared.event.Event.{Event}
use Rattle.rapid_model.specs.declared.request.Request.{Request}
use Rattle.rapid_model.specs.declared.request.Request.TheVariants.{Arrive}
use Rattle.rapid_model.specs.declared.value.Value.{Value}
use Rattle.rapid_model.specs.declared.watched.Watched.{Watched}
use Rattle.rapid_model.specs.declared.watched.Watched.TheVariants as watched
use Rattle.rapid_model.specs.Truths.{same_truth}
use Rattle.rapid_values.specs.Equality.{same}
use Rattle.cell_meaning.specs.Meetings.{is_waiting}
use Rattle.cell_meaning.specs.Stored.{signals_after, persistents_after}

-- the signals, numbered from here on, with another value, each with the new one
abbrev pub changed_signals : ℕ → List Bool → List Bool → List Watched
changed_signals signal (old ∷ olds) (new ∷ news) =
    (if same_truth old new then [] else watched.Signal signal new ∷ []) ++ changed_signals (signal + 1) olds news
changed_signals signal _ _ = []

-- the persistents, numbered from here on, with another value in some part
abbrev pub changed_persistents : ℕ → List (List Value) → List (List Value) → List Watched
changed_persistents pers (old ∷ olds) (new ∷ news) =
    (if pointwise same old new then [] else watched.Pers pers ∷ []) ++ changed_persistents (pers + 1) olds news
changed_persistents pers _ _ = []

-- the signals and persistents that have another value after the event than before it
abbrev pub changes_of : CellData → List Event → Event → List Watched
changes_of cell before e =
    changed_signals 0 (signals_after cell before) (signals_after cell (before ++ e ∷ []))
    ++ changed_persistents 0 (persistents_after cell before) (persistents_after cell (before ++ e ∷ []))

-- the event is an arrival of a task that was not waiting at the meeting
abbrev pub arrives_anew : CellData → List Event → ℕ → Request → Bool
arrives_anew cell before task (Arrive meeting tasks) = not (is_waiting cell before task meeting)
arrives_anew cell before task _ = false

-- an event, after these, that changes something tasks wait for
abbrev pub is_change : CellData → List Event → Event → Bool
is_change cell before e = nat_lt 0 (length (changes_of cell before e)) || arrives_anew cell before e.actor e.request

-- how many of the later events are changes by actors other than this one
abbrev pub changes_from : CellData → ℕ → List Event → List Event → ℕ
changes_from cell actor before [] = zero
changes_from cell actor before (e ∷ es) =
    (if not (e.actor == actor) && is_change cell before e then 1 else 0) + changes_from cell actor (before ++ e ∷ []) es

-- how many changes actors other than this one made
abbrev pub changes_by_others : CellData → List Event → ℕ → ℕ
changes_by_others cell history actor = changes_from cell actor [] history
