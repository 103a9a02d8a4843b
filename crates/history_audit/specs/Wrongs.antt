-- Why an event cannot come next.
use Rattle.std.specs.Prelude.{◌≡◌, ◌≢◌, ◌<◌, ◌≤◌, ◌⊎◌, ℕ, false, IsTrue, List, [], ◌∷◌, ◌++◌, length}
use Rattle.rapid_model.specs.CellData.{CellData}
use Rattle.rapid_model.specs.Own.{part_of, answers_of, has_ended}
use Rattle.rapid_model.specs.declared.event.Event.{Event}
use Rattle.cell_meaning.specs.Answers.{is_enabled, IsAnswer}
use Rattle.cell_meaning.specs.Asking.{Asking}
use Rattle.cell_meaning.specs.Counted.{can_be_served}
use Rattle.cell_meaning.specs.Histories.{IsLegal}
use Rattle.cell_meaning.specs.Inputs.{inputs_done}
use Rattle.history_audit.specs.declared.wrong.Wrong.{Wrong}
use Rattle.history_audit.specs.declared.wrong.Wrong.TheVariants.{Ended, Asks, Waits, Spent, Answers}

-- the task has ended, or the input script, whose number follows the tasks', has no step left
abbrev pub IsDone : CellData → List Event → ℕ → Type 0
IsDone cell before actor =
    ((actor < length cell.tasks) × IsTrue (has_ended (part_of actor before)))
    ⊎ ((actor ≡ length cell.tasks) × (length cell.inputs ≤ inputs_done cell before))

-- the event's actor asks its request
abbrev pub IsAsked : Asking → List Event → Event → Type 0
IsAsked asks before e = asks e.actor (answers_of e.actor before) e.request

-- The first cause for which an event cannot follow those before it: its actor is done; it asks another request; the
-- steps are used up; the request is not enabled; the cell has another answer.
abbrev pub IsCause : Asking → CellData → List Event → Event → Wrong → Type 0
IsCause asks cell before e Ended = IsDone cell before e.actor
IsCause asks cell before e (Asks request) = asks e.actor (answers_of e.actor before) request × (e.request ≢ request)
IsCause asks cell before e Spent = IsAsked asks before e × (can_be_served cell before e.request ≡ false)
IsCause asks cell before e Waits =
    IsAsked asks before e × IsTrue (can_be_served cell before e.request) × (is_enabled cell before e.actor e.request ≡ false)
IsCause asks cell before e (Answers answer) =
    IsAsked asks before e × IsTrue (can_be_served cell before e.request) × IsTrue (is_enabled cell before e.actor e.request)
    × IsAnswer cell before e.actor e.request answer × (e.answer ≢ answer)

-- the events are not legal with this one after them, for this cause
pub record IsWrong (asks : Asking) (cell : CellData) (before : List Event) (e : Event) (wrong : Wrong) : Type 0 where
  pub not_next : ¬ IsLegal asks cell (before ++ e ∷ [])
  pub cause : IsCause asks cell before e wrong
