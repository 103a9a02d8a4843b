-- The line that each event has in a history. Each ends with 0A.
use Rattle.std.specs.Prelude.{ℕ, List, ◌∷◌, ◌++◌, Option, Some, None, codes, slice_get}
use Rattle.rapid_model.specs.declared.event.Event.{Event}
use Rattle.rapid_model.specs.declared.task_row.TaskRow.{TaskRow}
use Rattle.history_text.specs.EventWords.{request_words, answer_words}

-- the name of a task, or - for the input script, whose number follows those of the tasks
abbrev pub actor_words : List TaskRow → ℕ → List ℕ
actor_words tasks actor = named (slice_get tasks actor)
  where
    named : Option TaskRow → List ℕ
    named (Some row) = row.name
    named None = codes "-"

-- H, who asks, what is asked, and the answer
abbrev pub event_line : List TaskRow → Event → List ℕ
event_line tasks e =
    codes "H " ++ (actor_words tasks e.actor ++ (32 ∷ request_words e.request ++ (codes " > " ++ (answer_words e.answer ++ codes "\n"))))
