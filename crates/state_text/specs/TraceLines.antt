-- The lines of a traced run. Each ends with 0A.
use Rattle.std.specs.Prelude.{ℕ, List, [], ◌∷◌, ◌++◌, Option, codes, slice_index_or}
use Rattle.rapid_model.specs.declared.at.At.{At}
use Rattle.rapid_model.specs.declared.event.Event.{Event}
use Rattle.rapid_model.specs.declared.task_row.TaskRow.{TaskRow}
use Rattle.typed_trees.specs.Plain.{TypedTree}
use Rattle.history_text.specs.EventLines.{actor_words}
use Rattle.history_text.specs.EventWords.{answer_words, request_words}
use Rattle.cell_state.specs.Traces.{event_place}
use Rattle.state_text.specs.StateLines.{SourcesData, place_text}

-- the modules of an actor that is no task
abbrev pub no_sources : SourcesData
no_sources = record { files = []; texts = [] }

-- M, who asks, the place, what is asked, and the answer
abbrev pub trace_line : List TaskRow → SourcesData → Option At → Event → List ℕ
trace_line tasks sources place e =
    codes "M " ++ (actor_words tasks e.actor ++ (32 ∷ place_text sources place
    ++ (32 ∷ request_words e.request ++ (codes " > " ++ (answer_words e.answer ++ codes "\n")))))

-- the line of an event that comes after these
abbrev pub traced_line : List TaskRow → List TypedTree → List SourcesData → List Event → Event → List ℕ
traced_line tasks trees sources before e = trace_line tasks (slice_index_or sources e.actor no_sources) (event_place trees before e) e

-- the lines of the second events, which come after the first
abbrev pub trace_from : List TaskRow → List TypedTree → List SourcesData → List Event → List Event → List (List ℕ)
trace_from tasks trees sources before [] = []
trace_from tasks trees sources before (e ∷ es) = traced_line tasks trees sources before e ∷ trace_from tasks trees sources (before ++ e ∷ []) es

-- what `trace` prints of the events
abbrev pub trace_lines : List TaskRow → List TypedTree → List SourcesData → List Event → List (List ℕ)
trace_lines tasks trees sources history = trace_from tasks trees sources [] history
