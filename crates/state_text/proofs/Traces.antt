-- The lines of a trace, one for each event.
use Rattle.std.proofs.Common.{◌≡◌, refl, ap, subst, ℕ, zero, suc, List, [], ◌∷◌, ◌++◌, length, Some}
use Rattle.std.specs.Prelude.{codes, slice_get, slice_index_or}
use Rattle.rapid_model.specs.declared.event.Event.{Event}
use Rattle.rapid_model.specs.declared.task_row.TaskRow.{TaskRow}
use Rattle.typed_trees.specs.Plain.{TypedTree}
use Rattle.history_text.specs.EventLines.{actor_words, event_line}
use Rattle.history_text.specs.EventWords.{answer_words, request_words}
use Rattle.cell_state.specs.Traces.{event_place}
use Rattle.state_text.specs.StateLines.{SourcesData, place_text}
use Rattle.state_text.specs.TraceLines.{no_sources, trace_from, traced_line}

module _ (tasks : List TaskRow) (trees : List TypedTree) (sources : List SourcesData) where
  pub traced_count : (before history : List Event) → length (trace_from tasks trees sources before history) ≡ length history
  traced_count before [] = refl
  traced_count before (e ∷ es) = ap suc (traced_count (before ++ e ∷ []) es)

  -- a line without its place is the event's line, but for the first letter
  abbrev IsLineOf : List ℕ → Event → Type 0
  IsLineOf line e =
      (place rest : List ℕ) × (Some line ≡ Some (codes "M " ++ (actor_words tasks e.actor ++ (32 ∷ place ++ (32 ∷ rest))))) × (event_line tasks e ≡ codes "H " ++ (actor_words tasks e.actor ++ (32 ∷ rest)))

  line_of_event : (before : List Event) (e : Event) → IsLineOf (traced_line tasks trees sources before e) e
  line_of_event before e = (
    place_text (slice_index_or sources e.actor no_sources) (event_place trees before e),
    request_words e.request ++ (codes " > " ++ (answer_words e.answer ++ codes "\n")),
    refl,
    refl,
  )

  pub traced_at : (before history : List Event) (k : ℕ) (e : Event) → slice_get history k ≡ Some e
      → (place rest : List ℕ) × (slice_get (trace_from tasks trees sources before history) k ≡ Some (codes "M " ++ (actor_words tasks e.actor ++ (32 ∷ place ++ (32 ∷ rest)))))
      × (event_line tasks e ≡ codes "H " ++ (actor_words tasks e.actor ++ (32 ∷ rest)))
  traced_at before [] k e at = cc
  traced_at before (x ∷ xs) zero e at = let same : x ≡ e = cc in subst (λ (y : Event). IsLineOf (traced_line tasks trees sources before x) y) same (line_of_event before x)
  traced_at before (x ∷ xs) (suc k) e at = traced_at (before ++ x ∷ []) xs k e at
