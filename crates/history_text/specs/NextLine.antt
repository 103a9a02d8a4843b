-- How a history goes on at the start of a text. These definitions are internal to proofs.
use Rattle.std.specs.Prelude.{◌≡◌, ℕ, ◌+◌, ◌≤◌, Bool, not, IsTrue, List, [], ◌∷◌, ◌++◌, length, Option, Some, None, slice_get, ◌==◌}
use Rattle.std.specs.List.{list_all}
use Rattle.rapid_model.specs.declared.event.Event.{Event}
use Rattle.rapid_model.specs.declared.fate.Fate.{Fate}
use Rattle.rapid_model.specs.declared.task_row.TaskRow.{TaskRow}
use Rattle.history_text.specs.EventLines.{event_line}
use Rattle.history_text.specs.HistoryText.{IsHistory, history_lines, lines_in}
use Rattle.history_text.specs.InRange.{IsEvent, IsFate}
use Rattle.history_text.specs.Lines.{fate_line}
use Rattle.history_text.specs.Named.{NamesData, event_fits}

-- no byte ends a line
abbrev pub is_inner : List ℕ → Bool
is_inner bytes = list_all (λ b. not (b == 10)) bytes

-- the line of an event that fits, and what follows it
pub record BeginsEvent (names : NamesData) (text : List ℕ) (e : Event) (more : List ℕ) : Type 0 where
  pub range : IsEvent e
  pub fits : IsTrue (event_fits names e)
  pub same : text ≡ event_line names.tasks e ++ more

-- the line of the fate of a task, and what follows it
pub record BeginsFate (names : NamesData) (task : ℕ) (text : List ℕ) (fate : Fate) (more : List ℕ) : Type 0 where
  pub row : TaskRow
  pub there : slice_get names.tasks task ≡ Some row
  pub range : IsFate fate
  pub same : text ≡ fate_line row.name fate ++ more

-- no event comes there after this many fates: events come before the first one
abbrev pub BeginsNoEvent : NamesData → ℕ → List ℕ → Type 0
BeginsNoEvent names done text = done ≡ 0 → (e : Event) (more : List ℕ) → BeginsEvent names text e more → ⊥

abbrev pub BeginsNoFate : NamesData → ℕ → List ℕ → Type 0
BeginsNoFate names done text = (fate : Fate) (more : List ℕ) → BeginsFate names done text fate more → ⊥

-- an event comes before the first fate, and is appended to those so far
pub record AddsEvent (names : NamesData) (done : ℕ) (text : List ℕ) (so_far events : List Event) (more : List ℕ) : Type 0 where
  pub first : done ≡ 0
  pub event : Event
  pub begins : BeginsEvent names text event more
  pub added : events ≡ so_far ++ event ∷ []

-- what becomes of the events so far: one more, and the text after it; or none comes there
abbrev pub ReadsEvent : NamesData → ℕ → List ℕ → List Event → List Event → Option (List ℕ) → Type 0
ReadsEvent names done text so_far events None = (events ≡ so_far) × BeginsNoEvent names done text
ReadsEvent names done text so_far events (Some more) = AddsEvent names done text so_far events more

-- this many lines of a text are those of a history; the rest is still to be read
pub record HasCome (names : NamesData) (text rest : List ℕ) (number : ℕ) (events : List Event) (fates : List Fate) : Type 0 where
  pub history : IsHistory names events fates
  pub lines : lines_in text ≡ history_lines names events fates ++ lines_in rest
  pub count : number ≡ length (history_lines names events fates)
  pub short : number + length rest ≤ length text
