-- Which texts are a history, and at which line a text stops being one.
use Rattle.std.specs.Prelude.{◌≡◌, ℕ, ◌-◌, ◌≤◌, IsTrue, List, [], ◌∷◌, ◌++◌, length, map, take, slice_get, Some, ◌==◌, if◌then◌else◌}
use Rattle.std.specs.List.{AllByRecursion, concat}
use Rattle.rapid_model.specs.Names.{is_short_name}
use Rattle.rapid_model.specs.declared.event.Event.{Event}
use Rattle.rapid_model.specs.declared.fate.Fate.{Fate}
use Rattle.rapid_model.specs.declared.task_row.TaskRow.{TaskRow}
use Rattle.history_text.specs.Lines.{fate_lines}
use Rattle.history_text.specs.EventLines.{event_line}
use Rattle.history_text.specs.Named.{NamesData, event_fits}
use Rattle.history_text.specs.InRange.{IsEvent, IsFate}

-- the tasks have names, and no two have the same one
pub record AreNamed (tasks : List TaskRow) : Type 0 where
  pub form : AllByRecursion (λ row. IsTrue (is_short_name row.name)) tasks
  pub apart : (i j : ℕ) (row other : TaskRow) → slice_get tasks i ≡ Some row → slice_get tasks j ≡ Some other → row.name ≡ other.name → i ≡ j

-- the byte belongs to the first of the lines
abbrev pub onto_first : ℕ → List (List ℕ) → List (List ℕ)
onto_first b [] = (b ∷ []) ∷ []
onto_first b (line ∷ lines) = (b ∷ line) ∷ lines

-- the lines of a text: each ends with an 0A, which the last one may lack
abbrev pub lines_in : List ℕ → List (List ℕ)
lines_in [] = []
lines_in (b ∷ bs) = if b == 10 then (b ∷ []) ∷ lines_in bs else onto_first b (lines_in bs)

-- the lines of some events, and then those of the fates of the first tasks
abbrev pub history_lines : NamesData → List Event → List Fate → List (List ℕ)
history_lines names events fates = map (event_line names.tasks) events ++ fate_lines names.tasks fates

-- Events that fit the names, and fates of the first tasks. No two such histories have the same lines: nums are read
-- back from their shortest form, a part that fits has a name, the type of a path determines how a value is read, and the
-- axes that are not written are those that the arm does not have.
pub record IsHistory (names : NamesData) (history : List Event) (ends : List Fate) : Type 0 where
  pub events : AllByRecursion (λ e. IsEvent e × IsTrue (event_fits names e)) history
  pub fates : AllByRecursion IsFate ends
  pub few : length ends ≤ length names.tasks

-- the text is a history: the lines of its events, and then those of its fates
pub record Spells (names : NamesData) (bytes : List ℕ) (events : List Event) (fates : List Fate) : Type 0 where
  pub history : IsHistory names events fates
  pub text : bytes ≡ concat (history_lines names events fates)

-- the lines start those of some history
abbrev pub Begins : NamesData → List (List ℕ) → Type 0
Begins names lines =
    (more : List (List ℕ)) × (events : List Event) × (fates : List Fate) × IsHistory names events fates
    × (lines ++ more ≡ history_lines names events fates)

-- the first line, by its number from 1, with which the lines so far no longer start any history
pub record IsFirstFault (names : NamesData) (text : List ℕ) (number : ℕ) : Type 0 where
  pub low : 1 ≤ number
  pub high : number ≤ length (lines_in text)
  pub before : Begins names (take (number - 1) (lines_in text))
  pub fault : Begins names (take number (lines_in text)) → ⊥
