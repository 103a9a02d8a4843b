-- The lines of a cell's state. Each ends with 0A.
use Rattle.std.specs.Prelude.{ℕ, ◌+◌, ◌&&◌, Bool, true, false, not, List, [], ◌∷◌, ◌++◌, take, drop, Option, None, Some, codes, decimal, if◌then◌else◌, slice_index_or}
use Rattle.rapid_lexer.specs.Places.{column_of, line_of}
use Rattle.rapid_model.specs.CellData.{CellData}
use Rattle.rapid_model.specs.Sorts.{width}
use Rattle.rapid_model.specs.declared.at.At.{At}
use Rattle.rapid_model.specs.declared.pers_cell.PersCell.{PersCell}
use Rattle.rapid_model.specs.declared.request.Request.{Request}
use Rattle.rapid_model.specs.declared.sort.Sort.{Sort}
use Rattle.rapid_model.specs.declared.sort.Sort.TheVariants as sorts
use Rattle.rapid_model.specs.declared.task_row.TaskRow.{TaskRow}
use Rattle.rapid_model.specs.declared.value.Value.{Value}
use Rattle.typed_trees.specs.Plain.{TypedSlot, TypedTree}
use Rattle.typed_trees.specs.declared.datum.Datum.{Datum}
use Rattle.typed_trees.specs.declared.datum.Datum.TheVariants as datums
use Rattle.value_text.specs.ValueText.{value_text}
use Rattle.history_text.specs.EventWords.{request_words, shape_words}
use Rattle.cell_listing.specs.Listing.{in_braces, numbered, owner_text}
use Rattle.cell_state.specs.States.{CellStateData, TaskStateData}

-- the modules of a task: the names of their files in the script, and their texts
pub record SourcesData : Type 0 where
  pub files : List (List ℕ)
  pub texts : List (List ℕ)

-- the number of an element of an array, from 1, given its index and the array's length; none for what is no array
abbrev pub element_of : Option ℕ → ℕ → Option ℕ
element_of None index = None
element_of (Some len) index = Some (index + 1)

-- P and the number of a persistent, its owner, its name with the number of the element, and the value
abbrev pub value_line : List TaskRow → ℕ → PersCell → Option ℕ → Value → List ℕ
value_line tasks number row element value =
    codes "P" ++ (decimal number ++ (32 ∷ owner_text tasks row.owner ++ (32 ∷ row.name ++ (in_braces element ++ (32 ∷ value_text value ++ codes "\n")))))

-- A value; the number of an interrupt or of a zone; or a shape, - until it is defined. No datum of a module refers to
-- another.
abbrev pub datum_text : Datum → List ℕ
datum_text (datums.Plain value) = value_text value
datum_text (datums.Mark number) = decimal number
datum_text (datums.Shape None) = codes "-"
datum_text (datums.Shape (Some shape)) = shape_words shape
datum_text (datums.Place place) = []

-- V, the task, the name with the number of the element, and what it holds
abbrev pub datum_line : List ℕ → List ℕ → Option ℕ → Datum → List ℕ
datum_line task name element datum =
    codes "V " ++ (task ++ (32 ∷ name ++ (in_braces element ++ (32 ∷ datum_text datum ++ codes "\n"))))

-- a line and a column
abbrev pub spot_text : List ℕ → ℕ → List ℕ
spot_text text byte = decimal (line_of text byte) ++ 58 ∷ decimal (column_of text byte)

-- the file, the line and the column of a place, or - and - without one
abbrev pub place_text : SourcesData → Option At → List ℕ
place_text sources None = codes "- -"
place_text sources (Some at) =
    slice_index_or sources.files at.«module» [] ++ 32 ∷ spot_text (slice_index_or sources.texts at.«module» []) at.byte

abbrev pub next_text : Option Request → List ℕ
next_text None = codes "ended"
next_text (Some request) = request_words request

-- N, the task, its place, and what it asks next
abbrev pub task_line : List ℕ → SourcesData → TaskStateData → List ℕ
task_line name sources state = codes "N " ++ (name ++ (32 ∷ place_text sources state.place ++ (32 ∷ next_text state.next ++ codes "\n")))

-- the persistents, the first of which has this number
abbrev pub value_lines : List TaskRow → ℕ → List PersCell → List (List Value) → List (List ℕ)
value_lines tasks number (row ∷ rows) (values ∷ more) =
    numbered (λ index. value_line tasks number row (element_of row.len index)) 0 values ++ value_lines tasks (number + 1) rows more
value_lines tasks number _ _ = []

abbrev pub is_meeting : Sort → Bool
is_meeting sorts.SyncIdent = true
is_meeting sort = false

-- neither constant arrays nor the names of meetings are shown
abbrev pub is_shown : TypedSlot → Bool
is_shown row = row.variable && not (is_meeting row.sort)

-- the data of one row
abbrev pub row_lines : List ℕ → TypedSlot → List Datum → List (List ℕ)
row_lines task row held = numbered (λ index. datum_line task row.name (element_of row.len index)) 0 held

-- the module data of a task: each row has one for each of its elements, and the next row's follow
abbrev pub datum_lines : List ℕ → List TypedSlot → List Datum → List (List ℕ)
datum_lines task [] held = []
datum_lines task (row ∷ rows) held =
    (if is_shown row then row_lines task row (take (width row.len) held) else [])
    ++ datum_lines task rows (drop (width row.len) held)

-- the module data of each task, and then where it is
abbrev pub tasks_lines : List TaskRow → List TypedTree → List SourcesData → List TaskStateData → List (List ℕ)
tasks_lines (row ∷ rows) (tree ∷ trees) (own ∷ sources) (state ∷ states) =
    datum_lines row.name tree.slots state.values ++ task_line row.name own state ∷ tasks_lines rows trees sources states
tasks_lines _ _ _ _ = []

-- what `state` prints
abbrev pub state_lines : CellData → List TypedTree → List SourcesData → CellStateData → List (List ℕ)
state_lines cell trees sources state = value_lines cell.tasks 0 cell.pers state.pers ++ tasks_lines cell.tasks trees sources state.tasks
