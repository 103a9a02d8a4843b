-- The lines of a cell's tables and of its tasks' code. Each ends with 0A.
use Rattle.std.specs.Prelude.{ℕ, ◌+◌, Bool, true, false, List, [], ◌∷◌, ◌++◌, Option, None, Some, codes, decimal}
use Rattle.rapid_model.specs.CellData.{CellData}
use Rattle.rapid_model.specs.declared.pers_cell.PersCell.{PersCell}
use Rattle.rapid_model.specs.declared.signal_row.SignalRow.{SignalRow}
use Rattle.rapid_model.specs.declared.task_row.TaskRow.{TaskRow}
use Rattle.history_text.specs.Lines.{task_name}
use Rattle.value_text.specs.ValueText.{sort_text}
use Rattle.stack_code.specs.CodeData.{CodeData}
use Rattle.stack_code.specs.declared.op.Op.{Op}
use Rattle.cell_listing.specs.OpListing.{op_text}

-- the owner of a persistent: a task, or all tasks
abbrev pub owner_text : List TaskRow → Option ℕ → List ℕ
owner_text tasks None = codes "*"
owner_text tasks (Some task) = task_name tasks task

-- a number in braces: the length of an array, or the number of one of its elements
abbrev pub in_braces : Option ℕ → List ℕ
in_braces None = []
in_braces (Some number) = 123 ∷ decimal number ++ 125 ∷ []

-- P and the number, the owner, the type, and the name
abbrev pub pers_line : List TaskRow → ℕ → PersCell → List ℕ
pers_line tasks number row =
    codes "P" ++ (decimal number ++ (32 ∷ owner_text tasks row.owner ++ (32 ∷ sort_text row.sort ++ (in_braces row.len ++ (32 ∷ row.name ++ codes "\n")))))

abbrev pub kind_text : Bool → List ℕ
kind_text true = codes "do"
kind_text false = codes "di"

-- D and the number, the kind, and the name
abbrev pub signal_line : ℕ → SignalRow → List ℕ
signal_line number row = codes "D" ++ (decimal number ++ (32 ∷ kind_text row.output ++ (32 ∷ row.name ++ codes "\n")))

-- G and the number, and the name
abbrev pub meeting_line : ℕ → List ℕ → List ℕ
meeting_line number name = codes "G" ++ (decimal number ++ (32 ∷ name ++ codes "\n"))

-- C, the task, the place in its code, and the operation there
abbrev pub code_line : List ℕ → ℕ → Op → List ℕ
code_line task pc op = codes "C " ++ (task ++ (32 ∷ decimal pc ++ (32 ∷ op_text op ++ codes "\n")))

-- a line for each element, numbered from this number on
unfoldable pub numbered : {A : Type 0} → (ℕ → A → List ℕ) → ℕ → List A → List (List ℕ)
numbered line number [] = []
numbered line number (x ∷ more) = line number x ∷ numbered line (number + 1) more

-- the persistents, the signals and the meetings of a cell
abbrev pub cell_lines : CellData → List (List ℕ)
cell_lines cell = numbered (pers_line cell.tasks) 0 cell.pers ++ (numbered signal_line 0 cell.signals ++ numbered meeting_line 0 cell.meetings)

-- the code of each task, in script order
abbrev pub code_lines : List TaskRow → List CodeData → List (List ℕ)
code_lines (row ∷ rows) (code ∷ more) = numbered (code_line row.name) 0 code.ops ++ code_lines rows more
code_lines _ _ = []

-- what `list` prints of a cell whose tasks have these codes
abbrev pub listing_of : CellData → List CodeData → List (List ℕ)
listing_of cell codes = cell_lines cell ++ code_lines cell.tasks codes
