-- Printing numbered rows, and the operations of one code after the other.
use Rattle.std.proofs.Common.{◌≡◌, ℕ, ◌+◌, ◌<◌, ◌≤◌, min, List, [], ◌∷◌, ◌++◌, length, drop, get_or, refl, ap, sym, ◌∙◌, subst, inl, inr, arith, append_assoc, append-nil}
use Rattle.std.specs.Prelude.{Some, Result, slice_get, ⊤}
use Rattle.std.proofs.lemmas.Bool.{cases_lt}
use Rattle.std.proofs.lemmas.Option.{slice_get_cases, get_or_from_slice_get}
use Rattle.outside.specs.declared.failed.Failed.{Failed}
use Rattle.rapid_model.specs.CellData.{CellData}
use Rattle.rapid_model.specs.declared.pers_cell.PersCell.{PersCell}
use Rattle.rapid_model.specs.declared.signal_row.SignalRow.{SignalRow}
use Rattle.rapid_model.specs.declared.task_row.TaskRow.{TaskRow}
use Rattle.stack_code.specs.CodeData.{CodeData}
use Rattle.cell_listing.specs.Listing.{cell_lines, code_line, code_lines, meeting_line, numbered, pers_line, signal_line}
use Rattle.sink_lines.specs.Printed.{Seen, Sunk}
use Rattle.sink_lines.specs.Written.{Writes, WritesAll, WritesPart}
use Rattle.sink_lines.proofs.Lists.{drop-element, drop-past}
use Rattle.sink_lines.proofs.Gains.{between, gained_none, wrote_more, wrote_part, wrote_first}
use Rattle.run_lines.proofs.Printing.{Printing, printing_more, printing_fails}

-- nothing is written yet
pub printing_begins : (all : List (List ℕ)) (a : Seen) → Printing all all (between a a)
printing_begins all a = record {
  done = [];
  split = refl;
  written = record {
    bytes = gained_none a.bytes;
    calls = record { calls = []; holds = refl; gained = gained_none a.calls };
    faults = omega arith;
  };
}

-- nothing is left to write
pub printing_ends : (all rest : List (List ℕ)) (sink : Sunk) → rest ≡ [] → Printing all rest sink → WritesAll all sink
printing_ends all rest sink none p =
    subst (λ (lines : List (List ℕ)). WritesAll lines sink) (sym (p.split ∙ ap (λ (lines : List (List ℕ)). p.done ++ lines) none ∙ append-nil p.done)) p.written

-- the lines of the rows from k on are that of row k and those after it
rows_split : {A : Type 0} (line : ℕ → A → List ℕ) (rows : List A) (k : ℕ) (row : A) → k < length rows → row ≡ get_or rows k row
    → numbered line k (drop k rows) ≡ line k row ∷ numbered line (k + 1) (drop (k + 1) rows)
unfolding numbered
rows_split line rows k row lt is = ap (numbered line k) (drop-element rows k row lt is)

pub row_printed : {A : Type 0} (line : ℕ → A → List ℕ) (rows : List A) (k : ℕ) (row : A) (all : List (List ℕ)) (a b c : Seen) → k < length rows → row ≡ get_or rows k row → WritesAll (line k row ∷ []) (between b c)
    → Printing all (numbered line k (drop k rows)) (between a b) → Printing all (numbered line (k + 1) (drop (k + 1) rows)) (between a c)
row_printed line rows k row all a b c lt is w p =
    printing_more all (line k row) (numbered line (k + 1) (drop (k + 1) rows)) a b c
    (subst (λ (rest : List (List ℕ)). Printing all rest (between a b)) (rows_split line rows k row lt is) p) w

pub row_failed : {A : Type 0} (line : ℕ → A → List ℕ) (rows : List A) (k : ℕ) (row : A) (all : List (List ℕ)) (a b c : Seen) → k < length rows → row ≡ get_or rows k row → WritesPart (line k row ∷ []) (between b c)
    → Printing all (numbered line k (drop k rows)) (between a b) → WritesPart all (between a c)
row_failed line rows k row all a b c lt is w p =
    printing_fails all (line k row) (numbered line (k + 1) (drop (k + 1) rows)) a b c
    (subst (λ (rest : List (List ℕ)). Printing all rest (between a b)) (rows_split line rows k row lt is) p) w

none_numbered : {A : Type 0} (line : ℕ → A → List ℕ) (k : ℕ) → numbered line k [] ≡ []
unfolding numbered
none_numbered line k = refl

pub rows_printed : {A : Type 0} (line : ℕ → A → List ℕ) (rows : List A) (k : ℕ) (all : List (List ℕ)) (sink : Sunk) → length rows ≤ k → Printing all (numbered line k (drop k rows)) sink → WritesAll all sink
rows_printed line rows k all sink past p =
    printing_ends all (numbered line k (drop k rows)) sink (ap (numbered line k) (drop-past rows k past) ∙ none_numbered line k) p

-- a row that is looked up
found_row : {A : Type 0} (rows : List A) (k : ℕ) (row : A) → slice_get rows k ≡ Some row → row ≡ get_or rows k row
found_row rows k row at = sym (get_or_from_slice_get rows k row row at)

pub place_printed : {A : Type 0} (line : ℕ → A → List ℕ) (rows : List A) (k : ℕ) (all : List (List ℕ)) (a b c : Seen) → k < length rows
    → ((row : A) → slice_get rows k ≡ Some row → WritesAll (line k row ∷ []) (between b c)) → Printing all (numbered line k (drop k rows)) (between a b)
    → Printing all (numbered line (k + 1) (drop (k + 1) rows)) (between a c)
place_printed line rows k all a b c lt w p = elim (slice_get_cases rows k).1 [
  | inl x ↦ row_printed line rows k x.0 all a b c lt (found_row rows k x.0 x.2) (w x.0 x.2) p
  | inr past ↦ absurd (let m = past.0 in omega (arith, m))
]

pub place_failed : {A : Type 0} (line : ℕ → A → List ℕ) (rows : List A) (k : ℕ) (all : List (List ℕ)) (a b c : Seen) → k < length rows
    → ((row : A) → slice_get rows k ≡ Some row → WritesPart (line k row ∷ []) (between b c)) → Printing all (numbered line k (drop k rows)) (between a b) → WritesPart all (between a c)
place_failed line rows k all a b c lt w p = elim (slice_get_cases rows k).1 [
  | inl x ↦ row_failed line rows k x.0 all a b c lt (found_row rows k x.0 x.2) (w x.0 x.2) p
  | inr past ↦ absurd (let m = past.0 in omega (arith, m))
]

-- one code after the other

-- some more lines
pub block_more : (all block rest : List (List ℕ)) (a b c : Seen) → Printing all (block ++ rest) (between a b) → WritesAll block (between b c) → Printing all rest (between a c)
block_more all block rest a b c p w = record {
  done = p.done ++ block;
  split = p.split ∙ sym (append_assoc p.done block rest);
  written = wrote_more p.done block a b c p.written w;
}

pub block_fails : (all block rest : List (List ℕ)) (a b c : Seen) → Printing all (block ++ rest) (between a b) → WritesPart block (between b c) → WritesPart all (between a c)
block_fails all block rest a b c p w =
    subst (λ (lines : List (List ℕ)). WritesPart lines (between a c)) (sym p.split)
    (wrote_part p.done (block ++ rest) a b c p.written (wrote_first block rest (between b c) w))

code_split : (rows : List TaskRow) (each : List CodeData) (k : ℕ) (row : TaskRow) (code : CodeData) → k < length rows → k < length each → row ≡ get_or rows k row → code ≡ get_or each k code
    → code_lines (drop k rows) (drop k each) ≡ numbered (code_line row.name) 0 code.ops ++ code_lines (drop (k + 1) rows) (drop (k + 1) each)
code_split rows each k row code lt within is here =
    ap (λ (rs : List TaskRow). code_lines rs (drop k each)) (drop-element rows k row lt is)
    ∙ ap (λ (cs : List CodeData). code_lines (row ∷ drop (k + 1) rows) cs) (drop-element each k code within here)

pub code_printed : (rows : List TaskRow) (each : List CodeData) (k : ℕ) (row : TaskRow) (code : CodeData) (all : List (List ℕ)) (a b c : Seen) → k < length rows → k < length each → row ≡ get_or rows k row
    → code ≡ get_or each k code → WritesAll (numbered (code_line row.name) 0 code.ops) (between b c) → Printing all (code_lines (drop k rows) (drop k each)) (between a b)
    → Printing all (code_lines (drop (k + 1) rows) (drop (k + 1) each)) (between a c)
code_printed rows each k row code all a b c lt within is here w p =
    block_more all (numbered (code_line row.name) 0 code.ops) (code_lines (drop (k + 1) rows) (drop (k + 1) each)) a b c
    (subst (λ (rest : List (List ℕ)). Printing all rest (between a b)) (code_split rows each k row code lt within is here) p) w

pub code_failed : (rows : List TaskRow) (each : List CodeData) (k : ℕ) (row : TaskRow) (code : CodeData) (all : List (List ℕ)) (a b c : Seen) → k < length rows → k < length each → row ≡ get_or rows k row
    → code ≡ get_or each k code → WritesPart (numbered (code_line row.name) 0 code.ops) (between b c) → Printing all (code_lines (drop k rows) (drop k each)) (between a b) → WritesPart all (between a c)
code_failed rows each k row code all a b c lt within is here w p =
    block_fails all (numbered (code_line row.name) 0 code.ops) (code_lines (drop (k + 1) rows) (drop (k + 1) each)) a b c
    (subst (λ (rest : List (List ℕ)). Printing all rest (between a b)) (code_split rows each k row code lt within is here) p) w

no_codes : (rows : List TaskRow) → code_lines rows [] ≡ []
no_codes [] = refl
no_codes (row ∷ rows) = refl

-- after the last row or the last code
none_left : (rows : List TaskRow) (each : List CodeData) (k : ℕ) → min (length rows) (length each) ≤ k → code_lines (drop k rows) (drop k each) ≡ []
none_left rows each k past = elim (cases_lt k (length rows)) [
  | inl more ↦
      ap (λ (cs : List CodeData). code_lines (drop k rows) cs) (drop-past each k (omega (arith, past, more)))
      ∙ no_codes (drop k rows)
  | inr rows_past ↦ ap (λ (rs : List TaskRow). code_lines rs (drop k each)) (drop-past rows k rows_past)
]

pub codes_printed : (rows : List TaskRow) (each : List CodeData) (k : ℕ) (all : List (List ℕ)) (sink : Sunk) → min (length rows) (length each) ≤ k → Printing all (code_lines (drop k rows) (drop k each)) sink
    → WritesAll all sink
codes_printed rows each k all sink past p = printing_ends all (code_lines (drop k rows) (drop k each)) sink (none_left rows each k past) p

-- the same lines in other terms
pub writes_same : (lines other : List (List ℕ)) (result : Result ⊤ Failed) (sink : Sunk) → lines ≡ other → Writes lines result sink → Writes other result sink
writes_same lines other result sink same w = subst (λ (ls : List (List ℕ)). Writes ls result sink) same w

pub part_same : (lines other : List (List ℕ)) (sink : Sunk) → lines ≡ other → WritesPart lines sink → WritesPart other sink
part_same lines other sink same w = subst (λ (ls : List (List ℕ)). WritesPart ls sink) same w

-- the tables of a cell, from its parts
pub tables_are : (cell : CellData) (tasks : List TaskRow) (pers : List PersCell) (signals : List SignalRow) (meetings : List (List ℕ)) → tasks ≡ cell.tasks → pers ≡ cell.pers → signals ≡ cell.signals
    → meetings ≡ cell.meetings → numbered (pers_line tasks) 0 pers ++ (numbered signal_line 0 signals ++ numbered meeting_line 0 meetings) ≡ cell_lines cell
tables_are cell tasks pers signals meetings of_tasks of_pers of_signals of_meetings =
    ap (λ (ts : List TaskRow). numbered (pers_line ts) 0 pers ++ (numbered signal_line 0 signals ++ numbered meeting_line 0 meetings)) of_tasks
    ∙ ap (λ (ps : List PersCell). numbered (pers_line cell.tasks) 0 ps ++ (numbered signal_line 0 signals ++ numbered meeting_line 0 meetings)) of_pers
    ∙ ap (λ (ss : List SignalRow). numbered (pers_line cell.tasks) 0 cell.pers ++ (numbered signal_line 0 ss ++ numbered meeting_line 0 meetings)) of_signals
    ∙ ap (λ (ms : List (List ℕ)). numbered (pers_line cell.tasks) 0 cell.pers ++ (numbered signal_line 0 cell.signals ++ numbered meeting_line 0 ms)) of_meetings
