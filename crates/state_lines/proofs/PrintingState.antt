-- Printing the state of a cell.
use Rattle.std.proofs.Common.{◌≡◌, ℕ, ◌+◌, ◌<◌, ◌≤◌, min, ◌&&◌, List, [], ◌∷◌, ◌++◌, length, drop, take, map, get_or, refl, ap, sym, ◌∙◌, subst, inl, inr, arith, append_assoc}
use Rattle.std.specs.Prelude.{All, IsTrue, Option, Some, if◌then◌else◌, Vec}
use Rattle.std.specs.List.{list_all}
use Rattle.std.specs.declared.alloc.Global.{Global}
use Rattle.std.proofs.lemmas.Bool.{cases_lt, leb-true}
use Rattle.std.proofs.lemmas.List.{drop-map, take-map}
use Rattle.std.proofs.lemmas.List.Elements.{All-cons, All-drop, All-get_or, All-nil, All-take, All-weaker}
use Rattle.rapid_limits.specs.declared.TheConstants.{LONGEST_FILE_NAME, MOST_MODULES}
use Rattle.rapid_model.specs.Limits.{is_start, is_within}
use Rattle.rapid_model.specs.Names.{is_short_name}
use Rattle.rapid_model.specs.ScriptData.{IsScript, ScriptData, is_file_name, is_task, takes_axes}
use Rattle.rapid_model.specs.CellData.{CellData}
use Rattle.rapid_model.specs.Sorts.{width}
use Rattle.rapid_model.specs.declared.pers_cell.PersCell.{PersCell}
use Rattle.rapid_model.specs.declared.script_task.ScriptTask.{ScriptTask}
use Rattle.rapid_model.specs.declared.task_row.TaskRow.{TaskRow}
use Rattle.rapid_model.specs.declared.value.Value.{Value}
use Rattle.typed_trees.specs.Plain.{TypedSlot, TypedTree}
use Rattle.typed_trees.specs.Views.{view_slot, view_tree}
use Rattle.typed_trees.specs.declared.datum.Datum.{Datum}
use Rattle.typed_trees.specs.declared.data_rows.SlotRow.{SlotRow}
use Rattle.typed_trees.specs.declared.tree.Tree.{Tree}
use Rattle.cell_listing.specs.Listing.{numbered}
use Rattle.cell_state.specs.States.{CellStateData, TaskStateData}
use Rattle.state_text.specs.StateLines.{SourcesData, datum_lines, element_of, is_shown, row_lines, state_lines, task_line, tasks_lines, value_line, value_lines}
use Rattle.state_lines.specs.Sources.{sources_in, view_modules}
use Rattle.cell_loading.specs.Loaded.{AreShort, IsWithin, bytes_of}
use Rattle.cell_loading.specs.declared.module_texts.ModuleTexts.{ModuleTexts}
use Rattle.sink_lines.specs.Printed.{Seen, Sunk}
use Rattle.sink_lines.specs.Written.{WritesAll, WritesPart}
use Rattle.sink_lines.proofs.Gains.{between}
use Rattle.sink_lines.proofs.Lists.{drop-element, drop-past}
use Rattle.cell_loading.proofs.ModuleFiles.{first_of_all, rest_of_all}
use Rattle.run_lines.proofs.Printing.{Printing}
use Rattle.run_lines.proofs.PrintingList.{block_fails, block_more, printing_begins, printing_ends}

-- no lines
pub wrote_nothing : (lines : List (List ℕ)) (sink : Seen) → lines ≡ [] → WritesAll lines (between sink sink)
wrote_nothing lines sink none = printing_ends lines lines (between sink sink) none (printing_begins lines sink)

-- the persistents

abbrev pub elements_in : List (Vec Value Global) → List (List Value)
elements_in pers = map (λ values. values.items) pers

-- the lines of the elements of a persistent
abbrev pub element_lines : List TaskRow → ℕ → PersCell → List Value → List (List ℕ)
element_lines tasks number row values = numbered (λ index. value_line tasks number row (element_of row.len index)) 0 values

values_split : (tasks : List TaskRow) (rows : List PersCell) (pers : List (Vec Value Global)) (k : ℕ) (row : PersCell) (here : Vec Value Global) → k < length rows → k < length pers → row ≡ get_or rows k row
    → here ≡ get_or pers k here
    → value_lines tasks k (drop k rows) (elements_in (drop k pers))
    ≡ element_lines tasks k row here.items ++ value_lines tasks (k + 1) (drop (k + 1) rows) (elements_in (drop (k + 1) pers))
values_split tasks rows pers k row here lt within is same =
    ap (λ (rs : List PersCell). value_lines tasks k rs (elements_in (drop k pers))) (drop-element rows k row lt is)
    ∙ ap (λ (vs : List (Vec Value Global)). value_lines tasks k (row ∷ drop (k + 1) rows) (elements_in vs)) (drop-element pers k here within same)

pub values_more : (tasks : List TaskRow) (rows : List PersCell) (pers : List (Vec Value Global)) (k : ℕ) (row : PersCell) (here : Vec Value Global) (shown : List Value) (all : List (List ℕ)) (a b c : Seen)
    → k < length rows → k < length pers → row ≡ get_or rows k row → here ≡ get_or pers k here → shown ≡ here.items → WritesAll (element_lines tasks k row shown) (between b c)
    → Printing all (value_lines tasks k (drop k rows) (elements_in (drop k pers))) (between a b)
    → Printing all (value_lines tasks (k + 1) (drop (k + 1) rows) (elements_in (drop (k + 1) pers))) (between a c)
values_more tasks rows pers k row here shown all a b c lt within is same seen w p =
    block_more all (element_lines tasks k row here.items) (value_lines tasks (k + 1) (drop (k + 1) rows) (elements_in (drop (k + 1) pers))) a b c
    (subst (λ (rest : List (List ℕ)). Printing all rest (between a b)) (values_split tasks rows pers k row here lt within is same) p)
    (subst (λ (vs : List Value). WritesAll (element_lines tasks k row vs) (between b c)) seen w)

pub values_failed : (tasks : List TaskRow) (rows : List PersCell) (pers : List (Vec Value Global)) (k : ℕ) (row : PersCell) (here : Vec Value Global) (shown : List Value) (all : List (List ℕ)) (a b c : Seen)
    → k < length rows → k < length pers → row ≡ get_or rows k row → here ≡ get_or pers k here → shown ≡ here.items → WritesPart (element_lines tasks k row shown) (between b c)
    → Printing all (value_lines tasks k (drop k rows) (elements_in (drop k pers))) (between a b) → WritesPart all (between a c)
values_failed tasks rows pers k row here shown all a b c lt within is same seen w p =
    block_fails all (element_lines tasks k row here.items) (value_lines tasks (k + 1) (drop (k + 1) rows) (elements_in (drop (k + 1) pers))) a b c
    (subst (λ (rest : List (List ℕ)). Printing all rest (between a b)) (values_split tasks rows pers k row here lt within is same) p)
    (subst (λ (vs : List Value). WritesPart (element_lines tasks k row vs) (between b c)) seen w)

no_values : (tasks : List TaskRow) (k : ℕ) (rows : List PersCell) → value_lines tasks k rows [] ≡ []
no_values tasks k [] = refl
no_values tasks k (row ∷ rows) = refl

-- after the last row or the last values
values_past : (tasks : List TaskRow) (rows : List PersCell) (pers : List (Vec Value Global)) (k : ℕ) → min (length rows) (length pers) ≤ k → value_lines tasks k (drop k rows) (elements_in (drop k pers)) ≡ []
values_past tasks rows pers k past = elim (cases_lt k (length rows)) [
  | inl more ↦
      ap (λ (vs : List (Vec Value Global)). value_lines tasks k (drop k rows) (elements_in vs)) (drop-past pers k (omega (arith, past, more)))
      ∙ no_values tasks k (drop k rows)
  | inr rows_past ↦ ap (λ (rs : List PersCell). value_lines tasks k rs (elements_in (drop k pers))) (drop-past rows k rows_past)
]

pub values_printed : (tasks : List TaskRow) (rows : List PersCell) (pers : List (Vec Value Global)) (k : ℕ) (all : List (List ℕ)) (sink : Sunk) → min (length rows) (length pers) ≤ k
    → Printing all (value_lines tasks k (drop k rows) (elements_in (drop k pers))) sink → WritesAll all sink
values_printed tasks rows pers k all sink past p = printing_ends all (value_lines tasks k (drop k rows) (elements_in (drop k pers))) sink (values_past tasks rows pers k past) p

-- the module data of a task

abbrev slots_in : List SlotRow → List TypedSlot
slots_in rows = map view_slot rows

-- the lines of a row, if its data are shown
abbrev pub shown_lines : List ℕ → SlotRow → List Datum → List (List ℕ)
shown_lines task row held = if is_shown (view_slot row) then row_lines task (view_slot row) held else []

data_split : (task : List ℕ) (rows : List SlotRow) (rest here later : List Datum) (k : ℕ) (row : SlotRow) → k < length rows → row ≡ get_or rows k row → here ≡ take (width row.len) rest → later ≡ drop (width row.len) rest
    → datum_lines task (slots_in (drop k rows)) rest ≡ shown_lines task row here ++ datum_lines task (slots_in (drop (k + 1) rows)) later
data_split task rows rest here later k row lt is first others =
    ap (λ (rs : List SlotRow). datum_lines task (slots_in rs) rest) (drop-element rows k row lt is)
    ∙ ap (λ (held : List Datum). shown_lines task row held ++ datum_lines task (slots_in (drop (k + 1) rows)) (drop (width row.len) rest)) (sym first)
    ∙ ap (λ (held : List Datum). shown_lines task row here ++ datum_lines task (slots_in (drop (k + 1) rows)) held) (sym others)

pub data_more : (task : List ℕ) (rows : List SlotRow) (rest here later : List Datum) (k : ℕ) (row : SlotRow) (own : ℕ) (all : List (List ℕ)) (a b c : Seen) → k < length rows → row ≡ get_or rows k row
    → own ≡ width row.len → here ≡ take own rest → later ≡ drop own rest → WritesAll (shown_lines task row here) (between b c) → Printing all (datum_lines task (slots_in (drop k rows)) rest) (between a b)
    → Printing all (datum_lines task (slots_in (drop (k + 1) rows)) later) (between a c)
data_more task rows rest here later k row own all a b c lt is wide first others w p =
    block_more all (shown_lines task row here) (datum_lines task (slots_in (drop (k + 1) rows)) later) a b c
    (subst (λ (lines : List (List ℕ)). Printing all lines (between a b))
    (data_split task rows rest here later k row lt is (first ∙ ap (λ (n : ℕ). take n rest) wide) (others ∙ ap (λ (n : ℕ). drop n rest) wide)) p) w

pub data_failed : (task : List ℕ) (rows : List SlotRow) (rest here : List Datum) (k : ℕ) (row : SlotRow) (own : ℕ) (all : List (List ℕ)) (a b c : Seen) → k < length rows → row ≡ get_or rows k row
    → own ≡ width row.len → here ≡ take own rest → WritesPart (shown_lines task row here) (between b c) → Printing all (datum_lines task (slots_in (drop k rows)) rest) (between a b) → WritesPart all (between a c)
data_failed task rows rest here k row own all a b c lt is wide first w p =
    block_fails all (shown_lines task row here) (datum_lines task (slots_in (drop (k + 1) rows)) (drop (width row.len) rest)) a b c
    (subst (λ (lines : List (List ℕ)). Printing all lines (between a b))
    (data_split task rows rest here (drop (width row.len) rest) k row lt is (first ∙ ap (λ (n : ℕ). take n rest) wide) refl) p) w

pub data_printed : (task : List ℕ) (rows : List SlotRow) (rest : List Datum) (k : ℕ) (all : List (List ℕ)) (sink : Sunk) → length rows ≤ k → Printing all (datum_lines task (slots_in (drop k rows)) rest) sink
    → WritesAll all sink
data_printed task rows rest k all sink past p =
    printing_ends all (datum_lines task (slots_in (drop k rows)) rest) sink (ap (λ (rs : List SlotRow). datum_lines task (slots_in rs) rest) (drop-past rows k past)) p

-- the tasks

abbrev pub trees_in : List Tree → List TypedTree
trees_in trees = map view_tree trees

-- the lines of a task
abbrev pub one_task : List ℕ → List TypedSlot → SourcesData → TaskStateData → List (List ℕ)
one_task name slots own state = datum_lines name slots state.values ++ task_line name own state ∷ []

-- the modules of a task, this many of whose texts are left
abbrev pub seen_sources : ScriptTask → List (List ℕ) → SourcesData
seen_sources task texts = record { files = task.modules; texts = texts }

-- the rows, trees, tasks, texts and states from task k on
abbrev pub tasks_from : List TaskRow → List Tree → List ScriptTask → List (Vec ℕ Global) → List TaskStateData → ℕ → List (List ℕ)
tasks_from rows trees tasks rest states k = tasks_lines (drop k rows) (trees_in (drop k trees)) (sources_in (drop k tasks) (bytes_of rest)) (drop k states)

-- what belongs to task k
pub record AreAt (rows : List TaskRow) (trees : List Tree) (tasks : List ScriptTask) (states : List TaskStateData) (k : ℕ) (row : TaskRow) (tree : Tree) (task : ScriptTask) (state : TaskStateData) : Type 0 where
  pub in_rows : k < length rows
  pub in_trees : k < length trees
  pub in_tasks : k < length tasks
  pub in_states : k < length states
  pub row_is : row ≡ get_or rows k row
  pub tree_is : tree ≡ get_or trees k tree
  pub task_is : task ≡ get_or tasks k task
  pub state_is : state ≡ get_or states k state

tasks_split : (rows : List TaskRow) (trees : List Tree) (tasks : List ScriptTask) (rest here later : List (Vec ℕ Global)) (states : List TaskStateData) (k : ℕ) (row : TaskRow) (tree : Tree) (task : ScriptTask)
    (state : TaskStateData) → AreAt rows trees tasks states k row tree task state → here ≡ take (length task.modules) rest → later ≡ drop (length task.modules) rest
    → tasks_from rows trees tasks rest states k ≡ one_task row.name (view_tree tree).slots (seen_sources task (bytes_of here)) state ++ tasks_from rows trees tasks later states (k + 1)
tasks_split rows trees tasks rest here later states k row tree task state at first others =
    ap (λ (rs : List TaskRow). tasks_lines rs (trees_in (drop k trees)) (sources_in (drop k tasks) (bytes_of rest)) (drop k states)) (drop-element rows k row at.in_rows at.row_is)
    ∙ ap (λ (ts : List Tree). tasks_lines (row ∷ drop (k + 1) rows) (trees_in ts) (sources_in (drop k tasks) (bytes_of rest)) (drop k states)) (drop-element trees k tree at.in_trees at.tree_is)
    ∙ ap (λ (ts : List ScriptTask). tasks_lines (row ∷ drop (k + 1) rows) (trees_in (tree ∷ drop (k + 1) trees)) (sources_in ts (bytes_of rest)) (drop k states)) (drop-element tasks k task at.in_tasks at.task_is)
    ∙ ap (λ (ss : List TaskStateData). tasks_lines (row ∷ drop (k + 1) rows) (trees_in (tree ∷ drop (k + 1) trees)) (sources_in (task ∷ drop (k + 1) tasks) (bytes_of rest)) ss)
    (drop-element states k state at.in_states at.state_is)
    ∙ ap (λ (texts : List (List ℕ)). datum_lines row.name (view_tree tree).slots state.values ++ task_line row.name (seen_sources task texts) state
    ∷ tasks_lines (drop (k + 1) rows) (trees_in (drop (k + 1) trees)) (sources_in (drop (k + 1) tasks) (drop (length task.modules) (bytes_of rest))) (drop (k + 1) states))
    (take-map (λ (v : Vec ℕ Global). v.items) (length task.modules) rest ∙ ap bytes_of (sym first))
    ∙ ap (λ (texts : List (List ℕ)). datum_lines row.name (view_tree tree).slots state.values ++ task_line row.name (seen_sources task (bytes_of here)) state
    ∷ tasks_lines (drop (k + 1) rows) (trees_in (drop (k + 1) trees)) (sources_in (drop (k + 1) tasks) texts) (drop (k + 1) states))
    (drop-map (λ (v : Vec ℕ Global). v.items) (length task.modules) rest ∙ ap bytes_of (sym others))
    ∙ sym (append_assoc (datum_lines row.name (view_tree tree).slots state.values) (task_line row.name (seen_sources task (bytes_of here)) state ∷ []) (tasks_from rows trees tasks later states (k + 1)))

-- the slots, files and texts that are printed are those of the task
pub record AreOf (tree : Tree) (task : ScriptTask) (rest here : List (Vec ℕ Global)) (own : ℕ) (slots : List SlotRow) (files : List (List ℕ)) : Type 0 where
  pub slots_are : slots ≡ tree.slots.items
  pub files_are : files ≡ task.modules
  pub own_is : own ≡ length task.modules
  pub here_are : here ≡ take own rest

pub tasks_more : (rows : List TaskRow) (trees : List Tree) (tasks : List ScriptTask) (rest here later : List (Vec ℕ Global)) (states : List TaskStateData) (k : ℕ) (row : TaskRow) (tree : Tree) (task : ScriptTask)
    (state : TaskStateData) (own : ℕ) (slots : List SlotRow) (files : List (List ℕ)) (all : List (List ℕ)) (a b c : Seen) → AreAt rows trees tasks states k row tree task state → AreOf tree task rest here own slots files
    → later ≡ drop own rest → WritesAll (one_task row.name (slots_in slots) (record { files = files; texts = bytes_of here }) state) (between b c) → Printing all (tasks_from rows trees tasks rest states k) (between a b)
    → Printing all (tasks_from rows trees tasks later states (k + 1)) (between a c)
tasks_more rows trees tasks rest here later states k row tree task state own slots files all a b c at are others w p =
    block_more all (one_task row.name (view_tree tree).slots (seen_sources task (bytes_of here)) state) (tasks_from rows trees tasks later states (k + 1)) a b c
    (subst (λ (lines : List (List ℕ)). Printing all lines (between a b))
    (tasks_split rows trees tasks rest here later states k row tree task state at (are.here_are ∙ ap (λ (n : ℕ). take n rest) are.own_is) (others ∙ ap (λ (n : ℕ). drop n rest) are.own_is)) p)
    (subst (λ (ss : List SlotRow). WritesAll (one_task row.name (slots_in ss) (seen_sources task (bytes_of here)) state) (between b c)) are.slots_are
    (subst (λ (fs : List (List ℕ)). WritesAll (one_task row.name (slots_in slots) (record { files = fs; texts = bytes_of here }) state) (between b c)) are.files_are w))

pub tasks_failed : (rows : List TaskRow) (trees : List Tree) (tasks : List ScriptTask) (rest here : List (Vec ℕ Global)) (states : List TaskStateData) (k : ℕ) (row : TaskRow) (tree : Tree) (task : ScriptTask)
    (state : TaskStateData) (own : ℕ) (slots : List SlotRow) (files : List (List ℕ)) (all : List (List ℕ)) (a b c : Seen) → AreAt rows trees tasks states k row tree task state → AreOf tree task rest here own slots files
    → WritesPart (one_task row.name (slots_in slots) (record { files = files; texts = bytes_of here }) state) (between b c) → Printing all (tasks_from rows trees tasks rest states k) (between a b)
    → WritesPart all (between a c)
tasks_failed rows trees tasks rest here states k row tree task state own slots files all a b c at are w p =
    block_fails all (one_task row.name (view_tree tree).slots (seen_sources task (bytes_of here)) state) (tasks_from rows trees tasks (drop (length task.modules) rest) states (k + 1)) a b c
    (subst (λ (lines : List (List ℕ)). Printing all lines (between a b))
    (tasks_split rows trees tasks rest here (drop (length task.modules) rest) states k row tree task state at (are.here_are ∙ ap (λ (n : ℕ). take n rest) are.own_is) refl) p)
    (subst (λ (ss : List SlotRow). WritesPart (one_task row.name (slots_in ss) (seen_sources task (bytes_of here)) state) (between b c)) are.slots_are
    (subst (λ (fs : List (List ℕ)). WritesPart (one_task row.name (slots_in slots) (record { files = fs; texts = bytes_of here }) state) (between b c)) are.files_are w))

-- after the last of any of them there are no lines

no_trees : (rows : List TaskRow) (sources : List SourcesData) (states : List TaskStateData) → tasks_lines rows [] sources states ≡ []
no_trees [] sources states = refl
no_trees (row ∷ rows) sources states = refl

pub no_sources : (rows : List TaskRow) (trees : List TypedTree) (states : List TaskStateData) → tasks_lines rows trees [] states ≡ []
no_sources [] trees states = refl
no_sources (row ∷ rows) [] states = refl
no_sources (row ∷ rows) (tree ∷ trees) states = refl

no_states : (rows : List TaskRow) (trees : List TypedTree) (sources : List SourcesData) → tasks_lines rows trees sources [] ≡ []
no_states [] trees sources = refl
no_states (row ∷ rows) [] sources = refl
no_states (row ∷ rows) (tree ∷ trees) [] = refl
no_states (row ∷ rows) (tree ∷ trees) (own ∷ sources) = refl

tasks_past : (rows : List TaskRow) (trees : List Tree) (tasks : List ScriptTask) (rest : List (Vec ℕ Global)) (states : List TaskStateData) (k : ℕ)
    → min (min (min (length rows) (length trees)) (length tasks)) (length states) ≤ k → tasks_from rows trees tasks rest states k ≡ []
tasks_past rows trees tasks rest states k past = elim (cases_lt k (length rows)) [
  | inr none ↦ ap (λ (rs : List TaskRow). tasks_lines rs (trees_in (drop k trees)) (sources_in (drop k tasks) (bytes_of rest)) (drop k states)) (drop-past rows k none)
  | inl more ↦
      elim (cases_lt k (length trees)) [
        | inr none ↦
            ap (λ (ts : List Tree). tasks_lines (drop k rows) (trees_in ts) (sources_in (drop k tasks) (bytes_of rest)) (drop k states)) (drop-past trees k none)
            ∙ no_trees (drop k rows) (sources_in (drop k tasks) (bytes_of rest)) (drop k states)
        | inl some ↦
            elim (cases_lt k (length tasks)) [
              | inr none ↦
                  ap (λ (ts : List ScriptTask). tasks_lines (drop k rows) (trees_in (drop k trees)) (sources_in ts (bytes_of rest)) (drop k states)) (drop-past tasks k none)
                  ∙ no_sources (drop k rows) (trees_in (drop k trees)) (drop k states)
              | inl there ↦
                  ap (λ (ss : List TaskStateData). tasks_lines (drop k rows) (trees_in (drop k trees)) (sources_in (drop k tasks) (bytes_of rest)) ss)
                  (drop-past states k (omega (arith, past, more, some, there)))
                  ∙ no_states (drop k rows) (trees_in (drop k trees)) (sources_in (drop k tasks) (bytes_of rest))
            ]
      ]
]

pub tasks_printed : (rows : List TaskRow) (trees : List Tree) (tasks : List ScriptTask) (rest : List (Vec ℕ Global)) (states : List TaskStateData) (k : ℕ) (all : List (List ℕ)) (sink : Sunk)
    → min (min (min (length rows) (length trees)) (length tasks)) (length states) ≤ k → Printing all (tasks_from rows trees tasks rest states k) sink → WritesAll all sink
tasks_printed rows trees tasks rest states k all sink past p =
    printing_ends all (tasks_from rows trees tasks rest states k) sink (tasks_past rows trees tasks rest states k past) p

-- the files of a script have short names, and its texts are short

short_files : (files : List (List ℕ)) → IsTrue (list_all is_file_name files) → All (λ (file : List ℕ). length file ≤ LONGEST_FILE_NAME) files
short_files [] all = All-nil (λ (file : List ℕ). length file ≤ LONGEST_FILE_NAME)
short_files (file ∷ files) all =
    All-cons (λ (f : List ℕ). length f ≤ LONGEST_FILE_NAME) file files
    (leb-true (length file) LONGEST_FILE_NAME (rest_of_all _ _ (first_of_all (is_file_name file) (list_all is_file_name files) all)))
    (short_files files (rest_of_all (is_file_name file) (list_all is_file_name files) all))

task_short : (version : ℕ) (task : ScriptTask) → IsTrue (is_task version task) → All (λ (file : List ℕ). length file ≤ LONGEST_FILE_NAME) task.modules
task_short version task h =
    let front = is_short_name task.name && is_within 1 MOST_MODULES (length task.modules) in
    let named = list_all is_file_name task.modules in
    let axes = takes_axes version task.axes in
    let start = is_start task.axes task.arm in
    short_files task.modules (rest_of_all front named (first_of_all (front && named) axes (first_of_all (front && named && axes) start h)))

tasks_short : (version : ℕ) (tasks : List ScriptTask) → IsTrue (list_all (is_task version) tasks) → All (λ (task : ScriptTask). All (λ (file : List ℕ). length file ≤ LONGEST_FILE_NAME) task.modules) tasks
tasks_short version [] all = All-nil (λ (task : ScriptTask). All (λ (file : List ℕ). length file ≤ LONGEST_FILE_NAME) task.modules)
tasks_short version (task ∷ tasks) all =
    All-cons (λ (t : ScriptTask). All (λ (file : List ℕ). length file ≤ LONGEST_FILE_NAME) t.modules) task tasks
    (task_short version task (first_of_all (is_task version task) (list_all (is_task version) tasks) all))
    (tasks_short version tasks (rest_of_all (is_task version task) (list_all (is_task version) tasks) all))

pub script_short : (script : ScriptData) (tasks : List ScriptTask) → IsScript script → tasks ≡ script.tasks → All (λ (task : ScriptTask). All (λ (file : List ℕ). length file ≤ LONGEST_FILE_NAME) task.modules) tasks
script_short script tasks limits are =
    subst (λ (ts : List ScriptTask). All (λ (task : ScriptTask). All (λ (file : List ℕ). length file ≤ LONGEST_FILE_NAME) task.modules) ts) (sym are)
    (tasks_short script.version script.tasks limits.tasks)

-- of a task's files
pub files_short : (tasks : List ScriptTask) (k : ℕ) (task : ScriptTask) (files : List (List ℕ)) → k < length tasks → task ≡ get_or tasks k task → files ≡ task.modules
    → All (λ (task : ScriptTask). All (λ (file : List ℕ). length file ≤ LONGEST_FILE_NAME) task.modules) tasks → All (λ (file : List ℕ). length file ≤ LONGEST_FILE_NAME) files
files_short tasks k task files lt is are all =
    subst (λ (fs : List (List ℕ)). All (λ (file : List ℕ). length file ≤ LONGEST_FILE_NAME) fs) (sym (are ∙ ap (λ (t : ScriptTask). t.modules) is))
    (All-get_or (λ (t : ScriptTask). All (λ (file : List ℕ). length file ≤ LONGEST_FILE_NAME) t.modules) tasks k task lt all)

-- of a part of the texts
pub within_first : (texts here : List (Vec ℕ Global)) (n : ℕ) → here ≡ take n texts → All IsWithin texts → All IsWithin here
within_first texts here n is all = subst (λ (ts : List (Vec ℕ Global)). All IsWithin ts) (sym is) (All-take IsWithin n texts all)

pub within_later : (texts later : List (Vec ℕ Global)) (n : ℕ) → later ≡ drop n texts → All IsWithin texts → All IsWithin later
within_later texts later n is all = subst (λ (ts : List (Vec ℕ Global)). All IsWithin ts) (sym is) (All-drop IsWithin n texts all)

pub within_short : (texts : List (Vec ℕ Global)) → All IsWithin texts → All (λ (text : Vec ℕ Global). length text.items < 2_147_483_648) texts
within_short texts all = All-weaker IsWithin (λ (text : Vec ℕ Global). length text.items < 2_147_483_648) (λ text within. omega (arith, within)) texts all

-- the modules that an action keeps

pub texts_short : (kept : Option ModuleTexts) (modules : ModuleTexts) (texts : List (Vec ℕ Global)) → kept ≡ Some modules → AreShort kept → texts ≡ modules.texts.items → All IsWithin texts
texts_short kept modules texts is short are =
    subst (λ (ts : List (Vec ℕ Global)). All IsWithin ts) (sym are) (subst (λ (k : Option ModuleTexts). AreShort k) is short)

pub modules_seen : (kept : Option ModuleTexts) (modules : ModuleTexts) (tasks : List ScriptTask) (texts : List (Vec ℕ Global)) → kept ≡ Some modules → tasks ≡ modules.script.tasks → texts ≡ modules.texts.items
    → sources_in tasks (bytes_of texts) ≡ view_modules kept
modules_seen kept modules tasks texts is of_script of_modules =
    ap (λ (ts : List ScriptTask). sources_in ts (bytes_of texts)) of_script ∙ ap (λ (ts : List (Vec ℕ Global)). sources_in modules.script.tasks (bytes_of ts)) of_modules
    ∙ ap view_modules (sym is)

-- the lines of a state, from its parts
pub state_seen : (cell : CellData) (trees : List Tree) (sources : List SourcesData) (state : CellStateData) (tasks : List TaskRow) (pers : List PersCell) (values : List (List Value)) (states : List TaskStateData)
    → tasks ≡ cell.tasks → pers ≡ cell.pers → values ≡ state.pers → states ≡ state.tasks
    → value_lines tasks 0 pers values ++ tasks_lines tasks (trees_in trees) sources states ≡ state_lines cell (trees_in trees) sources state
state_seen cell trees sources state tasks pers values states of_tasks of_pers of_values of_states =
    ap (λ (ts : List TaskRow). value_lines ts 0 pers values ++ tasks_lines ts (trees_in trees) sources states) of_tasks
    ∙ ap (λ (ps : List PersCell). value_lines cell.tasks 0 ps values ++ tasks_lines cell.tasks (trees_in trees) sources states) of_pers
    ∙ ap (λ (vs : List (List Value)). value_lines cell.tasks 0 cell.pers vs ++ tasks_lines cell.tasks (trees_in trees) sources states) of_values
    ∙ ap (λ (ss : List TaskStateData). value_lines cell.tasks 0 cell.pers state.pers ++ tasks_lines cell.tasks (trees_in trees) sources ss) of_states
