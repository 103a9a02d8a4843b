-- Printing the events of a run with their places.
use Rattle.std.proofs.Common.{◌≡◌, ℕ, ◌+◌, ◌-◌, ◌<◌, ◌≤◌, suc, List, [], ◌∷◌, ◌++◌, length, drop, take, map, get_or, ap, sym, ◌∙◌, subst, Option, Some, arith}
use Rattle.std.specs.Prelude.{All, Vec, slice_get, slice_index_or}
use Rattle.std.specs.declared.alloc.Global.{Global}
use Rattle.std.proofs.lemmas.List.{drop-map, length-map, take-map, take_more}
use Rattle.std.proofs.lemmas.Option.{get_or_from_slice_get, slice_get_within}
use Rattle.rapid_model.specs.CellData.{CellData}
use Rattle.rapid_model.specs.declared.at.At.{At}
use Rattle.rapid_model.specs.declared.event.Event.{Event}
use Rattle.rapid_model.specs.declared.script_task.ScriptTask.{ScriptTask}
use Rattle.rapid_model.specs.declared.task_row.TaskRow.{TaskRow}
use Rattle.typed_trees.specs.Plain.{TypedTree}
use Rattle.stack_code.specs.CodeData.{CodeData}
use Rattle.stack_code.specs.Compiled.{compiled}
use Rattle.task_code.specs.Asking.{CodeAsks}
use Rattle.task_code.specs.Live.{CodeFits}
use Rattle.code_laws.specs.Checked.{IsChecked}
use Rattle.cell_meaning.specs.Asking.{Asking, with_inputs}
use Rattle.cell_meaning.specs.Histories.{IsLegal}
use Rattle.cell_crew.specs.Courses.{SuitTasks}
use Rattle.cell_crew.specs.Crew.{AskAsPrograms}
use Rattle.cell_crew.specs.UnderWay.{AreUnderWay}
use Rattle.task_machine.specs.MachineData.{MachineData, request_of}
use Rattle.task_machine.specs.Standing.{StandsFor}
use Rattle.cell_state.specs.Traces.{IsAskedAt, event_place}
use Rattle.cell_state.proofs.EventPlaces.{legal_first}
use Rattle.state_text.specs.StateLines.{SourcesData}
use Rattle.state_text.specs.TraceLines.{no_sources, trace_from, trace_line, trace_lines, traced_line}
use Rattle.state_lines.specs.Sources.{sources_in}
use Rattle.cell_loading.specs.Loaded.{bytes_of}
use Rattle.sink_lines.specs.Printed.{Seen, Sunk}
use Rattle.sink_lines.specs.Written.{WritesAll, WritesPart}
use Rattle.sink_lines.proofs.Gains.{between}
use Rattle.sink_lines.proofs.Lists.{drop-at, drop-element, drop-past}
use Rattle.run_lines.proofs.Printing.{Printing, printing_fails, printing_more}

-- the code of each machine
abbrev code_in : List MachineData → List CodeData
code_in machines = map (λ (m : MachineData). m.code) machines

-- the lines of the events from k on are that of event k and those after it
trace_split : (tasks : List TaskRow) (trees : List TypedTree) (sources : List SourcesData) (history : List Event) (k : ℕ) (e : Event) → slice_get history k ≡ Some e
    → trace_from tasks trees sources (take k history) (drop k history)
    ≡ traced_line tasks trees sources (take k history) e ∷ trace_from tasks trees sources (take (k + 1) history) (drop (k + 1) history)
trace_split tasks trees sources history k e at =
    let lt : k < length history = slice_get_within history k e at in
    let same : get_or history k e ≡ e = get_or_from_slice_get history k e e at in
    ap (λ (es : List Event). trace_from tasks trees sources (take k history) es) (drop-at history k e lt)
    ∙ ap (λ (x : Event). trace_from tasks trees sources (take k history) (x ∷ drop (k + 1) history)) same
    ∙ ap (λ (before : List Event). traced_line tasks trees sources (take k history) e ∷ trace_from tasks trees sources before (drop (k + 1) history))
    (ap (λ (x : Event). take k history ++ x ∷ []) (sym same) ∙ sym (take_more history k e lt))

-- the place at which code asks is that of the trees
abbrev pub PlacesAgree : Asking → Type 0
PlacesAgree asks =
    (cell : CellData) (trees : List TypedTree) (before : List Event) (e : Event) (place : Option At) → length trees ≡ length cell.tasks → All IsChecked trees
    → AskAsPrograms CodeFits CodeAsks asks (map compiled trees) → SuitTasks CodeFits CodeAsks cell (map compiled trees) → IsLegal (with_inputs asks cell) cell before
    → IsAskedAt (map compiled trees) before e place → place ≡ event_place trees before e

-- the machines have done the first events again, whose lines are printed, whatever the trees of which they run the code
pub record AmidTrace (start machines : List MachineData) (cell : CellData) (sources : List SourcesData) (history : List Event) (k : ℕ) (sink : Sunk) : Type 0 where
  pub programs : code_in machines ≡ code_in start
  pub ways : AreUnderWay StandsFor request_of machines (take k history)
  pub printing : (trees : List TypedTree) → code_in start ≡ map compiled trees → All IsChecked trees
      → Printing (trace_lines cell.tasks trees sources history) (trace_from cell.tasks trees sources (take k history) (drop k history)) sink

module _ (asks : Asking) (cell : CellData) (start : List MachineData) (sources : List SourcesData) (history : List Event) (agree : PlacesAgree asks) (one_each : length start ≡ length cell.tasks)
    (ask : AskAsPrograms CodeFits CodeAsks asks (code_in start)) (suit : SuitTasks CodeFits CodeAsks cell (code_in start)) (legal : IsLegal (with_inputs asks cell) cell history) where
  place_is : (machines : List MachineData) (k : ℕ) (e : Event) (place : Option At) (trees : List TypedTree) → code_in start ≡ map compiled trees → All IsChecked trees → code_in machines ≡ code_in start
      → IsAskedAt (code_in machines) (take k history) e place → place ≡ event_place trees (take k history) e
  place_is machines k e place trees coded checked same is =
      agree cell trees (take k history) e place
      (sym (length-map trees compiled) ∙ ap length (sym coded) ∙ length-map start (λ (m : MachineData). m.code) ∙ one_each) checked
      (subst (λ (codes : List CodeData). AskAsPrograms CodeFits CodeAsks asks codes) coded ask) (subst (λ (codes : List CodeData). SuitTasks CodeFits CodeAsks cell codes) coded suit)
      (legal_first asks cell history k legal) (subst (λ (codes : List CodeData). IsAskedAt codes (take k history) e place) (same ∙ coded) is)

  -- the line that was written is that of the event
  line_is : (machines : List MachineData) (k : ℕ) (e : Event) (place : Option At) (tasks : List TaskRow) (trees : List TypedTree) → code_in start ≡ map compiled trees → All IsChecked trees
      → code_in machines ≡ code_in start → tasks ≡ cell.tasks → IsAskedAt (code_in machines) (take k history) e place
      → trace_line tasks (slice_index_or sources e.actor no_sources) place e ≡ traced_line cell.tasks trees sources (take k history) e
  line_is machines k e place tasks trees coded checked same named is =
      ap (λ (rows : List TaskRow). trace_line rows (slice_index_or sources e.actor no_sources) place e) named
      ∙ ap (λ (at : Option At). trace_line cell.tasks (slice_index_or sources e.actor no_sources) at e) (place_is machines k e place trees coded checked same is)

  left : (k : ℕ) (e : Event) (sink : Sunk) (machines : List MachineData) (trees : List TypedTree) → slice_get history k ≡ Some e → code_in start ≡ map compiled trees → All IsChecked trees
      → AmidTrace start machines cell sources history k sink
      → Printing (trace_lines cell.tasks trees sources history)
      (traced_line cell.tasks trees sources (take k history) e ∷ trace_from cell.tasks trees sources (take (k + 1) history) (drop (k + 1) history)) sink
  left k e sink machines trees at coded checked amid =
      subst (λ (rest : List (List ℕ)). Printing (trace_lines cell.tasks trees sources history) rest sink) (trace_split cell.tasks trees sources history k e at) (amid.printing trees coded checked)

  pub trace_more : (machines later : List MachineData) (k : ℕ) (e : Event) (place : Option At) (tasks : List TaskRow) (a b c : Seen) → slice_get history k ≡ Some e
      → AmidTrace start machines cell sources history k (between a b) → code_in later ≡ code_in machines → AreUnderWay StandsFor request_of later (take (k + 1) history)
      → IsAskedAt (code_in machines) (take k history) e place → tasks ≡ cell.tasks → WritesAll (trace_line tasks (slice_index_or sources e.actor no_sources) place e ∷ []) (between b c)
      → AmidTrace start later cell sources history (k + 1) (between a c)
  trace_more machines later k e place tasks a b c at amid same ways is named w = record {
    programs = same ∙ amid.programs;
    ways = ways;
    printing = λ trees coded checked.
        printing_more (trace_lines cell.tasks trees sources history) (traced_line cell.tasks trees sources (take k history) e)
        (trace_from cell.tasks trees sources (take (k + 1) history) (drop (k + 1) history)) a b c (left k e (between a b) machines trees at coded checked amid)
        (subst (λ (line : List ℕ). WritesAll (line ∷ []) (between b c)) (line_is machines k e place tasks trees coded checked amid.programs named is) w);
  }

  pub trace_fails : (machines : List MachineData) (k : ℕ) (e : Event) (place : Option At) (tasks : List TaskRow) (a b c : Seen) → slice_get history k ≡ Some e
      → AmidTrace start machines cell sources history k (between a b) → IsAskedAt (code_in machines) (take k history) e place → tasks ≡ cell.tasks
      → WritesPart (trace_line tasks (slice_index_or sources e.actor no_sources) place e ∷ []) (between b c) → (trees : List TypedTree) → code_in start ≡ map compiled trees → All IsChecked trees
      → WritesPart (trace_lines cell.tasks trees sources history) (between a c)
  trace_fails machines k e place tasks a b c at amid is named w = λ trees coded checked.
      printing_fails (trace_lines cell.tasks trees sources history) (traced_line cell.tasks trees sources (take k history) e)
      (trace_from cell.tasks trees sources (take (k + 1) history) (drop (k + 1) history)) a b c (left k e (between a b) machines trees at coded checked amid)
      (subst (λ (line : List ℕ). WritesPart (line ∷ []) (between b c)) (line_is machines k e place tasks trees coded checked amid.programs named is) w)

-- once all are done again, all lines are printed
pub trace_past : (tasks : List TaskRow) (trees : List TypedTree) (sources : List SourcesData) (history : List Event) (k : ℕ) → length history ≤ k
    → trace_from tasks trees sources (take k history) (drop k history) ≡ []
trace_past tasks trees sources history k past = ap (λ (es : List Event). trace_from tasks trees sources (take k history) es) (drop-past history k past)

-- the modules of a task, by the texts of the tasks from k on

abbrev pub as_sources : List (List ℕ) → List (List ℕ) → SourcesData
as_sources files texts = record { files = files; texts = texts }

pub sources_here : (tasks : List ScriptTask) (rest here : List (Vec ℕ Global)) (k number own : ℕ) (task : ScriptTask) (files : List (List ℕ)) → k < length tasks → k ≡ number → task ≡ get_or tasks k task
    → own ≡ length task.modules → files ≡ task.modules → here ≡ take own rest
    → as_sources files (bytes_of here) ≡ slice_index_or (sources_in (drop k tasks) (bytes_of rest)) (number - k) no_sources
sources_here tasks rest here k number own task files lt same is count are some =
    let none : 0 ≡ number - k = omega (arith, same) in
    ap (λ (fs : List (List ℕ)). as_sources fs (bytes_of here)) are
    ∙ ap (λ (ts : List (Vec ℕ Global)). as_sources task.modules (bytes_of ts)) some
    ∙ ap (λ (n : ℕ). as_sources task.modules (bytes_of (take n rest))) count
    ∙ ap (λ (ts : List (List ℕ)). as_sources task.modules ts) (sym (take-map (λ (v : Vec ℕ Global). v.items) (length task.modules) rest))
    ∙ ap (λ (ts : List ScriptTask). slice_index_or (sources_in ts (bytes_of rest)) 0 no_sources) (sym (drop-element tasks k task lt is))
    ∙ ap (λ (n : ℕ). slice_index_or (sources_in (drop k tasks) (bytes_of rest)) n no_sources) none

pub sources_later : (tasks : List ScriptTask) (rest later : List (Vec ℕ Global)) (k number own : ℕ) (task : ScriptTask) → k < length tasks → k < number → task ≡ get_or tasks k task
    → own ≡ length task.modules → later ≡ drop own rest
    → slice_index_or (sources_in (drop k tasks) (bytes_of rest)) (number - k) no_sources ≡ slice_index_or (sources_in (drop (k + 1) tasks) (bytes_of later)) (number - (k + 1)) no_sources
sources_later tasks rest later k number own task lt before is count more =
    let left : number - k ≡ suc (number - (k + 1)) = omega (arith, before) in
    ap (λ (ts : List ScriptTask). slice_index_or (sources_in ts (bytes_of rest)) (number - k) no_sources) (drop-element tasks k task lt is)
    ∙ ap (λ (n : ℕ). slice_index_or (sources_in (task ∷ drop (k + 1) tasks) (bytes_of rest)) n no_sources) left
    ∙ ap (λ (ts : List (List ℕ)). slice_index_or (sources_in (drop (k + 1) tasks) ts) (number - (k + 1)) no_sources)
    (drop-map (λ (v : Vec ℕ Global). v.items) (length task.modules) rest ∙ ap (λ (n : ℕ). bytes_of (drop n rest)) (sym count) ∙ ap bytes_of (sym more))

pub sources_past : (tasks : List ScriptTask) (rest : List (Vec ℕ Global)) (k n : ℕ) → length tasks ≤ k → slice_index_or (sources_in (drop k tasks) (bytes_of rest)) n no_sources ≡ no_sources
sources_past tasks rest k n past = ap (λ (ts : List ScriptTask). slice_index_or (sources_in ts (bytes_of rest)) n no_sources) (drop-past tasks k past)
