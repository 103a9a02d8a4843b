-- What one event changes among the values of signals and persistents.
use Rattle.std.proofs.Common.{◌≡◌, ℕ, zero, suc, ◌+◌, ◌<◌, Bool, true, false, List, [], ◌∷◌, ◌++◌, length, get_or, set, Option, None, Some, refl, ◌∙◌, ap, arith}
use Rattle.std.specs.Prelude.{◌&&◌, if◌then◌else◌, slice_get}
use Rattle.std.specs.Cmp.Lexicographic.{pointwise}
use Rattle.std.proofs.lemmas.Bool.{false≢true, true≢false}
use Rattle.std.proofs.lemmas.List.{append-nil, length-map, length-set}
use Rattle.rapid_model.specs.CellData.{CellData}
use Rattle.rapid_model.specs.Truths.{same_truth}
use Rattle.rapid_model.specs.declared.answer.Answer.{Answer}
use Rattle.rapid_model.specs.declared.answer.Answer.TheVariants as answers
use Rattle.rapid_model.specs.declared.event.Event.{Event}
use Rattle.rapid_model.specs.declared.input_row.InputRow.{InputRow}
use Rattle.rapid_model.specs.declared.path.Path.{Path}
use Rattle.rapid_model.specs.declared.request.Request.{Request}
use Rattle.rapid_model.specs.declared.request.Request.TheVariants as requests
use Rattle.rapid_model.specs.declared.value.Value.{Value}
use Rattle.rapid_model.specs.declared.value.Value.TheVariants as values
use Rattle.rapid_model.specs.declared.watched.Watched.{Watched}
use Rattle.rapid_model.specs.declared.watched.Watched.TheVariants as watched
use Rattle.rapid_num.specs.declared.joints.Joints.{Joints}
use Rattle.rapid_values.specs.Equality.{same}
use Rattle.rapid_values.proofs.Equalities.{same_decides}
use Rattle.world_zones.specs.declared.own_zone.OwnZone.{OwnZone}
use Rattle.world_zones.specs.Zones.{arm_at}
use Rattle.cell_meaning.specs.Changes.{changed_signals, changed_persistents, changes_of}
use Rattle.cell_meaning.specs.Motion.{arm_after}
use Rattle.cell_meaning.specs.Outputs.{outputs_set, with_outputs}
use Rattle.cell_meaning.specs.Stored.{with_input, signals_written, signals_with, signals_by, signals_after, signal_after, with_part, persistents_with, persistents_after, persistent_after}
use Rattle.cell_meaning.specs.Zones.{zones_after}
use Rattle.cell_meaning.proofs.Lists.{from_front}
use Rattle.cell_meaning.proofs.MoreEvents.{signals_after-more, persistents_after-more}
use Rattle.cell_meaning.proofs.OutputLists.{length-with_outputs}

-- a list equals itself
pub all_same : {A : Type 0} (test : A → A → Bool) → ((x : A) → test x x ≡ true) → (xs : List A) → pointwise test xs xs ≡ true
all_same test each [] = refl
all_same test each (x ∷ xs) = ap (λ b. b && pointwise test xs xs) (each x) ∙ all_same test each xs

-- and equals the list with one element written exactly if that element is equal
pub same_but_one : {A : Type 0} (test : A → A → Bool) → ((x : A) → test x x ≡ true) → (xs : List A) (i : ℕ) (a d : A) → i < length xs → pointwise test xs (set xs i a) ≡ test (get_or xs i d) a
same_but_one test each [] i a d lt = absurd (omega arith)
same_but_one test each (x ∷ xs) zero a d lt = ap (λ b. test x a && b) (all_same test each xs) ∙ and_true (test x a)
  where
    and_true : (b : Bool) → (b && true) ≡ b
    and_true true = refl
    and_true false = refl
same_but_one test each (x ∷ xs) (suc i) a d lt = ap (λ b. b && pointwise test xs (set xs i a)) (each x) ∙ same_but_one test each xs i a d (omega arith)

pub truth_same : (b : Bool) → same_truth b b ≡ true
truth_same true = refl
truth_same false = refl

pub value_same : (v : Value) → same v v ≡ true
value_same v = (same_decides v v).1 refl

pub elements_same : (elements : List Value) → pointwise same elements elements ≡ true
elements_same elements = all_same same value_same elements

none_where : (b : Bool) (change : Watched) → b ≡ true → (if b then [] else change ∷ []) ≡ []
none_where b change is = ap (λ (x : Bool). if x then [] else change ∷ []) is

-- no signal has another value
no_signal : (signal : ℕ) (old : List Bool) → changed_signals signal old old ≡ []
no_signal signal [] = refl
no_signal signal (v ∷ old) = ap (λ (c : List Watched). c ++ changed_signals (signal + 1) old old) (none_where (same_truth v v) (watched.Signal signal v) (truth_same v)) ∙ no_signal (signal + 1) old

no_persistent : (pers : ℕ) (old : List (List Value)) → changed_persistents pers old old ≡ []
no_persistent pers [] = refl
no_persistent pers (row ∷ old) =
    ap (λ (c : List Watched). c ++ changed_persistents (pers + 1) old old) (none_where (pointwise same row row) (watched.Pers pers) (elements_same row)) ∙ no_persistent (pers + 1) old

-- one signal is written
one_signal : (first at number : ℕ) (old : List Bool) (value : Bool) → at < length old → first + at ≡ number
    → changed_signals first old (set old at value) ≡ (if same_truth (get_or old at false) value then [] else watched.Signal number value ∷ [])
one_signal first at number [] value lt is = absurd (omega arith)
one_signal first zero number (v ∷ old) value lt is =
    let same_number : first ≡ number = omega arith in
    ap (λ (c : List Watched). (if same_truth v value then [] else watched.Signal first value ∷ []) ++ c) (no_signal (first + 1) old)
    ∙ append-nil (if same_truth v value then [] else watched.Signal first value ∷ [])
    ∙ ap (λ (k : ℕ). if same_truth v value then [] else watched.Signal k value ∷ []) same_number
one_signal first (suc at) number (v ∷ old) value lt is =
    ap (λ (c : List Watched). c ++ changed_signals (first + 1) old (set old at value)) (none_where (same_truth v v) (watched.Signal first v) (truth_same v))
    ∙ one_signal (first + 1) at number old value (omega arith) (omega arith)

-- one persistent is written
one_persistent : (first at number : ℕ) (old : List (List Value)) (row : List Value) → at < length old → first + at ≡ number
    → changed_persistents first old (set old at row) ≡ (if pointwise same (get_or old at []) row then [] else watched.Pers number ∷ [])
one_persistent first at number [] row lt is = absurd (omega arith)
one_persistent first zero number (r ∷ old) row lt is =
    let same_number : first ≡ number = omega arith in
    ap (λ (c : List Watched). (if pointwise same r row then [] else watched.Pers first ∷ []) ++ c) (no_persistent (first + 1) old)
    ∙ append-nil (if pointwise same r row then [] else watched.Pers first ∷ [])
    ∙ ap (λ (k : ℕ). if pointwise same r row then [] else watched.Pers k ∷ []) same_number
one_persistent first (suc at) number (r ∷ old) row lt is =
    ap (λ (c : List Watched). c ++ changed_persistents (first + 1) old (set old at row)) (none_where (pointwise same r r) (watched.Pers first) (elements_same r))
    ∙ one_persistent (first + 1) at number old row (omega arith) (omega arith)

-- there are as many values as signals and persistents of the cell
length-input : (signals : List Bool) (row : Option InputRow) → length (with_input signals row) ≡ length signals
length-input signals None = refl
length-input signals (Some row) = length-set signals row.signal row.value

pub length-signals_written : (cell : CellData) (signals : List Bool) (request : Request) (answer : Answer) → length (signals_written cell signals request answer) ≡ length signals
length-signals_written cell signals (requests.WriteS signal value) answers.Ok = length-set signals signal value
length-signals_written cell signals (requests.Input index) answers.Ok = length-input signals (slice_get cell.inputs index)
length-signals_written cell signals _ _ = refl

-- what the zones of an event's task set
abbrev pub outputs_by : CellData → List Event → Event → List (ℕ × Bool)
outputs_by cell before e = outputs_set (arm_at (zones_after cell (before ++ e ∷ [])) e.actor) (arm_after cell (before ++ e ∷ []) e.actor) e.request e.answer

pub length-signals_after : (cell : CellData) (history : List Event) → length (signals_after cell history) ≡ length cell.signals
length-signals_after cell history =
    from_front (λ h. length (signals_after cell h) ≡ length cell.signals) history (length-map cell.signals (λ row. row.start))
    (λ before after e is many. ap length (signals_after-more cell before e) ∙ length-with_outputs (signals_written cell (signals_after cell before) e.request e.answer) (outputs_by cell before e)
    ∙ length-signals_written cell (signals_after cell before) e.request e.answer ∙ many)

length-persistents_with : (rows : List (List Value)) (request : Request) (answer : Answer) → length (persistents_with rows request answer) ≡ length rows
length-persistents_with rows (requests.WriteP pers path value) answers.Ok = length-set rows pers _
length-persistents_with rows (requests.TestSet pers path) (answers.Yes true) = length-set rows pers _
length-persistents_with rows _ _ = refl

pub length-persistents_after : (cell : CellData) (history : List Event) → length (persistents_after cell history) ≡ length cell.pers
length-persistents_after cell history =
    from_front (λ h. length (persistents_after cell h) ≡ length cell.pers) history (length-map cell.pers (λ row. row.first))
    (λ before after e is many. ap length (persistents_after-more cell before e) ∙ length-persistents_with (persistents_after cell before) e.request e.answer ∙ many)

-- the values after an event
abbrev changed : CellData → List Event → List Bool → List (List Value) → List Watched
changed cell before signals rows = changed_signals 0 (signals_after cell before) signals ++ changed_persistents 0 (persistents_after cell before) rows

changes_so : (cell : CellData) (before : List Event) (e : Event)
    → changes_of cell before e ≡ changed cell before (signals_by cell (before ++ e ∷ []) e (signals_after cell before)) (persistents_with (persistents_after cell before) e.request e.answer)
changes_so cell before e =
    ap (λ (signals : List Bool). changed cell before signals (persistents_after cell (before ++ e ∷ []))) (signals_after-more cell before e)
    ∙ ap (λ (rows : List (List Value)). changed cell before (signals_by cell (before ++ e ∷ []) e (signals_after cell before)) rows) (persistents_after-more cell before e)

signal_alone : (cell : CellData) (before : List Event) (signal : ℕ) (value : Bool) → signal < length cell.signals
    → changed cell before (set (signals_after cell before) signal value) (persistents_after cell before) ≡ (if same_truth (signal_after cell before signal) value then [] else watched.Signal signal value ∷ [])
signal_alone cell before signal value lt =
    let many = length-signals_after cell before in
    ap (λ (c : List Watched). changed_signals 0 (signals_after cell before) (set (signals_after cell before) signal value) ++ c) (no_persistent 0 (persistents_after cell before))
    ∙ append-nil (changed_signals 0 (signals_after cell before) (set (signals_after cell before) signal value))
    ∙ one_signal 0 signal signal (signals_after cell before) value (omega (arith, many, lt)) (omega arith)

persistent_alone : (cell : CellData) (before : List Event) (pers : ℕ) (row : List Value) → pers < length cell.pers
    → changed cell before (signals_after cell before) (set (persistents_after cell before) pers row) ≡ (if pointwise same (persistent_after cell before pers) row then [] else watched.Pers pers ∷ [])
persistent_alone cell before pers row lt =
    let many = length-persistents_after cell before in
    ap (λ (c : List Watched). c ++ changed_persistents 0 (persistents_after cell before) (set (persistents_after cell before) pers row)) (no_signal 0 (signals_after cell before))
    ∙ one_persistent 0 pers pers (persistents_after cell before) row (omega (arith, many, lt)) (omega arith)

-- a write of a signal changes only that signal, if it has another value
pub changes_of-WriteS : (cell : CellData) (before : List Event) (actor signal : ℕ) (value : Bool) → signal < length cell.signals
    → changes_of cell before (record { actor = actor; request = requests.WriteS signal value; answer = answers.Ok }) ≡ (if same_truth (signal_after cell before signal) value then [] else watched.Signal signal value ∷ [])
changes_of-WriteS cell before actor signal value lt =
    changes_so cell before (record { actor = actor; request = requests.WriteS signal value; answer = answers.Ok }) ∙ signal_alone cell before signal value lt

-- so does a step of the input script
pub changes_of-Input : (cell : CellData) (before : List Event) (actor index : ℕ) (row : InputRow) → slice_get cell.inputs index ≡ Some row → row.signal < length cell.signals
    → changes_of cell before (record { actor = actor; request = requests.Input index; answer = answers.Ok }) ≡ (if same_truth (signal_after cell before row.signal) row.value then [] else watched.Signal row.signal row.value ∷ [])
changes_of-Input cell before actor index row at lt =
    changes_so cell before (record { actor = actor; request = requests.Input index; answer = answers.Ok })
    ∙ ap (λ (o : Option InputRow). changed cell before (with_input (signals_after cell before) o) (persistents_after cell before)) at
    ∙ signal_alone cell before row.signal row.value lt

-- a write of a part changes only its persistent, if an element has another value
pub changes_of-WriteP : (cell : CellData) (before : List Event) (actor pers : ℕ) (path : Path) (value : Value) → pers < length cell.pers
    → changes_of cell before (record { actor = actor; request = requests.WriteP pers path value; answer = answers.Ok })
    ≡ (if pointwise same (persistent_after cell before pers) (with_part (persistent_after cell before pers) path value) then [] else watched.Pers pers ∷ [])
changes_of-WriteP cell before actor pers path value lt =
    changes_so cell before (record { actor = actor; request = requests.WriteP pers path value; answer = answers.Ok })
    ∙ persistent_alone cell before pers (with_part (persistent_after cell before pers) path value) lt

pub changes_of-TestSet : (cell : CellData) (before : List Event) (actor pers : ℕ) (path : Path) → pers < length cell.pers
    → changes_of cell before (record { actor = actor; request = requests.TestSet pers path; answer = answers.Yes true })
    ≡ (if pointwise same (persistent_after cell before pers) (with_part (persistent_after cell before pers) path (values.Bool true)) then [] else watched.Pers pers ∷ [])
changes_of-TestSet cell before actor pers path lt =
    changes_so cell before (record { actor = actor; request = requests.TestSet pers path; answer = answers.Yes true })
    ∙ persistent_alone cell before pers (with_part (persistent_after cell before pers) path (values.Bool true)) lt

-- a request with this answer may change a value
abbrev pub may_change : Request → Answer → Bool
may_change (requests.WriteS signal value) answers.Ok = true
may_change (requests.Input index) answers.Ok = true
may_change (requests.WriteP pers path value) answers.Ok = true
may_change (requests.TestSet pers path) (answers.Yes true) = true
may_change (requests.ZoneTie old temporary shape signal value) (answers.Number number) = true
may_change (requests.ZoneOn number) answers.Ok = true
may_change (requests.Setpoint to) answers.Given = true
may_change _ _ = false

signals_kept : (cell : CellData) (zones : List (Option OwnZone)) (arm : Option Joints) (signals : List Bool) (request : Request) (answer : Answer) → may_change request answer ≡ false
    → signals_with cell zones arm signals request answer ≡ signals
signals_kept cell zones arm signals (requests.WriteS signal value) answers.Ok never = absurd (true≢false never)
signals_kept cell zones arm signals (requests.Input index) answers.Ok never = absurd (true≢false never)
signals_kept cell zones arm signals (requests.ZoneTie old temporary shape signal value) (answers.Number number) never = absurd (true≢false never)
signals_kept cell zones arm signals (requests.ZoneOn number) answers.Ok never = absurd (true≢false never)
signals_kept cell zones arm signals (requests.Setpoint to) answers.Given never = absurd (true≢false never)
signals_kept cell zones arm signals _ _ never = refl

persistents_kept : (rows : List (List Value)) (request : Request) (answer : Answer) → may_change request answer ≡ false → persistents_with rows request answer ≡ rows
persistents_kept rows (requests.WriteP pers path value) answers.Ok never = absurd (true≢false never)
persistents_kept rows (requests.TestSet pers path) (answers.Yes true) never = absurd (true≢false never)
persistents_kept rows _ _ never = refl

-- any other changes nothing
pub changes_of-none : (cell : CellData) (before : List Event) (e : Event) → may_change e.request e.answer ≡ false → changes_of cell before e ≡ []
changes_of-none cell before e never =
    changes_so cell before e
    ∙ ap (λ (signals : List Bool). changed cell before signals (persistents_with (persistents_after cell before) e.request e.answer))
    (signals_kept cell (arm_at (zones_after cell (before ++ e ∷ [])) e.actor) (arm_after cell (before ++ e ∷ []) e.actor) (signals_after cell before) e.request e.answer never)
    ∙ ap (λ (rows : List (List Value)). changed cell before (signals_after cell before) rows) (persistents_kept (persistents_after cell before) e.request e.answer never)
    ∙ ap (λ (c : List Watched). c ++ changed_persistents 0 (persistents_after cell before) (persistents_after cell before)) (no_signal 0 (signals_after cell before))
    ∙ no_persistent 0 (persistents_after cell before)

-- a zone that is given or switched on, and a setpoint, change only signals that zones set
abbrev pub sets_outputs : Request → Answer → Bool
sets_outputs (requests.ZoneTie old temporary shape signal value) (answers.Number number) = true
sets_outputs (requests.ZoneOn number) answers.Ok = true
sets_outputs (requests.Setpoint to) answers.Given = true
sets_outputs _ _ = false

none_written : (cell : CellData) (signals : List Bool) (request : Request) (answer : Answer) → sets_outputs request answer ≡ true → signals_written cell signals request answer ≡ signals
none_written cell signals (requests.WriteS signal value) answer sets = absurd (false≢true sets)
none_written cell signals (requests.Input index) answer sets = absurd (false≢true sets)
none_written cell signals _ _ sets = refl

none_stored : (rows : List (List Value)) (request : Request) (answer : Answer) → sets_outputs request answer ≡ true → persistents_with rows request answer ≡ rows
none_stored rows (requests.WriteP pers path value) answer sets = absurd (false≢true sets)
none_stored rows (requests.TestSet pers path) answer sets = absurd (false≢true sets)
none_stored rows _ _ sets = refl

pub changes_of-outputs : (cell : CellData) (before : List Event) (e : Event) → sets_outputs e.request e.answer ≡ true
    → changes_of cell before e ≡ changed_signals 0 (signals_after cell before) (with_outputs (signals_after cell before) (outputs_by cell before e))
changes_of-outputs cell before e sets =
    let now : List Bool = with_outputs (signals_after cell before) (outputs_by cell before e) in
    changes_so cell before e
    ∙ ap (λ (signals : List Bool). changed cell before (with_outputs signals (outputs_by cell before e)) (persistents_with (persistents_after cell before) e.request e.answer))
    (none_written cell (signals_after cell before) e.request e.answer sets)
    ∙ ap (λ (rows : List (List Value)). changed cell before now rows) (none_stored (persistents_after cell before) e.request e.answer sets)
    ∙ ap (λ (c : List Watched). changed_signals 0 (signals_after cell before) now ++ c) (no_persistent 0 (persistents_after cell before))
    ∙ append-nil (changed_signals 0 (signals_after cell before) now)
