-- What an event changes according to the boards is what it changes of the cell.
use Rattle.std.proofs.Common.{◌≡◌, ℕ, ◌<◌, ◌≤◌, Bool, true, false, List, [], ◌∷◌, ◌++◌, length, get_or, Option, None, Some, refl, sym, ◌∙◌, ap, subst, arith}
use Rattle.std.specs.Prelude.{◌||◌, nat_lt, not, option_map, slice_get, if◌then◌else◌}
use Rattle.std.specs.Cmp.Lexicographic.{pointwise}
use Rattle.std.specs.List.{list_any}
use Rattle.std.proofs.lemmas.Bool.{true≢false}
use Rattle.std.proofs.lemmas.List.{length-map}
use Rattle.rapid_num.specs.declared.joints.Joints.{Joints}
use Rattle.rapid_model.specs.CellData.{CellData}
use Rattle.rapid_model.specs.Truths.{same_truth}
use Rattle.rapid_model.specs.declared.answer.Answer.{Answer}
use Rattle.rapid_model.specs.declared.answer.Answer.TheVariants as answers
use Rattle.rapid_model.specs.declared.event.Event.{Event}
use Rattle.rapid_model.specs.declared.input_row.InputRow.{InputRow}
use Rattle.rapid_model.specs.declared.path.Path.{Path}
use Rattle.rapid_model.specs.declared.pers_cell.PersCell.{PersCell}
use Rattle.rapid_model.specs.declared.request.Request.{Request}
use Rattle.rapid_model.specs.declared.request.Request.TheVariants as requests
use Rattle.rapid_model.specs.declared.value.Value.{Value}
use Rattle.rapid_model.specs.declared.value.Value.TheVariants as values
use Rattle.rapid_model.specs.declared.watched.Watched.{Watched}
use Rattle.rapid_model.specs.declared.watched.Watched.TheVariants as watched
use Rattle.rapid_values.specs.Equality.{same}
use Rattle.persist_store.specs.Stores.{PersData, row_at}
use Rattle.sync_tasks.specs.Meetings.{MeetingsData, stand_at}
use Rattle.trap_dispatch.specs.Firing.{is_change as is_change_of}
use Rattle.world_zones.specs.declared.own_zone.OwnZone.{OwnZone}
use Rattle.world_zones.specs.Zones.{ZonesData, arm_at}
use Rattle.cell_meaning.specs.Changes.{changes_of, arrives_anew, is_change}
use Rattle.cell_meaning.specs.Motion.{arm_after, moved}
use Rattle.cell_meaning.specs.Outputs.{outputs_set}
use Rattle.cell_meaning.specs.Premises.{AllAnswered}
use Rattle.cell_meaning.specs.Stored.{with_part, persistent_after, signals_after, signals_by, signals_with}
use Rattle.cell_meaning.specs.Zones.{zones_after, zones_with}
use Rattle.cell_meaning.proofs.Follow.{outputs_once}
use Rattle.cell_meaning.proofs.MoreChanges.{changes_of-WriteS, changes_of-Input, changes_of-WriteP, changes_of-TestSet, changes_of-none, changes_of-outputs, length-signals_after, outputs_by, sets_outputs}
use Rattle.cell_meaning.proofs.MoreEvents.{arm_after-own, signals_after-more, zones_after-more}
use Rattle.cell_meaning.proofs.MoreFirings.{SameChanges, counted-same, some_changes}
use Rattle.cell_meaning.proofs.OutputLists.{EachOnce}
use Rattle.cell_core.specs.Actors.{actor_at}
use Rattle.cell_core.specs.Boards.{BoardData, arm_moved, arm_on, asked_on, change_on, zones_on}
use Rattle.cell_core.specs.Changes.{watched_of, is_some_change, value_change, input_change, arrival_change, changed_outputs, outputs_change, stays_same}
use Rattle.cell_core.specs.Keeping.{Keeps}
use Rattle.cell_core.specs.Ready.{CanAnswer}
use Rattle.cell_core.specs.Soundness.{IsSound}
use Rattle.cell_core.specs.declared.change.Change.{Change}
use Rattle.cell_core.specs.declared.change.Change.TheVariants as changes
use Rattle.cell_core.proofs.OutputChanges.{changed_same}
use Rattle.cell_core.proofs.Parts.{elements_row}

value_watched : (still : Bool) (on : Watched) → watched_of (value_change still on) ≡ (if still then [] else on ∷ [])
value_watched true on = refl
value_watched false on = refl

arrival_watched : (waits : Bool) → watched_of (arrival_change waits) ≡ []
arrival_watched true = refl
arrival_watched false = refl

-- there are as many signals and persistents as the cell has
signal_there : (cell : CellData) (history : List Event) (boards : BoardData) (steps signal : ℕ) → Keeps cell history boards steps → signal < length boards.signals → signal < length cell.signals
signal_there cell history boards steps signal keeps lt = omega (arith, lt, ap length keeps.signals, length-signals_after cell history)

pub pers_count : (cell : CellData) (history : List Event) (boards : BoardData) (steps : ℕ) → Keeps cell history boards steps → length boards.store ≡ length cell.pers
pers_count cell history boards steps keeps =
    sym (length-map boards.store (λ (r : PersData). r.sort)) ∙ ap length keeps.pers.0 ∙ length-map cell.pers (λ (r : PersCell). r.sort)

-- the elements of a persistent are those after the history
pub elements_after : (cell : CellData) (history : List Event) (boards : BoardData) (steps pers : ℕ) → Keeps cell history boards steps → (row_at boards.store pers).values ≡ persistent_after cell history pers
elements_after cell history boards steps pers keeps = sym (elements_row boards.store pers) ∙ ap (λ (rows : List (List Value)). get_or rows pers []) keeps.store

signal_so : (cell : CellData) (history : List Event) (boards : BoardData) (steps signal : ℕ) (value : Bool) → Keeps cell history boards steps
    → watched_of (value_change (same_truth (get_or boards.signals signal false) value) (watched.Signal signal value)) ≡ (if same_truth (get_or (signals_after cell history) signal false) value then [] else watched.Signal signal value ∷ [])
signal_so cell history boards steps signal value keeps =
    value_watched (same_truth (get_or boards.signals signal false) value) (watched.Signal signal value)
    ∙ ap (λ (ss : List Bool). if same_truth (get_or ss signal false) value then [] else watched.Signal signal value ∷ []) keeps.signals

pers_so : (cell : CellData) (history : List Event) (boards : BoardData) (steps pers : ℕ) (path : Path) (value : Value) → Keeps cell history boards steps
    → watched_of (value_change (stays_same (row_at boards.store pers) path value) (watched.Pers pers)) ≡ (if pointwise same (persistent_after cell history pers) (with_part (persistent_after cell history pers) path value) then [] else watched.Pers pers ∷ [])
pers_so cell history boards steps pers path value keeps =
    value_watched (stays_same (row_at boards.store pers) path value) (watched.Pers pers)
    ∙ ap (λ (vs : List Value). if pointwise same vs (with_part vs path value) then [] else watched.Pers pers ∷ []) (elements_after cell history boards steps pers keeps)

-- each event of a sound history was answered
pub all_answered : (cell : CellData) (history : List Event) → IsSound cell history → AllAnswered cell history
all_answered cell history sound = record { might = λ before after e p. (sound.at before after e p).asked; answered = λ before after e p. (sound.at before after e p).answered }

-- the zones of the task's arm and where it is after the event
zones_are : (cell : CellData) (history : List Event) (boards : BoardData) (steps : ℕ) (e : Event) → Keeps cell history boards steps
    → zones_on boards e.actor e.request e.answer ≡ arm_at (zones_after cell (history ++ e ∷ [])) e.actor
zones_are cell history boards steps e keeps =
    ap (λ (zones : ZonesData). arm_at (zones_with zones e.actor e.request e.answer) e.actor) keeps.zones ∙ ap (λ (zones : ZonesData). arm_at zones e.actor) (sym (zones_after-more cell history e))

moved_is : (arm : Option Joints) (request : Request) (answer : Answer) → arm_moved arm request answer ≡ option_map (λ position. moved position request answer) arm
moved_is arm (requests.Setpoint to) answers.Given = refl
moved_is None _ _ = refl
moved_is (Some position) _ _ = refl

arm_is : (cell : CellData) (history : List Event) (boards : BoardData) (steps : ℕ) (e : Event) → Keeps cell history boards steps → e.actor ≤ length cell.tasks
    → arm_on boards e.actor e.request e.answer ≡ arm_after cell (history ++ e ∷ []) e.actor
arm_is cell history boards steps e keeps within =
    moved_is (actor_at boards.actors e.actor).arm e.request e.answer
    ∙ ap (λ (arm : Option Joints). option_map (λ (position : Joints). moved position e.request e.answer) arm) (keeps.actors e.actor within).arm ∙ sym (arm_after-own cell history e)

-- so the signals after it are those of the boards
pub signals_are : (cell : CellData) (history : List Event) (boards : BoardData) (steps : ℕ) (e : Event) → Keeps cell history boards steps → e.actor ≤ length cell.tasks
    → (asked_on cell boards e.actor e.request e.answer).signals ≡ signals_after cell (history ++ e ∷ [])
signals_are cell history boards steps e keeps within =
    let arm = arm_on boards e.actor e.request e.answer in
    let zones_now = arm_at (zones_after cell (history ++ e ∷ [])) e.actor in
    ap (λ (zones : List (Option OwnZone)). signals_with cell zones arm boards.signals e.request e.answer) (zones_are cell history boards steps e keeps)
    ∙ ap (λ (a : Option Joints). signals_with cell zones_now a boards.signals e.request e.answer) (arm_is cell history boards steps e keeps within)
    ∙ ap (λ (signals : List Bool). signals_by cell (history ++ e ∷ []) e signals) keeps.signals ∙ sym (signals_after-more cell history e)

-- and what the zones set is the same
outputs_are : (cell : CellData) (history : List Event) (boards : BoardData) (steps : ℕ) (e : Event) → Keeps cell history boards steps → e.actor ≤ length cell.tasks
    → outputs_set (zones_on boards e.actor e.request e.answer) (arm_on boards e.actor e.request e.answer) e.request e.answer ≡ outputs_by cell history e
outputs_are cell history boards steps e keeps within =
    ap (λ (zones : List (Option OwnZone)). outputs_set zones (arm_on boards e.actor e.request e.answer) e.request e.answer) (zones_are cell history boards steps e keeps)
    ∙ ap (λ (arm : Option Joints). outputs_set (arm_at (zones_after cell (history ++ e ∷ [])) e.actor) arm e.request e.answer) (arm_is cell history boards steps e keeps within)

-- what zones set is a change if there is any
some_outputs : (c : Watched) (changed : List Watched) → outputs_change (c ∷ changed) ≡ changes.Outputs (c ∷ changed)
some_outputs c changed = ap (λ (b : Bool). if b then changes.Outputs (c ∷ changed) else changes.Nothing) (some_changes c changed)

watched_outputs : (changed : List Watched) → watched_of (outputs_change changed) ≡ changed
watched_outputs [] = refl
watched_outputs (c ∷ changed) = ap watched_of (some_outputs c changed)

outputs_counts : (changed : List Watched) → is_some_change (outputs_change changed) ≡ nat_lt 0 (length (watched_of (outputs_change changed)))
outputs_counts [] = refl
outputs_counts (c ∷ changed) = ap is_some_change (some_outputs c changed) ∙ sym (ap (λ (change : Change). nat_lt 0 (length (watched_of change))) (some_outputs c changed) ∙ some_changes c changed)

outputs_same : (cell : CellData) (history : List Event) (boards : BoardData) (steps : ℕ) (e : Event) → Keeps cell history boards steps → e.actor ≤ length cell.tasks → AllAnswered cell (history ++ e ∷ [])
    → sets_outputs e.request e.answer ≡ true
    → SameChanges (watched_of (outputs_change (changed_outputs boards.signals (outputs_set (zones_on boards e.actor e.request e.answer) (arm_on boards e.actor e.request e.answer) e.request e.answer)))) (changes_of cell history e)
outputs_same cell history boards steps e keeps within asked sets on =
    let set_now = outputs_set (zones_on boards e.actor e.request e.answer) (arm_on boards e.actor e.request e.answer) e.request e.answer in
    let once = subst (λ (count : ℕ). EachOnce count (outputs_by cell history e)) (sym (length-signals_after cell history)) (outputs_once cell history e asked) in
    ap (λ (changes : List Watched). list_any (is_change_of on) changes) (watched_outputs (changed_outputs boards.signals set_now))
    ∙ ap (λ (signals : List Bool). list_any (is_change_of on) (changed_outputs signals set_now)) keeps.signals
    ∙ ap (λ (os : List (ℕ × Bool)). list_any (is_change_of on) (changed_outputs (signals_after cell history) os)) (outputs_are cell history boards steps e keeps within)
    ∙ changed_same (signals_after cell history) (outputs_by cell history e) once on
    ∙ ap (λ (changes : List Watched). list_any (is_change_of on) changes) (sym (changes_of-outputs cell history e sets))

of_equal : (first second : List Watched) → first ≡ second → SameChanges first second
of_equal first second is on = ap (λ (changes : List Watched). list_any (is_change_of on) changes) is

abbrev event_of : ℕ → Request → Answer → Event
event_of actor request answer = record { actor = actor; request = request; answer = answer }

-- what the boards say that the event changes is what it changes
pub change_same : (cell : CellData) (history : List Event) (boards : BoardData) (steps actor : ℕ) (request : Request) (answer : Answer) → Keeps cell history boards steps → actor ≤ length cell.tasks
    → AllAnswered cell (history ++ event_of actor request answer ∷ []) → CanAnswer cell boards actor request
    → SameChanges (watched_of (change_on cell boards actor request answer)) (changes_of cell history (event_of actor request answer))
change_same cell history boards steps actor (requests.WriteS signal value) answers.Ok keeps within asked can =
    of_equal _ _ (signal_so cell history boards steps signal value keeps ∙ sym (changes_of-WriteS cell history actor signal value (signal_there cell history boards steps signal keeps can)))
change_same cell history boards steps actor (requests.Input index) answers.Ok keeps within asked can =
    of_equal _ _ (ap (λ (o : Option InputRow). watched_of (input_change boards.signals o)) can.there
    ∙ signal_so cell history boards steps can.row.signal can.row.value keeps
    ∙ sym (changes_of-Input cell history actor index can.row can.there (signal_there cell history boards steps can.row.signal keeps can.signal)))
change_same cell history boards steps actor (requests.WriteP pers path value) answers.Ok keeps within asked can =
    of_equal _ _ (pers_so cell history boards steps pers path value keeps
    ∙ sym (changes_of-WriteP cell history actor pers path value (omega (arith, can.0.there, pers_count cell history boards steps keeps))))
change_same cell history boards steps actor (requests.TestSet pers path) (answers.Yes true) keeps within asked can =
    of_equal _ _ (pers_so cell history boards steps pers path (values.Bool true) keeps
    ∙ sym (changes_of-TestSet cell history actor pers path (omega (arith, can.0.there, pers_count cell history boards steps keeps))))
change_same cell history boards steps actor (requests.Arrive meeting tasks) answer keeps within asked can =
    of_equal _ _ (arrival_watched (stand_at boards.meetings actor meeting).waits ∙ sym (changes_of-none cell history (event_of actor (requests.Arrive meeting tasks) answer) refl))
change_same cell history boards steps actor (requests.ZoneTie old temporary shape signal value) (answers.Number number) keeps within asked can =
    outputs_same cell history boards steps (event_of actor (requests.ZoneTie old temporary shape signal value) (answers.Number number)) keeps within asked refl
change_same cell history boards steps actor (requests.ZoneOn number) answers.Ok keeps within asked can = outputs_same cell history boards steps (event_of actor (requests.ZoneOn number) answers.Ok) keeps within asked refl
change_same cell history boards steps actor (requests.Setpoint to) answers.Given keeps within asked can = outputs_same cell history boards steps (event_of actor (requests.Setpoint to) answers.Given) keeps within asked refl
change_same cell history boards steps actor request answer keeps within asked can = of_equal _ _ (sym (changes_of-none cell history (event_of actor request answer) refl))

-- it is a change if it changes a value, or is an arrival of a task that was not waiting
abbrev is_arrival : Request → Bool
is_arrival (requests.Arrive meeting tasks) = true
is_arrival _ = false

value_counts : (still : Bool) (on : Watched) → is_some_change (value_change still on) ≡ nat_lt 0 (length (watched_of (value_change still on)))
value_counts true on = refl
value_counts false on = refl

input_counts : (signals : List Bool) (row : Option InputRow) → is_some_change (input_change signals row) ≡ nat_lt 0 (length (watched_of (input_change signals row)))
input_counts signals None = refl
input_counts signals (Some row) = value_counts (same_truth (get_or signals row.signal false) row.value) (watched.Signal row.signal row.value)

by_value : (cell : CellData) (boards : BoardData) (actor : ℕ) (request : Request) (answer : Answer) → is_arrival request ≡ false
    → is_some_change (change_on cell boards actor request answer) ≡ nat_lt 0 (length (watched_of (change_on cell boards actor request answer)))
by_value cell boards actor (requests.WriteS signal value) answers.Ok not_one = value_counts (same_truth (get_or boards.signals signal false) value) (watched.Signal signal value)
by_value cell boards actor (requests.Input index) answers.Ok not_one = input_counts boards.signals (slice_get cell.inputs index)
by_value cell boards actor (requests.WriteP pers path value) answers.Ok not_one = value_counts (stays_same (row_at boards.store pers) path value) (watched.Pers pers)
by_value cell boards actor (requests.TestSet pers path) (answers.Yes true) not_one = value_counts (stays_same (row_at boards.store pers) path (values.Bool true)) (watched.Pers pers)
by_value cell boards actor (requests.Arrive meeting tasks) answer not_one = absurd (true≢false not_one)
by_value cell boards actor (requests.ZoneTie old temporary shape signal value) (answers.Number number) not_one = outputs_counts _
by_value cell boards actor (requests.ZoneOn number) answers.Ok not_one = outputs_counts _
by_value cell boards actor (requests.Setpoint to) answers.Given not_one = outputs_counts _
by_value cell boards actor request answer not_one = refl

none_anew : (cell : CellData) (history : List Event) (actor : ℕ) (request : Request) → is_arrival request ≡ false → arrives_anew cell history actor request ≡ false
none_anew cell history actor (requests.Arrive meeting tasks) not_one = absurd (true≢false not_one)
none_anew cell history actor _ not_one = refl

or_none : (a b : Bool) → b ≡ false → a ≡ (a || b)
or_none true b h = refl
or_none false b h = sym h

arrival_counts : (waits : Bool) → is_some_change (arrival_change waits) ≡ not waits
arrival_counts true = refl
arrival_counts false = refl

other_counted : (cell : CellData) (history : List Event) (boards : BoardData) (steps actor : ℕ) (request : Request) (answer : Answer) → is_arrival request ≡ false → Keeps cell history boards steps
    → actor ≤ length cell.tasks → AllAnswered cell (history ++ event_of actor request answer ∷ []) → CanAnswer cell boards actor request
    → is_some_change (change_on cell boards actor request answer) ≡ is_change cell history (event_of actor request answer)
other_counted cell history boards steps actor request answer not_one keeps within asked can =
    by_value cell boards actor request answer not_one
    ∙ counted-same (watched_of (change_on cell boards actor request answer)) (changes_of cell history (event_of actor request answer)) (change_same cell history boards steps actor request answer keeps within asked can)
    ∙ or_none (nat_lt 0 (length (changes_of cell history (event_of actor request answer)))) (arrives_anew cell history actor request) (none_anew cell history actor request not_one)

pub change_counted : (cell : CellData) (history : List Event) (boards : BoardData) (steps actor : ℕ) (request : Request) (answer : Answer) → Keeps cell history boards steps → actor ≤ length cell.tasks
    → AllAnswered cell (history ++ event_of actor request answer ∷ []) → CanAnswer cell boards actor request
    → is_some_change (change_on cell boards actor request answer) ≡ is_change cell history (event_of actor request answer)
change_counted cell history boards steps actor (requests.Arrive meeting tasks) answer keeps within asked can =
    arrival_counts (stand_at boards.meetings actor meeting).waits
    ∙ ap (λ (m : MeetingsData). not (stand_at m actor meeting).waits) keeps.meetings
    ∙ sym (ap (λ (c : List Watched). nat_lt 0 (length c) || arrives_anew cell history actor (requests.Arrive meeting tasks))
    (changes_of-none cell history (event_of actor (requests.Arrive meeting tasks) answer) refl))
change_counted cell history boards steps actor request answer keeps within asked can = other_counted cell history boards steps actor request answer refl keeps within asked can
