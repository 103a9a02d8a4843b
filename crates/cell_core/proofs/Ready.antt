-- The boards have what a request needs if an actor may ask it.
use Rattle.std.proofs.Common.{◌≡◌, ◌⊎◌, inl, inr, ℕ, zero, suc, ◌+◌, ◌-◌, ◌*◌, ◌<◌, ◌≤◌, ◌^◌, Bool, true, false, cond, List, [], ◌∷◌, ◌++◌, length, map, get_or, Option, None, Some, refl, sym, ◌∙◌, ap, subst, arith, length-append, length-set}
use Rattle.std.specs.Prelude.{IsTrue, IfSome, not, ◌&&◌, ◌==◌, nat_lt, nat_le, is_some, slice_get, count_by, replicate, ⊤, if◌then◌else◌}
use Rattle.std.specs.List.{All, list_all}
use Rattle.std.proofs.lemmas.Bool.{and_parts, eq-eqb, eqb-true, ltb-true, false≢true}
use Rattle.std.proofs.lemmas.List.{get_or-map, length-replicate}
use Rattle.std.proofs.lemmas.List.Sums.{count_by-le-length}
use Rattle.std.proofs.lemmas.Option.{slice_get-get_or, slice_get_within, get_or_from_slice_get}
use Rattle.rapid_model.specs.CellData.{CellData}
use Rattle.rapid_model.specs.Limits.{axes_at, holds_where_there, has_arm, is_input, is_input_signal, is_within, is_zone, is_zone_shape}
use Rattle.rapid_model.specs.Names.{is_short_name}
use Rattle.rapid_model.specs.Own.{part_of, is_trap, is_leave}
use Rattle.rapid_model.specs.Paths.{fits_part, has_element, has_path, part_sort}
use Rattle.rapid_model.specs.Requests.{is_bool, of_pers}
use Rattle.rapid_model.specs.declared.answer.Answer.{Answer}
use Rattle.rapid_model.specs.declared.answer.Answer.TheVariants as answers
use Rattle.rapid_model.specs.declared.event.Event.{Event}
use Rattle.rapid_model.specs.declared.input_row.InputRow.{InputRow}
use Rattle.rapid_model.specs.declared.path.Path.{Path}
use Rattle.rapid_model.specs.declared.pers_cell.PersCell.{PersCell}
use Rattle.rapid_model.specs.declared.request.Request.{Request}
use Rattle.rapid_model.specs.declared.request.Request.TheVariants as requests
use Rattle.rapid_model.specs.declared.signal_row.SignalRow.{SignalRow}
use Rattle.rapid_model.specs.declared.sort.Sort.{Sort}
use Rattle.rapid_model.specs.declared.sort.Sort.TheVariants as sorts
use Rattle.rapid_model.specs.declared.task_row.TaskRow.{TaskRow}
use Rattle.rapid_model.specs.declared.value.Value.{Value}
use Rattle.rapid_model.specs.declared.zone_row.ZoneRow.{ZoneRow}
use Rattle.rapid_model.proofs.Lists.{filter_short}
use Rattle.persist_store.specs.Stores.{PersData, IsKept, no_row, row_at}
use Rattle.persist_store.proofs.Elements.{holds_at}
use Rattle.sync_tasks.specs.declared.stand.Stand.{Stand}
use Rattle.sync_tasks.specs.Meetings.{MeetingsData, at_start, stand_at}
use Rattle.trap_dispatch.specs.Tasks.{TaskData, before_all}
use Rattle.trap_dispatch.specs.Traps.{task_at}
use Rattle.world_zones.specs.declared.cell_zone.CellZone.{CellZone}
use Rattle.world_zones.specs.declared.own_zone.OwnZone.{OwnZone}
use Rattle.world_zones.specs.Outputs.{output_at, ties, tying}
use Rattle.world_zones.specs.Zones.{ZonesData, arm_at, given, no_zones, switched, with_arm, with_zone, zone_at, zone_of}
use Rattle.cell_meaning.specs.MayAsk.{may_ask}
use Rattle.cell_meaning.specs.Motion.{is_given}
use Rattle.cell_meaning.specs.Meetings.{stands_with, stands_after}
use Rattle.cell_meaning.specs.Stored.{persistent_after}
use Rattle.cell_meaning.specs.Zones.{zones_with, zones_after}
use Rattle.cell_meaning.proofs.Asked.{TaskMay, ScriptMay, who_may}
use Rattle.cell_meaning.proofs.Follow.{output_ties}
use Rattle.cell_meaning.proofs.InterruptsKept.{tasks_kept}
use Rattle.cell_meaning.proofs.Lists.{from_front, written_keeps}
use Rattle.cell_meaning.proofs.MoreChanges.{length-signals_after}
use Rattle.cell_meaning.proofs.MoreEvents.{stands_after-more, zones_after-more}
use Rattle.cell_meaning.proofs.Numbered.{entry_at-next}
use Rattle.cell_meaning.proofs.Ties.{tied_there}
use Rattle.cell_meaning.proofs.ValuesKept.{values_kept, test_of}
use Rattle.cell_meaning.proofs.ZonesTold.{arms_with}
use Rattle.cell_core.specs.Boards.{BoardData}
use Rattle.cell_core.specs.Keeping.{Keeps}
use Rattle.cell_core.specs.Ready.{HasPart, CanAnswer, CanCount, CanPass, CanSet, OutputsThere}
use Rattle.cell_core.proofs.Changing.{all_answered, elements_after, pers_count}
use Rattle.cell_core.proofs.Growing.{few_events}

-- the arms and the zones of the cell
record ZonesStand (cell : CellData) (zones : ZonesData) : Type 0 where
  arms : length zones.arms ≡ length cell.tasks
  same : zones.cell ≡ map zone_of cell.zones

stand_with : (cell : CellData) (zones : ZonesData) (task : ℕ) (request : Request) (answer : Answer) → ZonesStand cell zones → ZonesStand cell (zones_with zones task request answer)
stand_with cell zones task (requests.ZoneSet old temporary shape) (answers.Number number) stand = record { arms = length-set zones.arms task _ ∙ stand.arms; same = stand.same }
stand_with cell zones task (requests.ZoneTie old temporary shape signal value) (answers.Number number) stand = record { arms = length-set zones.arms task _ ∙ stand.arms; same = stand.same }
stand_with cell zones task (requests.ZoneOn zone) answers.Ok stand = record { arms = length-set zones.arms task _ ∙ stand.arms; same = stand.same }
stand_with cell zones task (requests.ZoneOff zone) answers.Ok stand = record { arms = length-set zones.arms task _ ∙ stand.arms; same = stand.same }
stand_with cell zones task (requests.ZoneFree zone) answers.Ok stand = record { arms = length-set zones.arms task _ ∙ stand.arms; same = stand.same }
stand_with cell zones task _ _ stand = stand

zones_stand : (cell : CellData) (history : List Event) → ZonesStand cell (zones_after cell history)
zones_stand cell history =
    from_front (λ h. ZonesStand cell (zones_after cell h)) history (record { arms = length-replicate (length cell.tasks) no_zones; same = refl })
    (λ before after e is stand. subst (ZonesStand cell) (sym (zones_after-more cell before e)) (stand_with cell (zones_after cell before) e.actor e.request e.answer stand))

-- each signal that a zone of the cell names exists
zone_signals : (cell : CellData) (rows : List ZoneRow) → list_all (is_zone cell.signals (map (λ row. row.axes) cell.tasks)) rows ≡ true
    → All (λ zone. zone.signal < length cell.signals) (map zone_of rows)
zone_signals cell [] all k d lt = absurd (omega arith)
zone_signals cell (row ∷ rows) all zero d lt =
    let arms : List ℕ = map (λ (row : TaskRow). row.axes) cell.tasks in
    let here = (and_parts (is_zone cell.signals arms row) (list_all (is_zone cell.signals arms) rows) all).0 in
    ltb-true row.signal (length cell.signals) (and_parts (is_short_name row.name && has_arm arms row.task && is_zone_shape (axes_at arms row.task) row.shape) (nat_lt row.signal (length cell.signals)) here).1
zone_signals cell (row ∷ rows) all (suc k) d lt =
    let arms : List ℕ = map (λ (row : TaskRow). row.axes) cell.tasks in
    zone_signals cell rows (and_parts (is_zone cell.signals arms row) (list_all (is_zone cell.signals arms) rows) all).1 k d (omega arith)

-- each signal that a zone of an arm names exists, if there are this many
abbrev TiesThere : ℕ → Option OwnZone → Type 0
TiesThere count zone = (signal : ℕ) → ties signal zone ≡ true → signal < count

abbrev AllThere : ZonesData → ℕ → Type 0
AllThere zones count = (task index : ℕ) → TiesThere count (get_or (arm_at zones task) index None)

at_there : (zones : ZonesData) (count : ℕ) → AllThere zones count → (task number : ℕ) → TiesThere count (zone_at (arm_at zones task) number)
at_there zones count all task number = by (number == 0)
  where
    by : (b : Bool) → TiesThere count (if b then None else get_or (arm_at zones task) (number - 1) None)
    by true signal tied = absurd (false≢true tied)
    by false signal tied = all task (number - 1) signal tied

switched_there : (count : ℕ) (on : Bool) (held : Option OwnZone) → TiesThere count held → TiesThere count (switched on held)
switched_there count on None there = there
switched_there count on (Some zone) there = there

one_there : (zones : ZonesData) (count task number : ℕ) (zone : Option OwnZone) → AllThere zones count → TiesThere count zone → AllThere (with_arm zones task (with_zone (arm_at zones task) number zone)) count
one_there zones count task number zone all new k =
    written_keeps (λ (arm : List (Option OwnZone)). (index : ℕ) → TiesThere count (get_or arm index None)) zones.arms task k (with_zone (arm_at zones task) number zone) no_zones (all k)
    (λ same index. written_keeps (TiesThere count) (arm_at zones task) (number - 1) index zone None (all task index) (λ here. new))

-- so does one that a request names
abbrev NamesThere : ℕ → Request → Type 0
NamesThere count (requests.ZoneTie old temporary shape signal value) = signal < count
NamesThere count _ = ⊤

there_with : (zones : ZonesData) (count task : ℕ) (request : Request) (answer : Answer) → AllThere zones count → NamesThere count request → AllThere (zones_with zones task request answer) count
there_with zones count task (requests.ZoneSet old temporary shape) (answers.Number number) all named = one_there zones count task number (given temporary shape) all (λ signal tied. absurd (false≢true tied))
there_with zones count task (requests.ZoneTie old temporary shape signal value) (answers.Number number) all named =
    one_there zones count task number (tying temporary shape (record { signal = signal; value = value })) all (λ other tied. subst (λ (s : ℕ). s < count) (eqb-true signal other tied) named)
there_with zones count task (requests.ZoneOn zone) answers.Ok all named =
    one_there zones count task zone (switched true (zone_at (arm_at zones task) zone)) all (switched_there count true (zone_at (arm_at zones task) zone) (at_there zones count all task zone))
there_with zones count task (requests.ZoneOff zone) answers.Ok all named =
    one_there zones count task zone (switched false (zone_at (arm_at zones task) zone)) all (switched_there count false (zone_at (arm_at zones task) zone) (at_there zones count all task zone))
there_with zones count task (requests.ZoneFree zone) answers.Ok all named = one_there zones count task zone None all (λ signal tied. absurd (false≢true tied))
there_with zones count task _ _ all named = all

outputs_there : (zones : ZonesData) (count : ℕ) → AllThere zones count → OutputsThere zones count
outputs_there zones count all task number at = by (output_at at (zone_at (arm_at zones task) number)) refl
  where
    by : (o : Option (ℕ × Bool)) → output_at at (zone_at (arm_at zones task) number) ≡ o → IfSome o (λ output. output.0 < count)
    by None is = tt
    by (Some output) is = at_there zones count all task number output.0 (output_ties at (zone_at (arm_at zones task) number) output is)

all_there : (cell : CellData) (history : List Event) (boards : BoardData) (steps : ℕ) → Keeps cell history boards steps → AllThere boards.zones (length boards.signals)
all_there cell history boards steps keeps =
    subst (λ (zones : ZonesData). AllThere zones (length boards.signals)) (sym keeps.zones)
    (subst (λ (count : ℕ). AllThere (zones_after cell history) count) (sym (ap length keeps.signals ∙ length-signals_after cell history))
    (λ task index signal tied. tied_there cell history (all_answered cell history keeps.sound) task (suc index) signal (ap (ties signal) (entry_at-next (arm_at (zones_after cell history) task) index) ∙ tied)))

-- the stands: none went on more often than there were events
record StandsCount (cell : CellData) (stands : MeetingsData) (events : ℕ) : Type 0 where
  tasks : stands.tasks ≡ length cell.tasks
  meetings : stands.meetings ≡ length cell.meetings
  few : (k : ℕ) → (get_or stands.stands k at_start).passed ≤ events

start_few : (count k : ℕ) → (get_or (replicate count at_start) k at_start).passed ≤ 0
start_few zero k = omega arith
start_few (suc count) zero = omega arith
start_few (suc count) (suc k) = start_few count k

count_with : (cell : CellData) (stands : MeetingsData) (task : ℕ) (request : Request) (answer : Answer) (events : ℕ) → StandsCount cell stands events → StandsCount cell (stands_with stands task request answer) (events + 1)
count_with cell stands task (requests.Arrive meeting tasks) answers.Met events count = record {
  tasks = count.tasks;
  meetings = count.meetings;
  few = λ k. written_keeps (λ (s : Stand). s.passed ≤ events + 1) stands.stands (task * stands.meetings + meeting) k _ at_start (omega (arith, count.few k))
      (λ same. omega (arith, count.few (task * stands.meetings + meeting)));
}
count_with cell stands task (requests.Arrive meeting tasks) answers.Apart events count = record {
  tasks = count.tasks;
  meetings = count.meetings;
  few = λ k. written_keeps (λ (s : Stand). s.passed ≤ events + 1) stands.stands (task * stands.meetings + meeting) k _ at_start (omega (arith, count.few k))
      (λ same. omega (arith, count.few (task * stands.meetings + meeting)));
}
count_with cell stands task _ _ events count = record { tasks = count.tasks; meetings = count.meetings; few = λ k. omega (arith, count.few k) }

stands_count : (cell : CellData) (history : List Event) → StandsCount cell (stands_after cell history) (length history)
stands_count cell history =
    from_front (λ h. StandsCount cell (stands_after cell h) (length h)) history (record { tasks = refl; meetings = refl; few = start_few (length cell.tasks * length cell.meetings) })
    (λ before after e is count. subst (λ (n : ℕ). StandsCount cell (stands_after cell (before ++ e ∷ [])) n) (sym (length-append before (e ∷ [])))
    (subst (λ (m : MeetingsData). StandsCount cell m (length before + 1)) (sym (stands_after-more cell before e)) (count_with cell (stands_after cell before) e.actor e.request e.answer (length before) count)))

-- the persistent with this number, of which a test holds
pub record Found (cell : CellData) (pers : ℕ) (test : PersCell → Bool) : Type 0 where
  pub row : PersCell
  pub at : slice_get cell.pers pers ≡ Some row
  pub so : test row ≡ true

pub found : (cell : CellData) (pers : ℕ) (test : PersCell → Bool) → of_pers cell pers test ≡ true → Found cell pers test
found cell pers test is = by (slice_get cell.pers pers) refl is
  where
    by : (there : Option PersCell) → slice_get cell.pers pers ≡ there → test_of test there ≡ true → Found cell pers test
    by None at h = absurd (false≢true h)
    by (Some row) at h = record { row = row; at = at; so = h }

same_at : {A B C : Type 0} (f : A → C) (g : B → C) (xs : List A) (ys : List B) (k : ℕ) (d : A) (e : B) → map f xs ≡ map g ys → k < length xs → k < length ys → f (get_or xs k d) ≡ g (get_or ys k e)
same_at {C = C} f g xs ys k d e h first second =
    sym (get_or-map f xs k d (f d) first) ∙ ap (λ (zs : List C). get_or zs k (f d)) h ∙ get_or-map g ys k e (f d) second

row_is : (cell : CellData) (history : List Event) (boards : BoardData) (steps pers : ℕ) (row : PersCell) → Keeps cell history boards steps → slice_get cell.pers pers ≡ Some row
    → row_at boards.store pers ≡ record { sort = row.sort; len = row.len; values = persistent_after cell history pers }
row_is cell history boards steps pers row keeps at =
    let within = slice_get_within cell.pers pers row at in
    let there : pers < length boards.store = omega (arith, within, pers_count cell history boards steps keeps) in
    let is : get_or cell.pers pers row ≡ row = get_or_from_slice_get cell.pers pers row row at in
    let old = row_at boards.store pers in
    let sort : old.sort ≡ row.sort = same_at (λ (r : PersData). r.sort) (λ (r : PersCell). r.sort) boards.store cell.pers pers no_row row keeps.pers.0 there within ∙ ap (λ (r : PersCell). r.sort) is in
    let len : old.len ≡ row.len = same_at (λ (r : PersData). r.len) (λ (r : PersCell). r.len) boards.store cell.pers pers no_row row keeps.pers.1 there within ∙ ap (λ (r : PersCell). r.len) is in
    let make : Sort → Option ℕ → List Value → PersData = λ s l vs. record { sort = s; len = l; values = vs } in
    ap (λ (s : Sort). make s old.len old.values) sort ∙ ap (λ (l : Option ℕ). make row.sort l old.values) len ∙ ap (λ (vs : List Value). make row.sort row.len vs) (elements_after cell history boards steps pers keeps)

pub has_part : (cell : CellData) (history : List Event) (boards : BoardData) (steps pers : ℕ) (row : PersCell) (path : Path) → Keeps cell history boards steps → slice_get cell.pers pers ≡ Some row → has_path row path ≡ true
    → HasPart boards.store pers path
has_part cell history boards steps pers row path keeps at has =
    let is = sym (row_is cell history boards steps pers row keeps at) in
    let parts = and_parts (has_element row.len path.index) (is_some (part_sort row.sort path.part)) has in
    record {
      there = omega (arith, slice_get_within cell.pers pers row at, pers_count cell history boards steps keeps);
      part = subst (λ (r : PersData). IsTrue (is_some (part_sort r.sort path.part))) is parts.1;
      element = subst (λ (r : PersData). IsTrue (has_element r.len path.index)) is parts.0;
      kept = subst (λ (r : PersData). IsKept r) is (values_kept cell history keeps.limits keeps.full (all_answered cell history keeps.sound) pers row at);
    }

bool_there : (sort : Option Sort) → is_bool sort ≡ true → sort ≡ Some sorts.Bool
bool_there (Some sorts.Bool) h = refl
bool_there _ h = absurd (false≢true h)

-- a task is in a trap if it left fewer than it began
in_trap_so : (b : Bool) (begun left : ℕ) → begun ≡ left + cond b 1 0 → not (begun == left) ≡ true → b ≡ true
in_trap_so true begun left is trapped = refl
in_trap_so false begun left is trapped =
    absurd (let same : begun ≡ left = omega arith in false≢true (sym (ap not (eq-eqb begun left same)) ∙ trapped))

-- what a task may ask
pub record Known (cell : CellData) (history : List Event) (boards : BoardData) (actor : ℕ) : Type 0 where
  pub trap : actor < length boards.traps
  pub actor_there : actor < length boards.actors
  pub arm : actor < length boards.zones.arms
  pub signals : length boards.signals ≡ length cell.signals

pub known : (cell : CellData) (history : List Event) (boards : BoardData) (steps actor : ℕ) → Keeps cell history boards steps → actor < length cell.tasks → Known cell history boards actor
known cell history boards steps actor keeps within = record {
  trap = omega (arith, within, ap length keeps.traps, (tasks_kept cell history (all_answered cell history keeps.sound)).count);
  actor_there = omega (arith, within, keeps.actor_count);
  arm = omega (arith, within, ap (λ (zs : ZonesData). length zs.arms) keeps.zones, (zones_stand cell history).arms);
  signals = ap length keeps.signals ∙ length-signals_after cell history;
}

can_set : (cell : CellData) (history : List Event) (boards : BoardData) (steps actor : ℕ) (request : Request) → Keeps cell history boards steps → Known cell history boards actor
    → NamesThere (length boards.signals) request → CanSet boards actor request
can_set cell history boards steps actor request keeps know named = record {
  actor = know.actor_there;
  arm = know.arm;
  after = λ answer. record {
    arm = omega (arith, know.arm, arms_with boards.zones actor request answer);
    outputs = outputs_there (zones_with boards.zones actor request answer) (length boards.signals)
        (there_with boards.zones (length boards.signals) actor request answer (all_there cell history boards steps keeps) named);
  };
}

task_ready : (cell : CellData) (history : List Event) (boards : BoardData) (steps actor : ℕ) (request : Request) → Keeps cell history boards steps → TaskMay cell actor (part_of actor history) request → Known cell history boards actor
    → CanAnswer cell boards actor request
task_ready cell history boards steps actor requests.Look keeps may know = (know.trap, know.actor_there)
task_ready cell history boards steps actor (requests.ReadP pers path) keeps may know =
    let f = found cell pers (λ row. has_path row path) may.suits in
    has_part cell history boards steps pers f.row path keeps f.at f.so
task_ready cell history boards steps actor (requests.WriteP pers path value) keeps may know =
    let f = found cell pers (λ row. has_path row path && fits_part row.sort path.part value) may.suits in
    let parts = and_parts (has_path f.row path) (fits_part f.row.sort path.part value) f.so in (
      has_part cell history boards steps pers f.row path keeps f.at parts.0,
      subst (λ (r : PersData). IsTrue (fits_part r.sort path.part value)) (sym (row_is cell history boards steps pers f.row keeps f.at)) parts.1,
    )
task_ready cell history boards steps actor (requests.TestSet pers path) keeps may know =
    let f = found cell pers (λ row. has_path row path && is_bool (part_sort row.sort path.part)) may.suits in
    let parts = and_parts (has_path f.row path) (is_bool (part_sort f.row.sort path.part)) f.so in (
      has_part cell history boards steps pers f.row path keeps f.at parts.0,
      subst (λ (r : PersData). part_sort r.sort path.part ≡ Some sorts.Bool) (sym (row_is cell history boards steps pers f.row keeps f.at)) (bool_there (part_sort f.row.sort path.part) parts.1),
    )
task_ready cell history boards steps actor (requests.ReadS signal) keeps may know = omega (arith, know.signals, ltb-true signal (length cell.signals) may.suits)
task_ready cell history boards steps actor (requests.WriteS signal value) keeps may know = omega (arith, know.signals, ltb-true signal (length cell.signals) may.suits)
task_ready cell history boards steps actor requests.Position keeps may know = know.actor_there
task_ready cell history boards steps actor (requests.Setpoint to) keeps may know =
    let each : All (λ zone. zone.signal < length cell.signals) boards.zones.cell =
    subst (λ (zones : List CellZone). All (λ zone. zone.signal < length cell.signals) zones) (sym (ap (λ (zs : ZonesData). zs.cell) keeps.zones ∙ (zones_stand cell history).same)) (zone_signals cell cell.zones keeps.limits.zones) in
    record {
      actor = know.actor_there;
      sets = record { arm = know.arm; outputs = outputs_there boards.zones (length boards.signals) (all_there cell history boards steps keeps) };
      signals = λ k d lt. omega (arith, know.signals, each k d lt);
    }
task_ready cell history boards steps actor (requests.Connect old trap) keeps may know = know.trap
task_ready cell history boards steps actor (requests.Order number on single) keeps may know = know.trap
task_ready cell history boards steps actor (requests.Sleep number) keeps may know = know.trap
task_ready cell history boards steps actor (requests.Watch number) keeps may know = know.trap
task_ready cell history boards steps actor (requests.Delete number) keeps may know = know.trap
task_ready cell history boards steps actor requests.Disable keeps may know = know.trap
task_ready cell history boards steps actor requests.Enable keeps may know = know.trap
task_ready cell history boards steps actor requests.Leave keeps may know =
    let kept = (tasks_kept cell history (all_answered cell history keeps.sound)).each actor may.within in
    let mine = part_of actor history in (
      know.trap,
      subst (λ (ts : List TaskData). IsTrue (task_at ts actor).in_trap) (sym keeps.traps)
          (in_trap_so _ (count_by (λ (e : Event). is_trap e.answer) mine) (count_by (λ (e : Event). is_leave e.request) mine) kept.begun may.suits),
    )
task_ready cell history boards steps actor (requests.ZoneSet old temporary shape) keeps may know = know.arm
task_ready cell history boards steps actor (requests.ZoneTie old temporary shape signal value) keeps may know =
    let has = ltb-true signal (length cell.signals) (and_parts (is_some may.row.arm) (nat_lt signal (length cell.signals)) may.suits).1 in
    can_set cell history boards steps actor (requests.ZoneTie old temporary shape signal value) keeps know (omega (arith, know.signals, has))
task_ready cell history boards steps actor (requests.ZoneOn zone) keeps may know = can_set cell history boards steps actor (requests.ZoneOn zone) keeps know tt
task_ready cell history boards steps actor (requests.ZoneOff zone) keeps may know = know.arm
task_ready cell history boards steps actor (requests.ZoneFree zone) keeps may know = know.arm
task_ready cell history boards steps actor (requests.Arrive meeting tasks) keeps may know =
    let count = stands_count cell history in
    let few = few_events cell history boards steps keeps in
    let there = ltb-true meeting (length cell.meetings) (and_parts (nat_lt meeting (length cell.meetings)) (nat_lt tasks (2 ^ length cell.tasks)) may.suits).0 in
    record {
      task_there = omega (arith, may.within, ap (λ (m : MeetingsData). m.tasks) keeps.meetings, count.tasks);
      meeting_there = omega (arith, there, ap (λ (m : MeetingsData). m.meetings) keeps.meetings, count.meetings);
      few = subst (λ (m : MeetingsData). (stand_at m actor meeting).passed < 2 ^ 31) (sym keeps.meetings)
          (omega (arith, few, keeps.limits.few_steps, keeps.limits.few_tasks, keeps.limits.few_inputs, count.few (actor * (stands_after cell history).meetings + meeting)));
    }
task_ready cell history boards steps actor (requests.Input index) keeps may know = absurd (false≢true may.suits)
task_ready cell history boards steps actor requests.Rise keeps may know = tt
task_ready cell history boards steps actor (requests.Hold seen) keeps may know = tt
task_ready cell history boards steps actor (requests.Say text tail) keeps may know = tt
task_ready cell history boards steps actor (requests.End fate) keeps may know = tt

-- a row of the input script
abbrev no_input : InputRow
no_input = record { signal = 0; value = false; when = None; given = None; after = None }

input_signal : (signals : List SignalRow) (number : ℕ) → is_input_signal signals number ≡ true → number < length signals
input_signal signals number is = by (slice_get signals number) refl is
  where
    of_signal : Option SignalRow → Bool
    of_signal None = false
    of_signal (Some row) = not row.output

    by : (there : Option SignalRow) → slice_get signals number ≡ there → is_input_signal signals number ≡ true → number < length signals
    by None at h = absurd (false≢true (sym (ap of_signal at) ∙ h))
    by (Some row) at h = slice_get_within signals number row at

pub record StepThere (cell : CellData) (row : InputRow) : Type 0 where
  pub signal : row.signal < length cell.signals
  pub when : holds_where_there (λ w. nat_lt w.0 (length cell.signals)) row.when ≡ true
  pub given : holds_where_there (λ g. nat_lt g.0 (length cell.tasks) && nat_le g.1 1_000_000) row.given ≡ true

pub step_there : (cell : CellData) (index : ℕ) (row : InputRow) → list_all (is_input cell.signals (length cell.tasks)) cell.inputs ≡ true → slice_get cell.inputs index ≡ Some row → StepThere cell row
step_there cell index row all at =
    let within = slice_get_within cell.inputs index row at in
    let here : is_input cell.signals (length cell.tasks) row ≡ true =
    subst (λ (r : InputRow). is_input cell.signals (length cell.tasks) r ≡ true) (get_or_from_slice_get cell.inputs index row row at) (holds_at (is_input cell.signals (length cell.tasks)) cell.inputs index row all within) in
    let when = holds_where_there (λ (w : ℕ × Bool). nat_lt w.0 (length cell.signals)) row.when in
    let given = holds_where_there (λ (g : ℕ × ℕ). nat_lt g.0 (length cell.tasks) && nat_le g.1 1_000_000) row.given in
    let first = and_parts (is_input_signal cell.signals row.signal && when && given) (holds_where_there (is_within 0 1_000_000) row.after) here in
    let second = and_parts (is_input_signal cell.signals row.signal && when) given first.0 in
    let third = and_parts (is_input_signal cell.signals row.signal) when second.0 in
    record { signal = input_signal cell.signals row.signal third.0; when = third.1; given = second.1 }

where_so : {A : Type 0} (test : A → Bool) (P : A → Type 0) (o : Option A) → ((x : A) → test x ≡ true → P x) → holds_where_there test o ≡ true → IfSome o P
where_so test P None each h = tt
where_so test P (Some x) each h = each x h

pub can_pass : (cell : CellData) (history : List Event) (boards : BoardData) (steps index : ℕ) (row : InputRow) → Keeps cell history boards steps → slice_get cell.inputs index ≡ Some row → CanPass boards row
can_pass cell history boards steps index row keeps at =
    let there = step_there cell index row keeps.limits.inputs at in
    let many : length boards.signals ≡ length cell.signals = ap length keeps.signals ∙ length-signals_after cell history in
    record {
      when = where_so (λ (w : ℕ × Bool). nat_lt w.0 (length cell.signals)) (λ w. w.0 < length boards.signals) row.when (λ w h. omega (arith, many, ltb-true w.0 (length cell.signals) h)) there.when;
      given = where_so (λ (g : ℕ × ℕ). nat_lt g.0 (length cell.tasks) && nat_le g.1 1_000_000) (λ g. g.0 < length boards.actors) row.given
          (λ g h. omega (arith, keeps.actor_count, ltb-true g.0 (length cell.tasks) (and_parts (nat_lt g.0 (length cell.tasks)) (nat_le g.1 1_000_000) h).0)) there.given;
    }

script_ready : (cell : CellData) (history : List Event) (boards : BoardData) (steps actor : ℕ) (request : Request) → Keeps cell history boards steps → ScriptMay cell actor (part_of actor history) request
    → CanAnswer cell boards actor request
script_ready cell history boards steps actor request keeps may =
    let index = length (part_of actor history) in
    let row = get_or cell.inputs index no_input in
    let at = slice_get-get_or cell.inputs index no_input may.left in
    let there = step_there cell index row keeps.limits.inputs at in
    subst (λ (r : Request). CanAnswer cell boards actor r) (sym may.next)
    (record { row = row; there = at; signal = omega (arith, there.signal, ap length keeps.signals, length-signals_after cell history) })

pub ready : (cell : CellData) (history : List Event) (boards : BoardData) (steps actor : ℕ) (request : Request) → Keeps cell history boards steps → IsTrue (may_ask cell actor (part_of actor history) request)
    → CanAnswer cell boards actor request
ready cell history boards steps actor request keeps may = by (who_may cell actor (part_of actor history) request may)
  where
    by : TaskMay cell actor (part_of actor history) request ⊎ ScriptMay cell actor (part_of actor history) request → CanAnswer cell boards actor request
    by (inl task) = task_ready cell history boards steps actor request keeps task (known cell history boards steps actor keeps task.within)
    by (inr script) = script_ready cell history boards steps actor request keeps script

-- an actor that may ask something exists
pub actor_there : (cell : CellData) (actor : ℕ) (mine : List Event) (request : Request) → IsTrue (may_ask cell actor mine request) → actor ≤ length cell.tasks
actor_there cell actor mine request may = by (who_may cell actor mine request may)
  where
    by : TaskMay cell actor mine request ⊎ ScriptMay cell actor mine request → actor ≤ length cell.tasks
    by (inl task) = omega (arith, task.within)
    by (inr script) = omega (arith, script.script)

-- no count is near the end of its range
room_so : (cell : CellData) (history : List Event) (boards : BoardData) (steps : ℕ) → Keeps cell history boards steps → All (λ task. length task.queue ≤ 1_024) boards.traps
room_so cell history boards steps keeps k d lt =
    let kept = tasks_kept cell history (all_answered cell history keeps.sound) in
    let within : k < length cell.tasks = omega (arith, lt, ap length keeps.traps, kept.count) in
    let there : get_or boards.traps k d ≡ get_or boards.traps k before_all =
    (let same : Some (get_or boards.traps k d) ≡ Some (get_or boards.traps k before_all) = sym (slice_get-get_or boards.traps k d lt) ∙ slice_get-get_or boards.traps k before_all lt in cc) in
    let room = (kept.each k within).sound.room in
    subst (λ (t : TaskData). length t.queue ≤ 1_024) (sym (there ∙ ap (λ (ts : List TaskData). task_at ts k) keeps.traps)) room

pub can_count : (cell : CellData) (history : List Event) (boards : BoardData) (steps actor : ℕ) → Keeps cell history boards steps → actor ≤ length cell.tasks → CanCount boards actor
can_count cell history boards steps actor keeps within =
    let tells = keeps.actors actor within in
    let mine = part_of actor history in
    let few = few_events cell history boards steps keeps in
    let limits = keeps.limits in
    let short : length mine ≤ length history = filter_short (λ (e : Event). e.actor == actor) history in
    record {
      there = omega (arith, within, keeps.actor_count);
      room = room_so cell history boards steps keeps;
      own = record {
        given = omega (arith, tells.given, count_by-le-length (λ (e : Event). is_given e.request e.answer) mine, short, few, limits.few_steps, limits.few_tasks, limits.few_inputs);
        begun = omega (arith, tells.begun, count_by-le-length (λ (e : Event). is_trap e.answer) mine, short, few, limits.few_steps, limits.few_tasks, limits.few_inputs);
        left = omega (arith, tells.left, count_by-le-length (λ (e : Event). is_leave e.request) mine, short, few, limits.few_steps, limits.few_tasks, limits.few_inputs);
        events = omega (arith, tells.events, short, few, limits.few_steps, limits.few_tasks, limits.few_inputs);
        made = omega (arith, tells.made, keeps.changes_few, few, limits.few_steps, limits.few_tasks, limits.few_inputs);
      };
      counted = omega (arith, keeps.within, keeps.steps_same, limits.few_steps);
      changes = omega (arith, keeps.changes_few, few, limits.few_steps, limits.few_tasks, limits.few_inputs);
    }
