-- What a core keeps after one more event.
use Rattle.std.proofs.Common.{◌≡◌, ◌⊎◌, ℕ, zero, suc, ◌+◌, ◌<◌, ◌≤◌, inl, inr, Bool, true, false, cond, List, [], ◌∷◌, ◌++◌, length, map, get_or, set, Option, Some, None, refl, sym, ◌∙◌, ap, subst, arith, length-append, length-set}
use Rattle.std.specs.Prelude.{IsTrue, not, ◌&&◌, ◌||◌, ◌==◌, nat_lt, is_some, option_map, count_by}
use Rattle.std.specs.Option.{option_or}
use Rattle.std.proofs.lemmas.Bool.{cases_eq, eq-eqb, ne_eqb, ltb-true, false≢true}
use Rattle.std.proofs.lemmas.List.{get_or-set_same, get_or-set_other, map-set}
use Rattle.std.proofs.lemmas.List.Sums.{sum_by-set, count_by-le-length}
use Rattle.rapid_num.specs.declared.joints.Joints.{Joints}
use Rattle.rapid_model.specs.CellData.{CellData}
use Rattle.rapid_model.specs.Own.{part_of, end_of, fate_of, is_held, is_trap, is_leave}
use Rattle.rapid_model.specs.Requests.{suits_task}
use Rattle.rapid_model.specs.declared.answer.Answer.{Answer}
use Rattle.rapid_model.specs.declared.answer.Answer.TheVariants as answers
use Rattle.rapid_model.specs.declared.event.Event.{Event}
use Rattle.rapid_model.specs.declared.fate.Fate.{Fate}
use Rattle.rapid_model.specs.declared.fate.Fate.TheVariants as fates
use Rattle.rapid_model.specs.declared.path.Path.{Path}
use Rattle.rapid_model.specs.declared.request.Request.{Request}
use Rattle.rapid_model.specs.declared.request.Request.TheVariants as requests
use Rattle.rapid_model.specs.declared.task_row.TaskRow.{TaskRow}
use Rattle.rapid_model.specs.declared.value.Value.{Value}
use Rattle.rapid_model.specs.declared.value.Value.TheVariants as values
use Rattle.persist_store.specs.Stores.{PersData, no_row}
use Rattle.sync_tasks.specs.Meetings.{MeetingsData}
use Rattle.trap_dispatch.specs.Tasks.{TaskData, after_changes}
use Rattle.world_zones.specs.Zones.{ZonesData}
use Rattle.cell_meaning.specs.Changes.{changes_of, is_change}
use Rattle.cell_meaning.specs.Counted.{is_counted, counted, can_be_served}
use Rattle.cell_meaning.specs.Interrupts.{asked_with, interrupts_after}
use Rattle.cell_meaning.specs.MayAsk.{may_ask}
use Rattle.cell_meaning.specs.Meetings.{stands_with}
use Rattle.cell_meaning.specs.Motion.{moved, is_given}
use Rattle.cell_meaning.specs.Rising.{seen_with}
use Rattle.cell_meaning.specs.Stored.{persistents_with, with_part}
use Rattle.cell_meaning.specs.Zones.{zones_with}
use Rattle.cell_meaning.proofs.Asked.{TaskMay, ScriptMay, who_may}
use Rattle.rapid_model.proofs.Cuts.{cut_more}
use Rattle.rapid_model.proofs.OwnEvents.{is_held-more}
use Rattle.rapid_model.specs.Truths.{one_if}
use Rattle.cell_meaning.proofs.MoreEvents.{part_of-own, part_of-other, end_of-more, arm_after-own, arm_after-other, count_more, counted-more, setpoints_given-own, setpoints_given-other, seen_after-own, seen_after-other, persistents_after-more, stands_after-more, zones_after-more, interrupts_after-more, changes_by_others-more}
use Rattle.cell_meaning.proofs.MoreFirings.{fired-same}
use Rattle.cell_core.specs.Actors.{actor_with, actor_at, before}
use Rattle.cell_core.specs.Boards.{BoardData, elements_of, put_in, store_with, change_on, boards_with}
use Rattle.cell_core.specs.Changes.{watched_of, is_some_change}
use Rattle.cell_core.specs.Keeping.{Tells, Keeps, fates_count}
use Rattle.cell_core.specs.Ready.{CanAnswer}
use Rattle.cell_core.specs.Soundness.{IsSound, IsServed}
use Rattle.cell_core.specs.declared.actor.Actor.{Actor}
use Rattle.cell_core.proofs.Changing.{all_answered, change_counted, change_same, signals_are}
use Rattle.cell_core.proofs.Parts.{elements_row}

IsSound-more : (cell : CellData) (history : List Event) (e : Event) → IsSound cell history → IsServed cell history e → IsSound cell (history ++ e ∷ [])
IsSound-more cell history e sound now = record { at = cut_more (λ before f. IsServed cell before f) history e sound.at now }

-- what the event says of its own actor
own_none : (k : ℕ) (x : Bool) → one_if (not (k == k) && x) ≡ 0
own_none k x = ap (λ (b : Bool). one_if (not b && x)) (eq-eqb k k refl)

Tells-own : (cell : CellData) (history : List Event) (e : Event) (actor : Actor) (changes : ℕ) → Tells cell history e.actor actor changes
    → Tells cell (history ++ e ∷ []) e.actor (actor_with actor (is_change cell history e) e.request e.answer) (changes + one_if (is_change cell history e))
Tells-own cell history e actor changes tells =
    let mine = part_of-own e.actor history e refl in
    record {
      arm = ap (λ (arm : Option Joints). option_map (λ position. moved position e.request e.answer) arm) tells.arm ∙ sym (arm_after-own cell history e);
      end = ap (λ (told : Option Fate). option_or told (fate_of e.request)) tells.end ∙ sym (end_of-more (part_of e.actor history) e) ∙ sym (ap end_of mine);
      held = sym (is_held-more (part_of e.actor history) e) ∙ sym (ap is_held mine);
      seen = ap (λ (seen : ℕ). seen_with seen e.request) tells.seen ∙ sym (seen_after-own history e);
      given = ap (λ (n : ℕ). n + one_if (is_given e.request e.answer)) tells.given ∙ sym (setpoints_given-own history e);
      begun = ap (λ (n : ℕ). n + one_if (is_trap e.answer)) tells.begun ∙ sym (count_more (λ f. is_trap f.answer) (part_of e.actor history) e)
          ∙ sym (ap (λ (es : List Event). count_by (λ f. is_trap f.answer) es) mine);
      left = ap (λ (n : ℕ). n + one_if (is_leave e.request)) tells.left ∙ sym (count_more (λ f. is_leave f.request) (part_of e.actor history) e)
          ∙ sym (ap (λ (es : List Event). count_by (λ f. is_leave f.request) es) mine);
      events = ap (λ (n : ℕ). n + 1) tells.events ∙ sym (length-append (part_of e.actor history) (e ∷ [])) ∙ sym (ap length mine);
      made = omega (arith, tells.made, changes_by_others-more cell history e e.actor, own_none e.actor (is_change cell history e));
    }

-- and of every other one
other_counts : (cell : CellData) (history : List Event) (e : Event) (number : ℕ) → (e.actor ≡ number → ⊥) → one_if (not (e.actor == number) && is_change cell history e) ≡ one_if (is_change cell history e)
other_counts cell history e number other = ap (λ (b : Bool). one_if (not b && is_change cell history e)) (ne_eqb e.actor number other)

Tells-other : (cell : CellData) (history : List Event) (e : Event) (number : ℕ) (actor : Actor) (changes : ℕ) → (e.actor ≡ number → ⊥) → Tells cell history number actor changes
    → Tells cell (history ++ e ∷ []) number actor (changes + one_if (is_change cell history e))
Tells-other cell history e number actor changes other tells =
    let mine = part_of-other number history e other in
    record {
      arm = tells.arm ∙ sym (arm_after-other cell history e number other);
      end = tells.end ∙ sym (ap end_of mine);
      held = tells.held ∙ sym (ap is_held mine);
      seen = tells.seen ∙ sym (seen_after-other history e number other);
      given = tells.given ∙ sym (setpoints_given-other history e number other);
      begun = tells.begun ∙ sym (ap (λ (es : List Event). count_by (λ f. is_trap f.answer) es) mine);
      left = tells.left ∙ sym (ap (λ (es : List Event). count_by (λ f. is_leave f.request) es) mine);
      events = tells.events ∙ sym (ap length mine);
      made = omega (arith, tells.made, changes_by_others-more cell history e number, other_counts cell history e number other);
    }

Tells-more : (cell : CellData) (history : List Event) (e : Event) (actors : List Actor) (changes number : ℕ) → e.actor < length actors
    → Tells cell history e.actor (actor_at actors e.actor) changes → Tells cell history number (actor_at actors number) changes
    → Tells cell (history ++ e ∷ []) number (actor_at (set actors e.actor (actor_with (actor_at actors e.actor) (is_change cell history e) e.request e.answer)) number) (changes + one_if (is_change cell history e))
Tells-more cell history e actors changes number within own each = elim (cases_eq number e.actor) [
  | inl same ↦ (let now = actor_with (actor_at actors e.actor) (is_change cell history e) e.request e.answer in
      let P : ℕ → Type 0 = λ j. Tells cell (history ++ e ∷ []) j (actor_at (set actors e.actor now) j) (changes + one_if (is_change cell history e)) in
      subst P (sym same) (subst (λ (a : Actor). Tells cell (history ++ e ∷ []) e.actor a (changes + one_if (is_change cell history e))) (sym (get_or-set_same actors e.actor now (before None) within))
      (Tells-own cell history e (actor_at actors e.actor) changes own)))
  | inr other ↦ (let now = actor_with (actor_at actors e.actor) (is_change cell history e) e.request e.answer in
      subst (λ (a : Actor). Tells cell (history ++ e ∷ []) number a (changes + one_if (is_change cell history e))) (sym (get_or-set_other actors e.actor number now (before None) other))
      (Tells-other cell history e number (actor_at actors number) changes (λ same. other (sym same)) each))
]

-- the store
map-set-same : {A B : Type 0} (f : A → B) (xs : List A) (i : ℕ) (x d : A) → f x ≡ f (get_or xs i d) → map f (set xs i x) ≡ map f xs
map-set-same f [] i x d same = refl
map-set-same {B = B} f (y ∷ xs) zero x d same = ap (λ (b : B). b ∷ map f xs) same
map-set-same {B = B} f (y ∷ xs) (suc i) x d same = ap (λ (rest : List B). f y ∷ rest) (map-set-same f xs i x d same)

sorts_with : (rows : List PersData) (request : Request) (answer : Answer) → map (λ (r : PersData). r.sort) (store_with rows request answer) ≡ map (λ (r : PersData). r.sort) rows
sorts_with rows (requests.WriteP pers path value) answers.Ok = map-set-same (λ (r : PersData). r.sort) rows pers _ no_row refl
sorts_with rows (requests.TestSet pers path) (answers.Yes true) = map-set-same (λ (r : PersData). r.sort) rows pers _ no_row refl
sorts_with rows _ _ = refl

lens_with : (rows : List PersData) (request : Request) (answer : Answer) → map (λ (r : PersData). r.len) (store_with rows request answer) ≡ map (λ (r : PersData). r.len) rows
lens_with rows (requests.WriteP pers path value) answers.Ok = map-set-same (λ (r : PersData). r.len) rows pers _ no_row refl
lens_with rows (requests.TestSet pers path) (answers.Yes true) = map-set-same (λ (r : PersData). r.len) rows pers _ no_row refl
lens_with rows _ _ = refl

put_elements : (rows : List PersData) (pers : ℕ) (path : Path) (value : Value) → elements_of (put_in rows pers path value) ≡ set (elements_of rows) pers (with_part (get_or (elements_of rows) pers []) path value)
put_elements rows pers path value =
    map-set (λ (r : PersData). r.values) rows pers _ ∙ ap (λ (vs : List Value). set (elements_of rows) pers (with_part vs path value)) (sym (elements_row rows pers))

elements_with : (rows : List PersData) (request : Request) (answer : Answer) → elements_of (store_with rows request answer) ≡ persistents_with (elements_of rows) request answer
elements_with rows (requests.WriteP pers path value) answers.Ok = put_elements rows pers path value
elements_with rows (requests.TestSet pers path) (answers.Yes true) = put_elements rows pers path (values.Bool true)
elements_with rows _ _ = refl

-- the count
one_at_most : (b : Bool) → one_if b ≤ 1
one_at_most true = omega arith
one_at_most false = omega arith

count_within : (cell : CellData) (history : List Event) (served : ℕ) (request : Request) → served ≡ counted history → served ≤ cell.steps
    → IsTrue (can_be_served cell history request) → served + one_if (is_counted request) ≤ cell.steps
count_within cell history served request same few left = by (is_counted request) left
  where
    by : (b : Bool) → (not b || nat_lt (counted history) cell.steps) ≡ true → served + one_if b ≤ cell.steps
    by true h = omega (arith, ltb-true (counted history) cell.steps h)
    by false h = omega (arith, few)

-- each event is counted, or ended its task, or is an input
pub no_fate : (told : Option Fate) → is_some told ≡ false → told ≡ None
no_fate None h = refl
no_fate (Some fate) h = cc

-- how many ends there are, and how many steps the input script did
pub record Counts (actors after : List Actor) (script : ℕ) (request : Request) (inputs : ℕ) : Type 0 where
  pub script_on : (actor_at after script).end ≡ None
  pub inputs_within : (actor_at after script).events ≤ inputs
  pub ends : fates_count after + (actor_at after script).events + one_if (is_counted request) ≡ fates_count actors + (actor_at actors script).events + 1

one_of_both : (cell : CellData) (row : TaskRow) (mine : List Event) (request : Request) → suits_task cell row mine request ≡ true → one_if (is_counted request) + one_if (is_some (fate_of request)) ≡ 1
one_of_both cell row mine (requests.Input index) suits = absurd (false≢true suits)
one_of_both cell row mine (requests.End fate) suits = refl
one_of_both cell row mine _ suits = refl

ends_more : (actors : List Actor) (number : ℕ) (now : Actor) → number < length actors
    → fates_count (set actors number now) + one_if (is_some (actor_at actors number).end) ≡ fates_count actors + one_if (is_some now.end)
ends_more actors number now within = sum_by-set (λ (a : Actor). cond (is_some a.end) 1 0) actors number now (before None) within

task_counts : (cell : CellData) (history : List Event) (actors : List Actor) (changes : ℕ) (changed : Bool) (actor : ℕ) (request : Request) (answer : Answer) → length actors ≡ length cell.tasks + 1
    → Tells cell history actor (actor_at actors actor) changes → (actor_at actors (length cell.tasks)).end ≡ None → (actor_at actors (length cell.tasks)).events ≤ length cell.inputs → TaskMay cell actor (part_of actor history) request
    → Counts actors (set actors actor (actor_with (actor_at actors actor) changed request answer)) (length cell.tasks) request (length cell.inputs)
task_counts cell history actors changes changed actor request answer count tells on few may =
    let now = actor_with (actor_at actors actor) changed request answer in
    let alive : (actor_at actors actor).end ≡ None = tells.end ∙ no_fate (end_of (part_of actor history)) may.alive in
    let was : one_if (is_some (actor_at actors actor).end) ≡ 0 = ap (λ (told : Option Fate). one_if (is_some told)) alive in
    let is : one_if (is_some now.end) ≡ one_if (is_some (fate_of request)) = ap (λ (told : Option Fate). one_if (is_some (option_or told (fate_of request)))) alive in
    let apart : length cell.tasks ≡ actor → ⊥ = λ same. absurd (omega (arith, may.within, same)) in
    let stays = get_or-set_other actors actor (length cell.tasks) now (before None) apart in
    let script : (actor_at (set actors actor now) (length cell.tasks)).events ≡ (actor_at actors (length cell.tasks)).events = ap (λ (a : Actor). a.events) stays in
    record {
      script_on = ap (λ (a : Actor). a.end) stays ∙ on;
      inputs_within = omega (arith, script, few);
      ends = omega (arith, script, was, is, ends_more actors actor now (omega (arith, count, may.within)), one_of_both cell may.row (part_of actor history) request may.suits);
    }

script_counts : (cell : CellData) (history : List Event) (actors : List Actor) (changes : ℕ) (changed : Bool) (actor : ℕ) (request : Request) (answer : Answer) → length actors ≡ length cell.tasks + 1
    → Tells cell history actor (actor_at actors actor) changes → (actor_at actors (length cell.tasks)).end ≡ None → ScriptMay cell actor (part_of actor history) request
    → Counts actors (set actors actor (actor_with (actor_at actors actor) changed request answer)) (length cell.tasks) request (length cell.inputs)
script_counts cell history actors changes changed actor request answer count tells on may =
    let now = actor_with (actor_at actors actor) changed request answer in
    let within : actor < length actors = omega (arith, count, may.script) in
    let not_counted : one_if (is_counted request) ≡ 0 = ap (λ (r : Request). one_if (is_counted r)) may.next in
    let same : (actor_at (set actors actor now) (length cell.tasks)).events ≡ (actor_at actors actor).events + 1 =
    ap (λ (k : ℕ). (actor_at (set actors actor now) k).events) (sym may.script) ∙ ap (λ (a : Actor). a.events) (get_or-set_same actors actor now (before None) within) in
    let was : (actor_at actors (length cell.tasks)).events ≡ (actor_at actors actor).events = ap (λ (k : ℕ). (actor_at actors k).events) (sym may.script) in
    let kept : now.end ≡ (actor_at actors actor).end =
    ap (λ (r : Request). option_or (actor_at actors actor).end (fate_of r)) may.next ∙ or_none (actor_at actors actor).end in
    record {
      script_on = ap (λ (k : ℕ). (actor_at (set actors actor now) k).end) (sym may.script) ∙ ap (λ (a : Actor). a.end) (get_or-set_same actors actor now (before None) within)
          ∙ kept ∙ ap (λ (k : ℕ). (actor_at actors k).end) may.script ∙ on;
      inputs_within = omega (arith, same, tells.events, may.left);
      ends = omega (arith, same, was, not_counted, ap (λ (told : Option Fate). one_if (is_some told)) kept, ends_more actors actor now within);
    }
  where
    or_none : (told : Option Fate) → option_or told None ≡ told
    or_none None = refl
    or_none (Some fate) = refl

-- one more event of an actor that may ask this
counts_more : (cell : CellData) (history : List Event) (boards : BoardData) (steps : ℕ) (changed : Bool) (actor : ℕ) (request : Request) (answer : Answer) → Keeps cell history boards steps
    → TaskMay cell actor (part_of actor history) request ⊎ ScriptMay cell actor (part_of actor history) request
    → Counts boards.actors (set boards.actors actor (actor_with (actor_at boards.actors actor) changed request answer)) (length cell.tasks) request (length cell.inputs)
counts_more cell history boards steps changed actor request answer keeps (inl task) =
    task_counts cell history boards.actors boards.changes changed actor request answer keeps.actor_count (keeps.actors actor (omega (arith, task.within))) keeps.script_on keeps.inputs_within task
counts_more cell history boards steps changed actor request answer keeps (inr script) =
    script_counts cell history boards.actors boards.changes changed actor request answer keeps.actor_count (keeps.actors actor (omega (arith, script.script))) keeps.script_on script

pub Keeps-more : (cell : CellData) (history : List Event) (boards : BoardData) (steps : ℕ) (e : Event) → Keeps cell history boards steps → IsServed cell history e → CanAnswer cell boards e.actor e.request
    → Keeps cell (history ++ e ∷ []) (boards_with cell boards e) steps
Keeps-more cell history boards steps e keeps now can =
    let who = who_may cell e.actor (part_of e.actor history) e.request now.asked in
    let change = change_on cell boards e.actor e.request e.answer in
    let there : e.actor ≤ length cell.tasks = actor_within who in
    let sound = IsSound-more cell history e keeps.sound now in
    let asked = all_answered cell (history ++ e ∷ []) sound in
    let watched = change_same cell history boards steps e.actor e.request e.answer keeps there asked can in
    let counts = change_counted cell history boards steps e.actor e.request e.answer keeps there asked can in
    let own = keeps.actors e.actor there in
    let within : e.actor < length boards.actors = omega (arith, there, keeps.actor_count) in
    let numbers = counts_more cell history boards steps (is_some_change change) e.actor e.request e.answer keeps who in
    record {
      limits = keeps.limits;
      full = keeps.full;
      sound = sound;
      pers = (sorts_with boards.store e.request e.answer ∙ keeps.pers.0, lens_with boards.store e.request e.answer ∙ keeps.pers.1);
      store = elements_with boards.store e.request e.answer ∙ ap (λ (rows : List (List Value)). persistents_with rows e.request e.answer) keeps.store ∙ sym (persistents_after-more cell history e);
      signals = signals_are cell history boards steps e keeps there;
      meetings = ap (λ (m : MeetingsData). stands_with m e.actor e.request e.answer) keeps.meetings ∙ sym (stands_after-more cell history e);
      traps = ap (λ (ts : List TaskData). map (after_changes (watched_of change)) (asked_with ts e.actor e.request e.answer)) keeps.traps
          ∙ fired-same (watched_of change) (changes_of cell history e) watched (asked_with (interrupts_after cell history) e.actor e.request e.answer) ∙ sym (interrupts_after-more cell history e);
      zones = ap (λ (zs : ZonesData). zones_with zs e.actor e.request e.answer) keeps.zones ∙ sym (zones_after-more cell history e);
      actor_count = length-set boards.actors e.actor _ ∙ keeps.actor_count;
      actors = λ number h. subst (λ (b : Bool). Tells cell (history ++ e ∷ []) number (actor_at (set boards.actors e.actor (actor_with (actor_at boards.actors e.actor) b e.request e.answer)) number) (boards.changes + one_if b))
          (sym counts) (Tells-more cell history e boards.actors boards.changes number within own (keeps.actors number h));
      steps_same = keeps.steps_same;
      counted_same = ap (λ (n : ℕ). n + one_if (is_counted e.request)) keeps.counted_same ∙ sym (counted-more history e);
      changes_few = omega (arith, length-append history (e ∷ []), keeps.changes_few, one_at_most (is_some_change change));
      within = omega (arith, count_within cell history boards.counted e.request keeps.counted_same (omega (arith, keeps.within, keeps.steps_same)) now.served, keeps.steps_same);
      script_on = numbers.script_on;
      inputs_within = numbers.inputs_within;
      events = omega (arith, length-append history (e ∷ []), keeps.events, numbers.ends);
    }
  where
    actor_within : TaskMay cell e.actor (part_of e.actor history) e.request ⊎ ScriptMay cell e.actor (part_of e.actor history) e.request → e.actor ≤ length cell.tasks
    actor_within (inl task) = omega (arith, task.within)
    actor_within (inr script) = omega (arith, script.script)

-- at most one event for each step of the run, each task and each step of the input script, which has no fate
few_ends : (actors : List Actor) (tasks : ℕ) → length actors ≡ tasks + 1 → (actor_at actors tasks).end ≡ None → fates_count actors ≤ tasks
few_ends actors tasks count on =
    let told : Actor = record (before None) { end = Some fates.Done } in
    let none : one_if (is_some (actor_at actors tasks).end) ≡ 0 = ap (λ (end : Option Fate). one_if (is_some end)) on in
    omega (arith, count, none, ends_more actors tasks told (omega (arith, count)), count_by-le-length (λ (a : Actor). is_some a.end) (set actors tasks told), length-set actors tasks told)

pub few_events : (cell : CellData) (history : List Event) (boards : BoardData) (steps : ℕ) → Keeps cell history boards steps → length history ≤ cell.steps + length cell.tasks + length cell.inputs
few_events cell history boards steps keeps =
    omega (arith, keeps.events, keeps.within, keeps.steps_same, keeps.inputs_within, few_ends boards.actors (length cell.tasks) keeps.actor_count keeps.script_on)

-- there is room for one more event, whatever its answer
pub room_for_event : (cell : CellData) (history : List Event) (boards : BoardData) (steps actor : ℕ) (request : Request) → Keeps cell history boards steps
    → IsTrue (may_ask cell actor (part_of actor history) request) → IsTrue (can_be_served cell history request) → length history < cell.steps + length cell.tasks + length cell.inputs
room_for_event cell history boards steps actor request keeps may left =
    let now = actor_with (actor_at boards.actors actor) false request answers.Ok in
    let numbers = counts_more cell history boards steps false actor request answers.Ok keeps (who_may cell actor (part_of actor history) request may) in
    let ends = few_ends (set boards.actors actor now) (length cell.tasks) (length-set boards.actors actor now ∙ keeps.actor_count) numbers.script_on in
    let counted = count_within cell history boards.counted request keeps.counted_same (omega (arith, keeps.within, keeps.steps_same)) left in
    omega (arith, keeps.events, numbers.ends, numbers.inputs_within, counted, ends)
