-- The interrupts of tasks, from the events alone.
use Rattle.std.proofs.Common.{◌≡◌, ◌⊎◌, inl, inr, ◌<◌, ◌≤◌, ℕ, zero, suc, ◌+◌, ◌-◌, ◌==◌, not, Bool, true, false, List, [], ◌∷◌, ◌++◌, length, map, replicate, Option, Some, None, is_some, slice_index_or, slice_set, refl, sym, ◌∙◌, ap, subst, arith, if◌then◌else◌}
use Rattle.std.specs.Prelude.{⊤, ◌↔◌, is_none, Result, Ok, Err}
use Rattle.std.specs.List.{list_any, position_from}
use Rattle.std.proofs.Math.ListN.{get_or-map}
use Rattle.std.proofs.lemmas.Bool.{and_from, and_parts, cases_eq, eq-eqb, eqb-true, false≢true, ne_eqb}
use Rattle.std.proofs.lemmas.List.{get_or-map as get_or-map_at, get_or-set_same, get_or-set_other, length-set}
use Rattle.rapid_model.specs.CellData.{CellData}
use Rattle.rapid_model.specs.declared.answer.Answer.{Answer}
use Rattle.rapid_model.specs.declared.answer.Answer.TheVariants as answers
use Rattle.rapid_model.specs.declared.event.Event.{Event}
use Rattle.rapid_model.specs.declared.request.Request.{Request}
use Rattle.rapid_model.specs.declared.request.Request.TheVariants as requests
use Rattle.rapid_model.specs.declared.watched.Watched.{Watched}
use Rattle.trap_dispatch.specs.declared.connect_fault.ConnectFault.{ConnectFault}
use Rattle.trap_dispatch.specs.declared.connect_fault.ConnectFault.TheVariants as connect_faults
use Rattle.trap_dispatch.specs.declared.connected.Connected.{Connected}
use Rattle.trap_dispatch.specs.declared.order.Order.{Order}
use Rattle.trap_dispatch.specs.Firing.{after_firing, after_its_firing, connected_at, fires, is_change, is_on}
use Rattle.trap_dispatch.specs.Tasks.{TaskData, after_changes, before_all, connect_answer, fresh, in_first_trap, least_free, slept, with_order, with_sleep}
use Rattle.trap_dispatch.specs.Traps.{task_at}
use Rattle.cell_meaning.specs.Answers.{IsAnswer, known_of, number_of, order_of}
use Rattle.cell_meaning.specs.Changes.{changes_of}
use Rattle.cell_meaning.specs.Interrupts.{asked_with, interrupts_after, interrupts_of}
use Rattle.cell_meaning.specs.InterruptsSince.{Connects, Deletes, EndsOrder, IsAsleep, Orders, Sleeps, Wakes}
use Rattle.cell_meaning.specs.Premises.{AllAnswered}
use Rattle.cell_meaning.specs.Since.{Since}
use Rattle.cell_meaning.proofs.InterruptsKept.{KeptTasks, asked_own, free_number, own_with, tasks_kept}
use Rattle.cell_meaning.proofs.MoreChanges.{changes_of-none, may_change}
use Rattle.cell_meaning.proofs.MoreEvents.{event, interrupts_after-more, its_parts, sure}
use Rattle.cell_meaning.proofs.MoreFirings.{stays}
use Rattle.cell_meaning.proofs.Numbered.{entry_at-next, entry_within, entry_written, none_at}
use Rattle.cell_meaning.proofs.Since.{Told, Tells, answered_fronts, told, tells}

-- ---- what an event does to a number

data Act : Type 0 where
  connects : ℕ → Act
  orders : Watched → Bool → Act
  sleeps : Bool → Act
  deletes : Act
  leaves : Act

abbrev act : ℕ → Request → Answer → Act
act number (requests.Connect old trap) (answers.Number k) = if k == number then connects trap else leaves
act number (requests.Order k on single) answers.Ok = if k == number then orders on single else leaves
act number (requests.Sleep k) answers.Ok = if k == number then sleeps true else leaves
act number (requests.Watch k) answers.Ok = if k == number then sleeps false else leaves
act number (requests.Delete k) answers.Ok = if k == number then deletes else leaves
act number _ _ = leaves

abbrev acts : ℕ → ℕ → ℕ → Request → Answer → Act
acts task number actor request answer = if actor == task then act number request answer else leaves

abbrev acts_of : ℕ → ℕ → Event → Act
acts_of task number e = acts task number e.actor e.request e.answer

abbrev entry_by : Act → Option Connected → Option Connected
entry_by (connects trap) entry = fresh trap
entry_by (orders on single) entry = with_order (Some (record { on = on; single = single })) entry
entry_by (sleeps asleep) entry = with_sleep asleep entry
entry_by deletes entry = None
entry_by leaves entry = entry

-- the request and the answer of each act
abbrev IsAct : ℕ → Request → Answer → Act → Type 0
IsAct number request answer (connects trap) = (old : ℕ) × (request ≡ requests.Connect old trap) × (answer ≡ answers.Number number)
IsAct number request answer (orders on single) = (request ≡ requests.Order number on single) × (answer ≡ answers.Ok)
IsAct number request answer (sleeps true) = (request ≡ requests.Sleep number) × (answer ≡ answers.Ok)
IsAct number request answer (sleeps false) = (request ≡ requests.Watch number) × (answer ≡ answers.Ok)
IsAct number request answer deletes = (request ≡ requests.Delete number) × (answer ≡ answers.Ok)
IsAct number request answer leaves = ⊤

meant : (number : ℕ) (request : Request) (answer : Answer) → IsAct number request answer (act number request answer)
meant number (requests.Connect old trap) (answers.Number k) = by (k == number) refl
  where
    by : (b : Bool) → (k == number) ≡ b → IsAct number (requests.Connect old trap) (answers.Number k) (if b then connects trap else leaves)
    by true is = (old, refl, ap (λ (n : ℕ). answers.Number n) (eqb-true k number is))
    by false is = tt
meant number (requests.Order k on single) answers.Ok = by (k == number) refl
  where
    by : (b : Bool) → (k == number) ≡ b → IsAct number (requests.Order k on single) answers.Ok (if b then orders on single else leaves)
    by true is = (ap (λ (n : ℕ). requests.Order n on single) (eqb-true k number is), refl)
    by false is = tt
meant number (requests.Sleep k) answers.Ok = by (k == number) refl
  where
    by : (b : Bool) → (k == number) ≡ b → IsAct number (requests.Sleep k) answers.Ok (if b then sleeps true else leaves)
    by true is = (ap (λ (n : ℕ). requests.Sleep n) (eqb-true k number is), refl)
    by false is = tt
meant number (requests.Watch k) answers.Ok = by (k == number) refl
  where
    by : (b : Bool) → (k == number) ≡ b → IsAct number (requests.Watch k) answers.Ok (if b then sleeps false else leaves)
    by true is = (ap (λ (n : ℕ). requests.Watch n) (eqb-true k number is), refl)
    by false is = tt
meant number (requests.Delete k) answers.Ok = by (k == number) refl
  where
    by : (b : Bool) → (k == number) ≡ b → IsAct number (requests.Delete k) answers.Ok (if b then deletes else leaves)
    by true is = (ap (λ (n : ℕ). requests.Delete n) (eqb-true k number is), refl)
    by false is = tt
meant number _ _ = tt

-- the same for a task's event
abbrev IsActs : ℕ → ℕ → Event → Act → Type 0
IsActs task number e leaves = ⊤
IsActs task number e a = (e.actor ≡ task) × IsAct number e.request e.answer a

all_meant : (task number : ℕ) (e : Event) → IsActs task number e (acts_of task number e)
all_meant task number e = by (e.actor == task) refl
  where
    own : (a : Act) → e.actor ≡ task → IsAct number e.request e.answer a → IsActs task number e a
    own (connects trap) actor is = (actor, is)
    own (orders on single) actor is = (actor, is)
    own (sleeps asleep) actor is = (actor, is)
    own deletes actor is = (actor, is)
    own leaves actor is = tt

    by : (b : Bool) → (e.actor == task) ≡ b → IsActs task number e (if b then act number e.request e.answer else leaves)
    by true is = own (act number e.request e.answer) (eqb-true e.actor task is) (meant number e.request e.answer)
    by false is = tt

connects_acts : (task number trap : ℕ) (h : List Event) (e : Event) → Connects task number trap h e → acts_of task number e ≡ connects trap
connects_acts task number trap h e w = ap (acts_of task number) w.1 ∙ sure task number (connects trap) leaves

orders_acts : (task number : ℕ) (on : Watched) (single : Bool) (h : List Event) (e : Event) → Orders task number on single h e → acts_of task number e ≡ orders on single
orders_acts task number on single h e w = ap (acts_of task number) w ∙ sure task number (orders on single) leaves

sleeps_acts : (task number : ℕ) (h : List Event) (e : Event) → Sleeps task number h e → acts_of task number e ≡ sleeps true
sleeps_acts task number h e w = ap (acts_of task number) w ∙ sure task number (sleeps true) leaves

watches_acts : (task number : ℕ) (e : Event) → e ≡ event task (requests.Watch number) answers.Ok → acts_of task number e ≡ sleeps false
watches_acts task number e w = ap (acts_of task number) w ∙ sure task number (sleeps false) leaves

deletes_acts : (task number : ℕ) (h : List Event) (e : Event) → Deletes task number h e → acts_of task number e ≡ deletes
deletes_acts task number h e w = ap (acts_of task number) w ∙ sure task number deletes leaves

acts_connects : (task number trap : ℕ) (h : List Event) (e : Event) → acts_of task number e ≡ connects trap → Connects task number trap h e
acts_connects task number trap h e is =
    let w : IsActs task number e (connects trap) = subst (IsActs task number e) is (all_meant task number e) in
    (w.1.0, its_parts task (requests.Connect w.1.0 trap) (answers.Number number) e w.0 w.1.1 w.1.2)

acts_orders : (task number : ℕ) (on : Watched) (single : Bool) (h : List Event) (e : Event) → acts_of task number e ≡ orders on single → Orders task number on single h e
acts_orders task number on single h e is =
    let w : IsActs task number e (orders on single) = subst (IsActs task number e) is (all_meant task number e) in
    its_parts task (requests.Order number on single) answers.Ok e w.0 w.1.0 w.1.1

acts_sleeps : (task number : ℕ) (h : List Event) (e : Event) → acts_of task number e ≡ sleeps true → Sleeps task number h e
acts_sleeps task number h e is =
    let w : IsActs task number e (sleeps true) = subst (IsActs task number e) is (all_meant task number e) in
    its_parts task (requests.Sleep number) answers.Ok e w.0 w.1.0 w.1.1

acts_watches : (task number : ℕ) (e : Event) → acts_of task number e ≡ sleeps false → e ≡ event task (requests.Watch number) answers.Ok
acts_watches task number e is =
    let w : IsActs task number e (sleeps false) = subst (IsActs task number e) is (all_meant task number e) in
    its_parts task (requests.Watch number) answers.Ok e w.0 w.1.0 w.1.1

acts_deletes : (task number : ℕ) (h : List Event) (e : Event) → acts_of task number e ≡ deletes → Deletes task number h e
acts_deletes task number h e is =
    let w : IsActs task number e deletes = subst (IsActs task number e) is (all_meant task number e) in
    its_parts task (requests.Delete number) answers.Ok e w.0 w.1.0 w.1.1

-- ---- the number after its own task's event, before any fires

-- what an answer says of the number that it names
record Names (t : TaskData) (k : ℕ) : Type 0 where
  some : 1 ≤ k
  within : k - 1 < length t.numbers

abbrev NamesIts : TaskData → Request → Answer → Type 0
NamesIts t (requests.Connect old trap) (answers.Number k) = Names t k
NamesIts t (requests.Order k on single) answers.Ok = Names t k
NamesIts t (requests.Sleep k) answers.Ok = Names t k
NamesIts t (requests.Watch k) answers.Ok = Names t k
NamesIts t (requests.Delete k) answers.Ok = Names t k
NamesIts t _ _ = ⊤

-- an entry is written by an act
by_act : (numbers : List (Option Connected)) (k number : ℕ) (a : Act) (new : Option Connected) → 1 ≤ k → k - 1 < length numbers
    → (k ≡ number → new ≡ entry_by a (connected_at numbers number)) → connected_at (slice_set numbers (k - 1) new) number ≡ entry_by (if k == number then a else leaves) (connected_at numbers number)
by_act numbers k number a new some within same = entry_written numbers k number new some within ∙ by (k == number) refl
  where
    by : (b : Bool) → (k == number) ≡ b → (if b then new else connected_at numbers number) ≡ entry_by (if b then a else leaves) (connected_at numbers number)
    by true is = same (eqb-true k number is)
    by false is = refl

own_stepped : (t : TaskData) (number : ℕ) (request : Request) (answer : Answer) → NamesIts t request answer
    → connected_at (own_with t request answer).numbers number ≡ entry_by (act number request answer) (connected_at t.numbers number)
own_stepped t number (requests.Connect old trap) (answers.Number k) n = by_act t.numbers k number (connects trap) (fresh trap) n.some n.within (λ same. refl)
own_stepped t number (requests.Order k on single) answers.Ok n =
    by_act t.numbers k number (orders on single) (with_order (Some (record { on = on; single = single })) (connected_at t.numbers k)) n.some n.within
    (λ same. ap (λ (j : ℕ). with_order (Some (record { on = on; single = single })) (connected_at t.numbers j)) same)
own_stepped t number (requests.Sleep k) answers.Ok n =
    by_act t.numbers k number (sleeps true) (with_sleep true (connected_at t.numbers k)) n.some n.within (λ same. ap (λ (j : ℕ). with_sleep true (connected_at t.numbers j)) same)
own_stepped t number (requests.Watch k) answers.Ok n =
    by_act t.numbers k number (sleeps false) (with_sleep false (connected_at t.numbers k)) n.some n.within (λ same. ap (λ (j : ℕ). with_sleep false (connected_at t.numbers j)) same)
own_stepped t number (requests.Delete k) answers.Ok n = by_act t.numbers k number deletes None n.some n.within (λ same. refl)
own_stepped t number requests.Look (answers.Trap k trap) n = by t.queue
  where
    by : (queue : List ℕ) → connected_at (in_first_trap t queue).numbers number ≡ connected_at t.numbers number
    by [] = refl
    by (first ∷ rest) = refl
own_stepped t number requests.Disable answers.Ok n = refl
own_stepped t number requests.Enable answers.Ok n = refl
own_stepped t number requests.Leave answers.Ok n = refl
own_stepped t number _ _ n = refl

-- ---- what the cell's answers say

is_known : (entry : Option Connected) → answers.Ok ≡ known_of entry → (c : Connected) × (entry ≡ Some c)
is_known None e = absurd cc
is_known (Some c) e = (c, refl)

is_free : (entry : Option Connected) → answers.Ok ≡ order_of entry → (c : Connected) × (entry ≡ Some c) × (c.order ≡ None)
is_free None e = absurd cc
is_free (Some c) e = by c.order refl e
  where
    by : (o : Option Order) → c.order ≡ o → answers.Ok ≡ (if is_some o then answers.Already else answers.Ok) → (x : Connected) × (Some c ≡ Some x) × (x.order ≡ None)
    by None is h = (c, refl, is)
    by (Some o) is h = absurd cc

pub number_is : (r : Result ℕ ConnectFault) (k : ℕ) → answers.Number k ≡ number_of r → r ≡ Ok k
number_is (Ok n) k e = let same : k ≡ n = cc in ap (λ (m : ℕ). Ok m) (sym same)
number_is (Err connect_faults.Already) k e = absurd cc
number_is (Err connect_faults.NoMore) k e = absurd cc

-- the number that is given was free
pub was_free : (t : TaskData) (old k : ℕ) → connect_answer t old ≡ Ok k → connected_at t.numbers k ≡ None
was_free t old k e = by (is_some (connected_at t.numbers old)) e
  where
    least : (index : Option ℕ) → position_from is_none 0 t.numbers ≡ index → least_free index ≡ Ok k → connected_at t.numbers k ≡ None
    least None is h = absurd cc
    least (Some p) is h = let same : p + 1 ≡ k = cc in ap (connected_at t.numbers) (sym same) ∙ none_at t.numbers p is

    by : (b : Bool) → (if b then Err connect_faults.Already else least_free (position_from is_none 0 t.numbers)) ≡ Ok k → connected_at t.numbers k ≡ None
    by true h = absurd cc
    by false h = least (position_from is_none 0 t.numbers) refl h

named : (t : TaskData) (k : ℕ) (c : Connected) → connected_at t.numbers k ≡ Some c → Names t k
named t k c is = let w = entry_within t.numbers k c is in record { some = w.0; within = w.1 }

given : (t : TaskData) (old k : ℕ) → length t.numbers ≡ 64 → answers.Number k ≡ number_of (connect_answer t old) → Names t k
given t old k entries e =
    let w = free_number t old k entries (number_is (connect_answer t old) k e) in
    record { some = w.0; within = omega (arith, entries, w.0, w.1) }

names_its : (cell : CellData) (h : List Event) (actor : ℕ) (request : Request) (answer : Answer) → length (interrupts_of cell h actor).numbers ≡ 64 → IsAnswer cell h actor request answer
    → NamesIts (interrupts_of cell h actor) request answer
names_its cell h actor (requests.Connect old trap) (answers.Number k) entries is = given (interrupts_of cell h actor) old k entries is
names_its cell h actor (requests.Order k on single) answers.Ok entries is =
    let w = is_free (connected_at (interrupts_of cell h actor).numbers k) is in named (interrupts_of cell h actor) k w.0 w.1
names_its cell h actor (requests.Sleep k) answers.Ok entries is = let w = is_known (connected_at (interrupts_of cell h actor).numbers k) is in named (interrupts_of cell h actor) k w.0 w.1
names_its cell h actor (requests.Watch k) answers.Ok entries is = let w = is_known (connected_at (interrupts_of cell h actor).numbers k) is in named (interrupts_of cell h actor) k w.0 w.1
names_its cell h actor (requests.Delete k) answers.Ok entries is = let w = is_known (connected_at (interrupts_of cell h actor).numbers k) is in named (interrupts_of cell h actor) k w.0 w.1
names_its cell h actor _ _ entries is = tt

-- -- the number after one more event

abbrev entry_of : CellData → ℕ → ℕ → List Event → Option Connected
entry_of cell task number h = connected_at (interrupts_of cell h task).numbers number

fired_at : (changes : List Watched) (numbers : List (Option Connected)) (number : ℕ) → connected_at (map (after_firing changes) numbers) number ≡ after_firing changes (connected_at numbers number)
fired_at changes numbers zero = refl
fired_at changes numbers (suc k) =
    entry_at-next (map (after_firing changes) numbers) k ∙ get_or-map (after_firing changes) numbers k None ∙ ap (after_firing changes) (sym (entry_at-next numbers k))

asked_more : (cell : CellData) (task number : ℕ) (h : List Event) (e : Event) → task < length cell.tasks → AllAnswered cell h → IsAnswer cell h e.actor e.request e.answer
    → connected_at (task_at (asked_with (interrupts_after cell h) e.actor e.request e.answer) task).numbers number ≡ entry_by (acts_of task number e) (entry_of cell task number h)
asked_more cell task number h e few asked is = elim (cases_eq task e.actor) [
  | inl own ↦
      let kept : KeptTasks cell h = tasks_kept cell h asked in
      let there : e.actor < length (interrupts_after cell h) = omega (arith, kept.count, few, own) in
      let few_actor : e.actor < length cell.tasks = omega (arith, few, own) in
      ap (λ (j : ℕ). connected_at (task_at (asked_with (interrupts_after cell h) e.actor e.request e.answer) j).numbers number) own
      ∙ ap (λ (ts : List TaskData). connected_at (task_at ts e.actor).numbers number) (asked_own (interrupts_after cell h) e.actor e.request e.answer)
      ∙ ap (λ (t : TaskData). connected_at t.numbers number)
      (get_or-set_same (interrupts_after cell h) e.actor (own_with (interrupts_of cell h e.actor) e.request e.answer) before_all there)
      ∙ own_stepped (interrupts_of cell h e.actor) number e.request e.answer (names_its cell h e.actor e.request e.answer (kept.each e.actor few_actor).sound.count is)
      ∙ ap (λ (j : ℕ). entry_by (act number e.request e.answer) (entry_of cell j number h)) (sym own)
      ∙ sym (ap (λ (b : Bool). entry_by (if b then act number e.request e.answer else leaves) (entry_of cell task number h)) (eq-eqb e.actor task (sym own)))
  | inr other ↦
      ap (λ (ts : List TaskData). connected_at (task_at ts task).numbers number) (asked_own (interrupts_after cell h) e.actor e.request e.answer)
      ∙ ap (λ (t : TaskData). connected_at t.numbers number)
      (get_or-set_other (interrupts_after cell h) e.actor task (own_with (interrupts_of cell h e.actor) e.request e.answer) before_all other)
      ∙ sym (ap (λ (b : Bool). entry_by (if b then act number e.request e.answer else leaves) (entry_of cell task number h)) (ne_eqb e.actor task (λ same. other (sym same))))
]

-- without the last event
front : (cell : CellData) (h : List Event) (e : Event) → AllAnswered cell (h ++ e ∷ []) → AllAnswered cell h
front cell h e asked = answered_fronts cell h (e ∷ []) asked

entry_more : (cell : CellData) (task number : ℕ) (h : List Event) (e : Event) → task < length cell.tasks → AllAnswered cell (h ++ e ∷ [])
    → entry_of cell task number (h ++ e ∷ []) ≡ after_firing (changes_of cell h e) (entry_by (acts_of task number e) (entry_of cell task number h))
entry_more cell task number h e few asked =
    let changes : List Watched = changes_of cell h e in
    let before : AllAnswered cell h = front cell h e asked in
    let now : List TaskData = asked_with (interrupts_after cell h) e.actor e.request e.answer in
    let kept : KeptTasks cell h = tasks_kept cell h before in
    let count : length now ≡ length cell.tasks =
    ap (λ (ts : List TaskData). length ts) (asked_own (interrupts_after cell h) e.actor e.request e.answer)
    ∙ length-set (interrupts_after cell h) e.actor (own_with (interrupts_of cell h e.actor) e.request e.answer) ∙ kept.count in
    ap (λ (ts : List TaskData). connected_at (task_at ts task).numbers number) (interrupts_after-more cell h e)
    ∙ ap (λ (t : TaskData). connected_at t.numbers number) (get_or-map_at (after_changes changes) now task before_all before_all (omega (arith, count, few)))
    ∙ fired_at changes (task_at now task).numbers number
    ∙ ap (after_firing changes) (asked_more cell task number h e few before (asked.answered h [] e refl))

-- a request about interrupts changes no signal and no persistent
quiet : (number : ℕ) (request : Request) (answer : Answer) (a : Act) → IsAct number request answer a → (a ≡ leaves → ⊥) → may_change request answer ≡ false
quiet number request answer (connects trap) w some = ap (λ (r : Request). may_change r answer) w.1
quiet number request answer (orders on single) w some = ap (λ (r : Request). may_change r answer) w.0
quiet number request answer (sleeps true) w some = ap (λ (r : Request). may_change r answer) w.0
quiet number request answer (sleeps false) w some = ap (λ (r : Request). may_change r answer) w.0
quiet number request answer deletes w some = ap (λ (r : Request). may_change r answer) w.0
quiet number request answer leaves w some = absurd (some refl)

own_act : (task number : ℕ) (e : Event) (a : Act) → IsActs task number e a → (a ≡ leaves → ⊥) → IsAct number e.request e.answer a
own_act task number e (connects trap) w some = w.1
own_act task number e (orders on single) w some = w.1
own_act task number e (sleeps asleep) w some = w.1
own_act task number e deletes w some = w.1
own_act task number e leaves w some = tt

no_changes : (cell : CellData) (task number : ℕ) (h : List Event) (e : Event) (a : Act) → acts_of task number e ≡ a → (a ≡ leaves → ⊥) → changes_of cell h e ≡ []
no_changes cell task number h e a is some =
    changes_of-none cell h e (quiet number e.request e.answer a (own_act task number e a (subst (IsActs task number e) is (all_meant task number e)) some) some)

-- what an act does to the entry
entry_with : (cell : CellData) (task number : ℕ) (h : List Event) (e : Event) (a : Act) → task < length cell.tasks → AllAnswered cell (h ++ e ∷ []) → acts_of task number e ≡ a → (a ≡ leaves → ⊥)
    → entry_of cell task number (h ++ e ∷ []) ≡ entry_by a (entry_of cell task number h)
entry_with cell task number h e a few asked is some =
    entry_more cell task number h e few asked ∙ ap (λ (x : Act). after_firing (changes_of cell h e) (entry_by x (entry_of cell task number h))) is
    ∙ ap (λ (c : List Watched). after_firing c (entry_by a (entry_of cell task number h))) (no_changes cell task number h e a is some) ∙ stays (entry_by a (entry_of cell task number h))

-- and what the changes of any other event do
entry_fired : (cell : CellData) (task number : ℕ) (h : List Event) (e : Event) → task < length cell.tasks → AllAnswered cell (h ++ e ∷ []) → acts_of task number e ≡ leaves
    → entry_of cell task number (h ++ e ∷ []) ≡ after_firing (changes_of cell h e) (entry_of cell task number h)
entry_fired cell task number h e few asked is =
    entry_more cell task number h e few asked ∙ ap (λ (x : Act). after_firing (changes_of cell h e) (entry_by x (entry_of cell task number h))) is

free_before : (cell : CellData) (task number trap : ℕ) (h : List Event) (e : Event) → AllAnswered cell (h ++ e ∷ []) → acts_of task number e ≡ connects trap → entry_of cell task number h ≡ None
free_before cell task number trap h e asked is =
    let w : IsActs task number e (connects trap) = subst (IsActs task number e) is (all_meant task number e) in
    let answered : IsAnswer cell h e.actor (requests.Connect w.1.0 trap) (answers.Number number) =
    subst (λ (a : Answer). IsAnswer cell h e.actor (requests.Connect w.1.0 trap) a) w.1.2 (subst (λ (r : Request). IsAnswer cell h e.actor r e.answer) w.1.1 (asked.answered h [] e refl)) in
    ap (λ (k : ℕ). entry_of cell k number h) (sym w.0)
    ∙ was_free (interrupts_of cell h e.actor) w.1.0 number (number_is (connect_answer (interrupts_of cell h e.actor) w.1.0) number answered)

orderless : (cell : CellData) (task number : ℕ) (on : Watched) (single : Bool) (h : List Event) (e : Event) → AllAnswered cell (h ++ e ∷ []) → acts_of task number e ≡ orders on single
    → (c : Connected) × (entry_of cell task number h ≡ Some c) × (c.order ≡ None)
orderless cell task number on single h e asked is =
    let w : IsActs task number e (orders on single) = subst (IsActs task number e) is (all_meant task number e) in
    let answered : IsAnswer cell h e.actor (requests.Order number on single) answers.Ok =
    subst (λ (a : Answer). IsAnswer cell h e.actor (requests.Order number on single) a) w.1.1 (subst (λ (r : Request). IsAnswer cell h e.actor r e.answer) w.1.0 (asked.answered h [] e refl)) in
    let free = is_free (entry_of cell e.actor number h) answered in
    (free.0, ap (λ (k : ℕ). entry_of cell k number h) (sym w.0) ∙ free.1, free.2)

abbrev no_entry : Option Connected
no_entry = None

none_first : (cell : CellData) (task number : ℕ) → entry_of cell task number [] ≡ None
none_first cell task number = ap (λ (t : TaskData). connected_at t.numbers number) (no_task (length cell.tasks) task) ∙ by (number == 0)
  where
    no_task : (count k : ℕ) → task_at (replicate count before_all) k ≡ before_all
    no_task zero k = refl
    no_task (suc count) zero = refl
    no_task (suc count) (suc k) = no_task count k

    nowhere : (count k : ℕ) → slice_index_or (replicate count no_entry) k no_entry ≡ no_entry
    nowhere zero k = refl
    nowhere (suc count) zero = refl
    nowhere (suc count) (suc k) = nowhere count k

    by : (b : Bool) → (if b then no_entry else slice_index_or (replicate 64 no_entry) (number - 1) no_entry) ≡ no_entry
    by true = refl
    by false = nowhere 64 (number - 1)

-- ---- forms of entries

-- the entry before an order or a sleep was set
from_order : (order : Option Order) (entry : Option Connected) (c : Connected) → with_order order entry ≡ Some c
    → (old : Connected) × (entry ≡ Some old) × (old.trap ≡ c.trap) × (old.asleep ≡ c.asleep) × (order ≡ c.order)
from_order order None c is = absurd cc
from_order order (Some old) c is =
    let same : record old { order = order } ≡ c = cc in
    (old, refl, ap (λ (x : Connected). x.trap) same, ap (λ (x : Connected). x.asleep) same, ap (λ (x : Connected). x.order) same)

from_sleep : (asleep : Bool) (entry : Option Connected) (c : Connected) → with_sleep asleep entry ≡ Some c
    → (old : Connected) × (entry ≡ Some old) × (old.trap ≡ c.trap) × (asleep ≡ c.asleep) × (old.order ≡ c.order)
from_sleep asleep None c is = absurd cc
from_sleep asleep (Some old) c is =
    let same : record old { asleep = asleep } ≡ c = cc in
    (old, refl, ap (λ (x : Connected). x.trap) same, ap (λ (x : Connected). x.asleep) same, ap (λ (x : Connected). x.order) same)

from_fresh : (trap : ℕ) (c : Connected) → fresh trap ≡ Some c → (trap ≡ c.trap) × (c.asleep ≡ false) × (c.order ≡ None)
from_fresh trap c is =
    let same : record { trap = trap; order = None; asleep = false } ≡ c = cc in
    (ap (λ (x : Connected). x.trap) same, sym (ap (λ (x : Connected). x.asleep) same), sym (ap (λ (x : Connected). x.order) same))

-- a firing leaves all but the order, and the order too if nothing fires
record Fired (changes : List Watched) (entry : Option Connected) (c : Connected) : Type 0 where
  old : Connected
  is : entry ≡ Some old
  trap : old.trap ≡ c.trap
  asleep : old.asleep ≡ c.asleep
  order : ((fires changes (Some old) ≡ true) × (after_its_firing old.order ≡ c.order)) ⊎ ((fires changes (Some old) ≡ false) × (old.order ≡ c.order))

from_firing : (changes : List Watched) (entry : Option Connected) (c : Connected) → after_firing changes entry ≡ Some c → Fired changes entry c
from_firing changes None c is = absurd cc
from_firing changes (Some old) c is = by (fires changes (Some old)) refl is
  where
    by : (b : Bool) → fires changes (Some old) ≡ b → (if b then Some (record old { order = after_its_firing old.order }) else Some old) ≡ Some c → Fired changes (Some old) c
    by true f e =
        let same : record old { order = after_its_firing old.order } ≡ c = cc in
        record { old = old; is = refl; trap = ap (λ (x : Connected). x.trap) same; asleep = ap (λ (x : Connected). x.asleep) same; order = inl (f, ap (λ (x : Connected). x.order) same) }
    by false f e =
        let same : old ≡ c = cc in
        record { old = old; is = refl; trap = ap (λ (x : Connected). x.trap) same; asleep = ap (λ (x : Connected). x.asleep) same; order = inr (f, ap (λ (x : Connected). x.order) same) }

-- and conversely
to_firing : (changes : List Watched) (c : Connected) → (new : Connected) × (after_firing changes (Some c) ≡ Some new) × Fired changes (Some c) new
to_firing changes c = by (fires changes (Some c)) refl
  where
    now : (b : Bool) → fires changes (Some c) ≡ b → after_firing changes (Some c) ≡ (if b then Some (record c { order = after_its_firing c.order }) else Some c)
    now b f = ap (λ (x : Bool). if x then Some (record c { order = after_its_firing c.order }) else Some c) f

    by : (b : Bool) → fires changes (Some c) ≡ b → (new : Connected) × (after_firing changes (Some c) ≡ Some new) × Fired changes (Some c) new
    by true f = (record c { order = after_its_firing c.order }, now true f, record { old = c; is = refl; trap = refl; asleep = refl; order = inl (f, refl) })
    by false f = (c, now false f, record { old = c; is = refl; trap = refl; asleep = refl; order = inr (f, refl) })

same_old : (x y : Connected) (entry : Option Connected) → entry ≡ Some x → entry ≡ Some y → x ≡ y
same_old x y entry p q = cc

-- ---- connected with a trap

abbrev IsConnected : CellData → ℕ → ℕ → ℕ → List Event → Type 0
IsConnected cell task number trap h = (c : Connected) × (entry_of cell task number h ≡ Some c) × (c.trap ≡ trap)

connected_was : (cell : CellData) (task number trap : ℕ) (h : List Event) (e : Event) → task < length cell.tasks → AllAnswered cell (h ++ e ∷ []) → IsConnected cell task number trap (h ++ e ∷ []) → (a : Act)
    → acts_of task number e ≡ a → Connects task number trap h e ⊎ (IsConnected cell task number trap h × ¬ Deletes task number h e)
connected_was cell task number trap h e few asked w (connects other) is =
    let now = from_fresh other w.0 (sym (entry_with cell task number h e (connects other) few asked is (λ same. absurd cc)) ∙ w.1) in
    let same : other ≡ trap = now.0 ∙ w.2 in
    inl (subst (λ (t : ℕ). Connects task number t h e) same (acts_connects task number other h e is))
connected_was cell task number trap h e few asked w (orders on single) is =
    let old = from_order (Some (record { on = on; single = single })) (entry_of cell task number h) w.0 (sym (entry_with cell task number h e (orders on single) few asked is (λ same. absurd cc)) ∙ w.1) in
    inr ((old.0, old.1, old.2 ∙ w.2), λ gone. let both : orders on single ≡ deletes = sym is ∙ deletes_acts task number h e gone in absurd cc)
connected_was cell task number trap h e few asked w (sleeps asleep) is =
    let old = from_sleep asleep (entry_of cell task number h) w.0 (sym (entry_with cell task number h e (sleeps asleep) few asked is (λ same. absurd cc)) ∙ w.1) in
    inr ((old.0, old.1, old.2 ∙ w.2), λ gone. let both : sleeps asleep ≡ deletes = sym is ∙ deletes_acts task number h e gone in absurd cc)
connected_was cell task number trap h e few asked w deletes is =
    let gone : None ≡ Some w.0 = sym (entry_with cell task number h e deletes few asked is (λ same. absurd cc)) ∙ w.1 in absurd cc
connected_was cell task number trap h e few asked w leaves is =
    let old : Fired (changes_of cell h e) (entry_of cell task number h) w.0 = from_firing (changes_of cell h e) (entry_of cell task number h) w.0 (sym (entry_fired cell task number h e few asked is) ∙ w.1) in
    inr ((old.old, old.is, old.trap ∙ w.2), λ gone. let both : leaves ≡ deletes = sym is ∙ deletes_acts task number h e gone in absurd cc)

connected_told : (cell : CellData) (task number trap : ℕ) → task < length cell.tasks → Told (AllAnswered cell) (IsConnected cell task number trap) (Connects task number trap) (Deletes task number)
connected_told cell task number trap few = record {
  nothing = λ w. let none : None ≡ Some w.0 = sym (none_first cell task number) ∙ w.1 in cc;
  was = λ h e asked w. connected_was cell task number trap h e few asked w (acts_of task number e) refl;
}

connected_keeps : (cell : CellData) (task number trap : ℕ) (h : List Event) (e : Event) → task < length cell.tasks → AllAnswered cell (h ++ e ∷ []) → IsConnected cell task number trap h
    → ¬ Deletes task number h e → (a : Act) → acts_of task number e ≡ a → IsConnected cell task number trap (h ++ e ∷ [])
connected_keeps cell task number trap h e few asked w none (connects other) is = let free : None ≡ Some w.0 = sym (free_before cell task number other h e asked is) ∙ w.1 in absurd cc
connected_keeps cell task number trap h e few asked w none (orders on single) is = (
  record w.0 { order = Some (record { on = on; single = single }) },
  entry_with cell task number h e (orders on single) few asked is (λ same. absurd cc) ∙ ap (with_order (Some (record { on = on; single = single }))) w.1,
  w.2,
)
connected_keeps cell task number trap h e few asked w none (sleeps asleep) is =
    (record w.0 { asleep = asleep }, entry_with cell task number h e (sleeps asleep) few asked is (λ same. absurd cc) ∙ ap (with_sleep asleep) w.1, w.2)
connected_keeps cell task number trap h e few asked w none deletes is = absurd (none (acts_deletes task number h e is))
connected_keeps cell task number trap h e few asked w none leaves is =
    let new = to_firing (changes_of cell h e) w.0 in
    let fired : Fired (changes_of cell h e) (Some w.0) new.0 = new.2 in
    let same : fired.old ≡ w.0 = same_old fired.old w.0 (Some w.0) fired.is refl in
    (new.0, entry_fired cell task number h e few asked is ∙ ap (after_firing (changes_of cell h e)) w.1 ∙ new.1, sym fired.trap ∙ ap (λ (x : Connected). x.trap) same ∙ w.2)

connected_tells : (cell : CellData) (task number trap : ℕ) → task < length cell.tasks → Tells (AllAnswered cell) (IsConnected cell task number trap) (Connects task number trap) (Deletes task number)
connected_tells cell task number trap few = record {
  made = λ h e asked w. (record { trap = trap; order = None; asleep = false }, entry_with cell task number h e (connects trap) few asked (connects_acts task number trap h e w) (λ same. absurd cc), refl);
  keeps = λ h e asked w none. connected_keeps cell task number trap h e few asked w none (acts_of task number e) refl;
}

pub connected : (cell : CellData) (history : List Event) (task number trap : ℕ) → AllAnswered cell history → task < length cell.tasks
    → IsConnected cell task number trap history ↔ Since (Connects task number trap) (Deletes task number) history
connected cell history task number trap asked few = (
  told (AllAnswered cell) (IsConnected cell task number trap) (Connects task number trap) (Deletes task number) history (answered_fronts cell) asked (connected_told cell task number trap few),
  tells (AllAnswered cell) (IsConnected cell task number trap) (Connects task number trap) (Deletes task number) history (answered_fronts cell) asked (connected_tells cell task number trap few),
)

-- ---- asleep

abbrev Slept : CellData → ℕ → ℕ → List Event → Type 0
Slept cell task number h = (c : Connected) × (entry_of cell task number h ≡ Some c) × (c.asleep ≡ true)

abbrev SleptOrGone : CellData → ℕ → ℕ → List Event → Type 0
SleptOrGone cell task number h = (entry_of cell task number h ≡ None) ⊎ Slept cell task number h

no_wake : (task number : ℕ) (h : List Event) (e : Event) (a : Act) → acts_of task number e ≡ a → (a ≡ sleeps false → ⊥) → ((trap : ℕ) → a ≡ connects trap → ⊥) → ¬ Wakes task number h e
no_wake task number h e a is not_watched not_connected (inl watched) = not_watched (sym is ∙ watches_acts task number e watched)
no_wake task number h e a is not_watched not_connected (inr any) = not_connected any.0 (sym is ∙ connects_acts task number any.0 h e any.1)

slept_was : (cell : CellData) (task number : ℕ) (h : List Event) (e : Event) → task < length cell.tasks → AllAnswered cell (h ++ e ∷ []) → Slept cell task number (h ++ e ∷ []) → (a : Act)
    → acts_of task number e ≡ a → Sleeps task number h e ⊎ (Slept cell task number h × ¬ Wakes task number h e)
slept_was cell task number h e few asked w (connects trap) is =
    let now = from_fresh trap w.0 (sym (entry_with cell task number h e (connects trap) few asked is (λ same. absurd cc)) ∙ w.1) in
    absurd (false≢true (sym now.1 ∙ w.2))
slept_was cell task number h e few asked w (orders on single) is =
    let old = from_order (Some (record { on = on; single = single })) (entry_of cell task number h) w.0 (sym (entry_with cell task number h e (orders on single) few asked is (λ same. absurd cc)) ∙ w.1) in
    inr ((old.0, old.1, old.3 ∙ w.2), no_wake task number h e (orders on single) is (λ same. absurd cc) (λ trap same. absurd cc))
slept_was cell task number h e few asked w (sleeps true) is = inl (acts_sleeps task number h e is)
slept_was cell task number h e few asked w (sleeps false) is =
    let old = from_sleep false (entry_of cell task number h) w.0 (sym (entry_with cell task number h e (sleeps false) few asked is (λ same. absurd cc)) ∙ w.1) in
    absurd (false≢true (old.3 ∙ w.2))
slept_was cell task number h e few asked w deletes is = let gone : None ≡ Some w.0 = sym (entry_with cell task number h e deletes few asked is (λ same. absurd cc)) ∙ w.1 in absurd cc
slept_was cell task number h e few asked w leaves is =
    let old : Fired (changes_of cell h e) (entry_of cell task number h) w.0 = from_firing (changes_of cell h e) (entry_of cell task number h) w.0 (sym (entry_fired cell task number h e few asked is) ∙ w.1) in
    inr ((old.old, old.is, old.asleep ∙ w.2), no_wake task number h e leaves is (λ same. absurd cc) (λ trap same. absurd cc))

slept_told : (cell : CellData) (task number : ℕ) → task < length cell.tasks → Told (AllAnswered cell) (Slept cell task number) (λ h e. Sleeps task number h e) (Wakes task number)
slept_told cell task number few = record {
  nothing = λ w. let none : None ≡ Some w.0 = sym (none_first cell task number) ∙ w.1 in cc;
  was = λ h e asked w. slept_was cell task number h e few asked w (acts_of task number e) refl;
}

-- an empty entry stays empty unless it is connected
stays_gone : (cell : CellData) (task number : ℕ) (h : List Event) (e : Event) → task < length cell.tasks → AllAnswered cell (h ++ e ∷ []) → entry_of cell task number h ≡ None → (a : Act)
    → acts_of task number e ≡ a → ((trap : ℕ) → a ≡ connects trap → ⊥) → entry_of cell task number (h ++ e ∷ []) ≡ None
stays_gone cell task number h e few asked gone (connects trap) is none = absurd (none trap refl)
stays_gone cell task number h e few asked gone (orders on single) is none =
    entry_with cell task number h e (orders on single) few asked is (λ same. absurd cc) ∙ ap (with_order (Some (record { on = on; single = single }))) gone
stays_gone cell task number h e few asked gone (sleeps asleep) is none = entry_with cell task number h e (sleeps asleep) few asked is (λ same. absurd cc) ∙ ap (with_sleep asleep) gone
stays_gone cell task number h e few asked gone deletes is none = entry_with cell task number h e deletes few asked is (λ same. absurd cc)
stays_gone cell task number h e few asked gone leaves is none = entry_fired cell task number h e few asked is ∙ ap (after_firing (changes_of cell h e)) gone

slept_keeps : (cell : CellData) (task number : ℕ) (h : List Event) (e : Event) → task < length cell.tasks → AllAnswered cell (h ++ e ∷ []) → Slept cell task number h → ¬ Wakes task number h e → (a : Act)
    → acts_of task number e ≡ a → SleptOrGone cell task number (h ++ e ∷ [])
slept_keeps cell task number h e few asked w none (connects trap) is = absurd (none (inr (trap, acts_connects task number trap h e is)))
slept_keeps cell task number h e few asked w none (orders on single) is =
    inr (
      record w.0 { order = Some (record { on = on; single = single }) },
      entry_with cell task number h e (orders on single) few asked is (λ same. absurd cc) ∙ ap (with_order (Some (record { on = on; single = single }))) w.1,
      w.2,
    )
slept_keeps cell task number h e few asked w none (sleeps true) is = inr (record w.0 { asleep = true }, entry_with cell task number h e (sleeps true) few asked is (λ same. absurd cc) ∙ ap (with_sleep true) w.1, refl)
slept_keeps cell task number h e few asked w none (sleeps false) is = absurd (none (inl (acts_watches task number e is)))
slept_keeps cell task number h e few asked w none deletes is = inl (entry_with cell task number h e deletes few asked is (λ same. absurd cc))
slept_keeps cell task number h e few asked w none leaves is =
    let new = to_firing (changes_of cell h e) w.0 in
    let fired : Fired (changes_of cell h e) (Some w.0) new.0 = new.2 in
    let same : fired.old ≡ w.0 = same_old fired.old w.0 (Some w.0) fired.is refl in
    inr (new.0, entry_fired cell task number h e few asked is ∙ ap (after_firing (changes_of cell h e)) w.1 ∙ new.1, sym fired.asleep ∙ ap (λ (x : Connected). x.asleep) same ∙ w.2)

no_connect : (task number : ℕ) (h : List Event) (e : Event) → ¬ Wakes task number h e → (trap : ℕ) → acts_of task number e ≡ connects trap → ⊥
no_connect task number h e none trap is = none (inr (trap, acts_connects task number trap h e is))

slept_tells : (cell : CellData) (task number : ℕ) → task < length cell.tasks → Tells (AllAnswered cell) (SleptOrGone cell task number) (λ h e. Sleeps task number h e) (Wakes task number)
slept_tells cell task number few = record {
  made = λ h e asked slept. begun h e asked slept (entry_of cell task number h) refl;
  keeps = λ h e asked w none. elim w [
    | inl gone ↦ inl (stays_gone cell task number h e few asked gone (acts_of task number e) refl (no_connect task number h e none))
    | inr slept ↦ slept_keeps cell task number h e few asked slept none (acts_of task number e) refl
  ];
}
  where
    begun : (h : List Event) (e : Event) → AllAnswered cell (h ++ e ∷ []) → Sleeps task number h e → (entry : Option Connected) → entry_of cell task number h ≡ entry → SleptOrGone cell task number (h ++ e ∷ [])
    begun h e asked slept None is = inl (entry_with cell task number h e (sleeps true) few asked (sleeps_acts task number h e slept) (λ same. absurd cc) ∙ ap (with_sleep true) is)
    begun h e asked slept (Some c) is =
        inr (record c { asleep = true }, entry_with cell task number h e (sleeps true) few asked (sleeps_acts task number h e slept) (λ same. absurd cc) ∙ ap (with_sleep true) is, refl)

slept_since : (cell : CellData) (h : List Event) (task number : ℕ) → AllAnswered cell h → task < length cell.tasks → Slept cell task number h → IsAsleep task number h
slept_since cell h task number asked few w =
    told (AllAnswered cell) (Slept cell task number) (λ x e. Sleeps task number x e) (Wakes task number) h (answered_fronts cell) asked (slept_told cell task number few) w

since_slept : (cell : CellData) (h : List Event) (task number : ℕ) (c : Connected) → AllAnswered cell h → task < length cell.tasks → entry_of cell task number h ≡ Some c → IsAsleep task number h → c.asleep ≡ true
since_slept cell h task number c asked few is since =
    elim (tells (AllAnswered cell) (SleptOrGone cell task number) (λ x e. Sleeps task number x e) (Wakes task number) h (answered_fronts cell) asked (slept_tells cell task number few) since) [
      | inl gone ↦ let no : None ≡ Some c = sym gone ∙ is in absurd cc
      | inr w ↦ ap (λ (x : Connected). x.asleep) (same_old c w.0 (entry_of cell task number h) is w.1) ∙ w.2
    ]

pub asleep : (cell : CellData) (history : List Event) (task number : ℕ) (c : Connected) → AllAnswered cell history → task < length cell.tasks → entry_of cell task number history ≡ Some c
    → (c.asleep ≡ true) ↔ IsAsleep task number history
asleep cell history task number c asked few is = (λ slept. slept_since cell history task number asked few (c, is, slept), λ since. since_slept cell history task number c asked few is since)

-- ---- ordered

abbrev HasOrder : CellData → ℕ → ℕ → Watched → Bool → List Event → Type 0
HasOrder cell task number on single h = (c : Connected) × (entry_of cell task number h ≡ Some c) × (c.order ≡ Some (record { on = on; single = single }))

abbrev OrderedOrGone : CellData → ℕ → ℕ → Watched → Bool → List Event → Type 0
OrderedOrGone cell task number on single h = (entry_of cell task number h ≡ None) ⊎ HasOrder cell task number on single h

abbrev no_order : Option Order
no_order = None

-- an order that survived a firing is not Single
order_left : (order : Option Order) (o : Order) → after_its_firing order ≡ Some o → (order ≡ Some o) × (o.single ≡ false)
order_left None o is = absurd cc
order_left (Some x) o is = by x.single refl is
  where
    by : (b : Bool) → x.single ≡ b → (if b then None else Some x) ≡ Some o → (Some x ≡ Some o) × (o.single ≡ false)
    by true s e = absurd cc
    by false s e = let same : x ≡ o = cc in (e, sym (ap (λ (y : Order). y.single) same) ∙ s)

-- no request about interrupts ends an order
no_end : (cell : CellData) (task number : ℕ) (on : Watched) (single : Bool) (h : List Event) (e : Event) (a : Act) → acts_of task number e ≡ a → (a ≡ leaves → ⊥) → ((trap : ℕ) → a ≡ connects trap → ⊥)
    → ¬ EndsOrder cell task number on single h e
no_end cell task number on single h e a is some not_connected (inl any) = not_connected any.0 (sym is ∙ connects_acts task number any.0 h e any.1)
no_end cell task number on single h e a is some not_connected (inr w) = false≢true (sym (ap (list_any (is_change on)) (no_changes cell task number h e a is some)) ∙ w.1.0)

-- it fires if what it watches changes while it is awake
fires_so : (changes : List Watched) (c : Connected) (on : Watched) (single : Bool) → c.order ≡ Some (record { on = on; single = single }) → list_any (is_change on) changes ≡ true → c.asleep ≡ false
    → fires changes (Some c) ≡ true
fires_so changes c on single order changed awake =
    and_from (not c.asleep) (is_on changes c.order) (ap not awake) (ap (is_on changes) order ∙ changed)

ordered_was : (cell : CellData) (task number : ℕ) (on : Watched) (single : Bool) (h : List Event) (e : Event) → task < length cell.tasks → AllAnswered cell (h ++ e ∷ [])
    → HasOrder cell task number on single (h ++ e ∷ []) → (a : Act) → acts_of task number e ≡ a
    → Orders task number on single h e ⊎ (HasOrder cell task number on single h × ¬ EndsOrder cell task number on single h e)
ordered_was cell task number on single h e few asked w (connects trap) is =
    let now = from_fresh trap w.0 (sym (entry_with cell task number h e (connects trap) few asked is (λ same. absurd cc)) ∙ w.1) in
    let no : no_order ≡ Some (record { on = on; single = single }) = sym now.2 ∙ w.2 in absurd cc
ordered_was cell task number on single h e few asked w (orders other once) is =
    let old = from_order (Some (record { on = other; single = once })) (entry_of cell task number h) w.0 (sym (entry_with cell task number h e (orders other once) few asked is (λ same. absurd cc)) ∙ w.1) in
    let same : Some (record { on = other; single = once }) ≡ Some (record { on = on; single = single }) = old.4 ∙ w.2 in
    let on_same : other ≡ on = ap (λ (o : Option Order). watched_in o on) same in
    let single_same : once ≡ single = ap (λ (o : Option Order). single_in o) same in
    inl (subst (λ (x : Watched). Orders task number x single h e) on_same (subst (λ (b : Bool). Orders task number other b h e) single_same (acts_orders task number other once h e is)))
  where
    watched_in : Option Order → Watched → Watched
    watched_in None x = x
    watched_in (Some o) x = o.on

    single_in : Option Order → Bool
    single_in None = false
    single_in (Some o) = o.single
ordered_was cell task number on single h e few asked w (sleeps asleep) is =
    let old = from_sleep asleep (entry_of cell task number h) w.0 (sym (entry_with cell task number h e (sleeps asleep) few asked is (λ same. absurd cc)) ∙ w.1) in
    inr ((old.0, old.1, old.4 ∙ w.2), no_end cell task number on single h e (sleeps asleep) is (λ same. absurd cc) (λ trap same. absurd cc))
ordered_was cell task number on single h e few asked w deletes is = let gone : None ≡ Some w.0 = sym (entry_with cell task number h e deletes few asked is (λ same. absurd cc)) ∙ w.1 in absurd cc
ordered_was cell task number on single h e few asked w leaves is = inr (by old.order)
  where
    old : Fired (changes_of cell h e) (entry_of cell task number h) w.0
    old = from_firing (changes_of cell h e) (entry_of cell task number h) w.0 (sym (entry_fired cell task number h e few asked is) ∙ w.1)

    not_connected : (trap : ℕ) → Connects task number trap h e → ⊥
    not_connected trap connected = let both : leaves ≡ connects trap = sym is ∙ connects_acts task number trap h e connected in cc

    awake : ¬ IsAsleep task number h → (b : Bool) → old.old.asleep ≡ b → b ≡ false
    awake none true slept = absurd (none (slept_since cell h task number (front cell h e asked) few (old.old, old.is, slept)))
    awake none false slept = refl

    by : ((fires (changes_of cell h e) (Some old.old) ≡ true) × (after_its_firing old.old.order ≡ w.0.order)) ⊎ ((fires (changes_of cell h e) (Some old.old) ≡ false) × (old.old.order ≡ w.0.order))
        → HasOrder cell task number on single h × ¬ EndsOrder cell task number on single h e
    by (inl fired) =
        let left = order_left old.old.order (record { on = on; single = single }) (fired.1 ∙ w.2) in
        ((old.old, old.is, left.0), λ ends. elim ends [ inl any ↦ not_connected any.0 any.1 | inr x ↦ false≢true (sym left.1 ∙ x.0) ])
    by (inr quiet) = (
      (old.old, old.is, quiet.1 ∙ w.2),
      λ ends. elim ends [
        | inl any ↦ not_connected any.0 any.1
        | inr x ↦ false≢true (sym quiet.0 ∙ fires_so (changes_of cell h e) old.old on single (quiet.1 ∙ w.2) x.1.0 (awake x.1.1 old.old.asleep refl))
      ],
    )

ordered_told : (cell : CellData) (task number : ℕ) (on : Watched) (single : Bool) → task < length cell.tasks
    → Told (AllAnswered cell) (HasOrder cell task number on single) (Orders task number on single) (EndsOrder cell task number on single)
ordered_told cell task number on single few = record {
  nothing = λ w. let none : None ≡ Some w.0 = sym (none_first cell task number) ∙ w.1 in cc;
  was = λ h e asked w. ordered_was cell task number on single h e few asked w (acts_of task number e) refl;
}

ordered_keeps : (cell : CellData) (task number : ℕ) (on : Watched) (single : Bool) (h : List Event) (e : Event) → task < length cell.tasks → AllAnswered cell (h ++ e ∷ [])
    → HasOrder cell task number on single h → ¬ EndsOrder cell task number on single h e → (a : Act) → acts_of task number e ≡ a → OrderedOrGone cell task number on single (h ++ e ∷ [])
ordered_keeps cell task number on single h e few asked w none (connects trap) is = absurd (none (inl (trap, acts_connects task number trap h e is)))
ordered_keeps cell task number on single h e few asked w none (orders other once) is =
    let free = orderless cell task number other once h e asked is in
    let same : w.0 ≡ free.0 = same_old w.0 free.0 (entry_of cell task number h) w.1 free.1 in
    let no : Some (record { on = on; single = single }) ≡ no_order = sym w.2 ∙ ap (λ (x : Connected). x.order) same ∙ free.2 in absurd cc
ordered_keeps cell task number on single h e few asked w none (sleeps asleep) is =
    inr (record w.0 { asleep = asleep }, entry_with cell task number h e (sleeps asleep) few asked is (λ same. absurd cc) ∙ ap (with_sleep asleep) w.1, w.2)
ordered_keeps cell task number on single h e few asked w none deletes is = inl (entry_with cell task number h e deletes few asked is (λ same. absurd cc))
ordered_keeps cell task number on single h e few asked w none leaves is = by (fires (changes_of cell h e) (Some w.0)) refl
  where
    now : (b : Bool) → fires (changes_of cell h e) (Some w.0) ≡ b → entry_of cell task number (h ++ e ∷ []) ≡ (if b then Some (record w.0 { order = after_its_firing w.0.order }) else Some w.0)
    now b f =
        entry_fired cell task number h e few asked is ∙ ap (after_firing (changes_of cell h e)) w.1
        ∙ ap (λ (x : Bool). if x then Some (record w.0 { order = after_its_firing w.0.order }) else Some w.0) f

    changed : fires (changes_of cell h e) (Some w.0) ≡ true → (w.0.asleep ≡ false) × (list_any (is_change on) (changes_of cell h e) ≡ true)
    changed f =
        let parts = and_parts (not w.0.asleep) (is_on (changes_of cell h e) w.0.order) f in
        (not_true w.0.asleep parts.0, sym (ap (is_on (changes_of cell h e)) w.2) ∙ parts.1)
      where
        not_true : (b : Bool) → not b ≡ true → b ≡ false
        not_true true p = absurd (false≢true p)
        not_true false p = refl

    stays_ordered : (b : Bool) → single ≡ b → fires (changes_of cell h e) (Some w.0) ≡ true → after_its_firing w.0.order ≡ Some (record { on = on; single = single })
    stays_ordered true s f =
        let c = changed f in
        absurd (none (inr (s, (c.1, λ since. false≢true (sym c.0 ∙ since_slept cell h task number w.0 (front cell h e asked) few w.1 since)))))
    stays_ordered false s f = ap after_its_firing w.2 ∙ ap (λ (b : Bool). if b then None else Some (record { on = on; single = single })) s

    by : (b : Bool) → fires (changes_of cell h e) (Some w.0) ≡ b → OrderedOrGone cell task number on single (h ++ e ∷ [])
    by true f = inr (record w.0 { order = after_its_firing w.0.order }, now true f, stays_ordered single refl f)
    by false f = inr (w.0, now false f, w.2)

no_connect_in : (cell : CellData) (task number : ℕ) (on : Watched) (single : Bool) (h : List Event) (e : Event) → ¬ EndsOrder cell task number on single h e → (trap : ℕ) → acts_of task number e ≡ connects trap → ⊥
no_connect_in cell task number on single h e none trap is = none (inl (trap, acts_connects task number trap h e is))

ordered_tells : (cell : CellData) (task number : ℕ) (on : Watched) (single : Bool) → task < length cell.tasks
    → Tells (AllAnswered cell) (OrderedOrGone cell task number on single) (Orders task number on single) (EndsOrder cell task number on single)
ordered_tells cell task number on single few = record {
  made = λ h e asked ordered.
      let free = orderless cell task number on single h e asked (orders_acts task number on single h e ordered) in
      inr (
        record free.0 { order = Some (record { on = on; single = single }) },
        entry_with cell task number h e (orders on single) few asked (orders_acts task number on single h e ordered) (λ same. absurd cc) ∙ ap (with_order (Some (record { on = on; single = single }))) free.1,
        refl,
      );
  keeps = λ h e asked w none. elim w [
    | inl gone ↦ inl (stays_gone cell task number h e few asked gone (acts_of task number e) refl (no_connect_in cell task number on single h e none))
    | inr has ↦ ordered_keeps cell task number on single h e few asked has none (acts_of task number e) refl
  ];
}

pub is_ordered : (cell : CellData) (history : List Event) (task number : ℕ) (c : Connected) (on : Watched) (single : Bool) → AllAnswered cell history → task < length cell.tasks
    → entry_of cell task number history ≡ Some c
    → (c.order ≡ Some (record { on = on; single = single })) ↔ Since (Orders task number on single) (EndsOrder cell task number on single) history
is_ordered cell history task number c on single asked few is = (there, back)
  where
    there : c.order ≡ Some (record { on = on; single = single }) → Since (Orders task number on single) (EndsOrder cell task number on single) history
    there has =
        told (AllAnswered cell) (HasOrder cell task number on single) (Orders task number on single) (EndsOrder cell task number on single) history (answered_fronts cell) asked
        (ordered_told cell task number on single few) (c, is, has)

    back : Since (Orders task number on single) (EndsOrder cell task number on single) history → c.order ≡ Some (record { on = on; single = single })
    back since =
        elim (tells (AllAnswered cell) (OrderedOrGone cell task number on single) (Orders task number on single) (EndsOrder cell task number on single) history (answered_fronts cell) asked
        (ordered_tells cell task number on single few) since) [
          | inl gone ↦ let no : None ≡ Some c = sym gone ∙ is in absurd cc
          | inr w ↦ ap (λ (x : Connected). x.order) (same_old c w.0 (entry_of cell task number history) is w.1) ∙ w.2
        ]
