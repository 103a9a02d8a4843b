-- What stays of the interrupts of a task: a flood for good, what is queued until it runs or is deleted, and disabled
-- interrupts until they are enabled; and a new number is the least free one.
use Rattle.std.proofs.Common.{◌≡◌, ℕ, zero, suc, ◌+◌, ◌-◌, ◌<◌, ◌≤◌, Bool, true, false, List, [], ◌∷◌, ◌++◌, length, take, Option, Some, None, refl, sym, ◌∙◌, ap, subst, arith, append_assoc}
use Rattle.std.specs.Prelude.{◌||◌, is_none, is_some, nat_lt, if◌then◌else◌, slice_index_or, Ok, Err}
use Rattle.std.specs.List.{position_from}
use Rattle.std.proofs.Math.Seq.{take-append-add}
use Rattle.std.proofs.lemmas.List.{append-nil, get_or-map as get_or-map_at, get_or-set_same}
use Rattle.rapid_model.specs.CellData.{CellData}
use Rattle.rapid_model.specs.declared.answer.Answer.{Answer}
use Rattle.rapid_model.specs.declared.answer.Answer.TheVariants as answers
use Rattle.rapid_model.specs.declared.event.Event.{Event}
use Rattle.rapid_model.specs.declared.request.Request.{Request}
use Rattle.rapid_model.specs.declared.request.Request.TheVariants as requests
use Rattle.trap_dispatch.specs.declared.connect_fault.ConnectFault.TheVariants as connect_faults
use Rattle.trap_dispatch.specs.declared.connected.Connected.{Connected}
use Rattle.trap_dispatch.specs.declared.due.Due.TheVariants as dues
use Rattle.trap_dispatch.specs.Firing.{connected_at, fired_numbers}
use Rattle.trap_dispatch.specs.Tasks.{TaskData, before_all, first_due, in_first_trap, look_answer, after_changes, connect_answer, least_free}
use Rattle.trap_dispatch.specs.Traps.{task_at}
use Rattle.cell_meaning.specs.Answers.{IsAnswer, look_of}
use Rattle.cell_meaning.specs.Changes.{changes_of, changes_by_others}
use Rattle.cell_meaning.specs.Interrupts.{asked_with, interrupts_after, interrupts_of}
use Rattle.cell_meaning.specs.InterruptsSince.{Connects, Deletes, Disables, Enables, BeginsTrap}
use Rattle.cell_meaning.specs.Premises.{AllAnswered}
use Rattle.cell_meaning.specs.Since.{Since}
use Rattle.cell_meaning.proofs.InterruptsKept.{KeptTasks, tasks_kept, asked_own, asked_count, own_with, free_number}
use Rattle.cell_meaning.proofs.InterruptsTold.{connected, number_is, was_free}
use Rattle.cell_meaning.proofs.Lists.{from_front, written_keeps}
use Rattle.cell_meaning.proofs.MoreEvents.{event, interrupts_after-more}
use Rattle.cell_meaning.proofs.Numbered.{entry_at-next}
use Rattle.cell_meaning.proofs.Since.{Tells, tells, answered_fronts}

-- the interrupts of the task after an event's request and answer, before any fires
abbrev asked_of : CellData → List Event → Event → ℕ → TaskData
asked_of cell h e task = task_at (asked_with (interrupts_after cell h) e.actor e.request e.answer) task

-- what holds before an event, and after its request if it is the task's own, holds then
asked_keeps : (P : TaskData → Type 0) (cell : CellData) (h : List Event) (e : Event) (task : ℕ) → P (interrupts_of cell h task)
    → (task ≡ e.actor → P (own_with (interrupts_of cell h e.actor) e.request e.answer)) → P (asked_of cell h e task)
asked_keeps P cell h e task old own =
    subst (λ (ts : List TaskData). P (task_at ts task)) (sym (asked_own (interrupts_after cell h) e.actor e.request e.answer))
    (written_keeps P (interrupts_after cell h) e.actor task (own_with (interrupts_of cell h e.actor) e.request e.answer) before_all old own)

asked_its : (cell : CellData) (h : List Event) (e : Event) (task : ℕ) → task < length cell.tasks → AllAnswered cell h → e.actor ≡ task
    → asked_of cell h e task ≡ own_with (interrupts_of cell h task) e.request e.answer
asked_its cell h e task few asked own =
    let kept : KeptTasks cell h = tasks_kept cell h asked in
    let here : asked_of cell h e e.actor ≡ own_with (interrupts_of cell h e.actor) e.request e.answer =
    ap (λ (ts : List TaskData). task_at ts e.actor) (asked_own (interrupts_after cell h) e.actor e.request e.answer)
    ∙ get_or-set_same (interrupts_after cell h) e.actor (own_with (interrupts_of cell h e.actor) e.request e.answer) before_all (omega (arith, kept.count, few, own)) in
    let P : ℕ → Type 0 = λ k. asked_of cell h e k ≡ own_with (interrupts_of cell h k) e.request e.answer in
    subst P own here

-- and after it the event's changes fire interrupts
one_more : (cell : CellData) (h : List Event) (e : Event) (task : ℕ) → task < length cell.tasks → AllAnswered cell h
    → interrupts_of cell (h ++ e ∷ []) task ≡ after_changes (changes_of cell h e) (asked_of cell h e task)
one_more cell h e task few asked =
    let kept : KeptTasks cell h = tasks_kept cell h asked in
    let now : List TaskData = asked_with (interrupts_after cell h) e.actor e.request e.answer in
    let count : length now ≡ length cell.tasks = asked_count (interrupts_after cell h) e.actor e.request e.answer ∙ kept.count in
    ap (λ (ts : List TaskData). task_at ts task) (interrupts_after-more cell h e) ∙ get_or-map_at (after_changes (changes_of cell h e)) now task before_all before_all (omega (arith, count, few))

front : (cell : CellData) (h : List Event) (e : Event) → AllAnswered cell (h ++ e ∷ []) → AllAnswered cell h
front cell h e asked = answered_fronts cell h (e ∷ []) asked

-- a flood stays
abbrev IsFlooded : CellData → ℕ → List Event → Type 0
IsFlooded cell task h = (interrupts_of cell h task).flood ≡ true

first_flood : (t : TaskData) (queue : List ℕ) → (in_first_trap t queue).flood ≡ t.flood
first_flood t [] = refl
first_flood t (number ∷ queue) = refl

own_flood : (t : TaskData) (request : Request) (answer : Answer) → (own_with t request answer).flood ≡ t.flood
own_flood t requests.Look (answers.Trap number trap) = first_flood t t.queue
own_flood t (requests.Connect old trap) (answers.Number number) = refl
own_flood t (requests.Order number on single) answers.Ok = refl
own_flood t (requests.Sleep number) answers.Ok = refl
own_flood t (requests.Watch number) answers.Ok = refl
own_flood t (requests.Delete number) answers.Ok = refl
own_flood t requests.Disable answers.Ok = refl
own_flood t requests.Enable answers.Ok = refl
own_flood t requests.Leave answers.Ok = refl
own_flood t _ _ = refl

flood_more : (cell : CellData) (h : List Event) (e : Event) (task : ℕ) → task < length cell.tasks → AllAnswered cell h → IsFlooded cell task h → IsFlooded cell task (h ++ e ∷ [])
flood_more cell h e task few asked is =
    let P : TaskData → Type 0 = λ t. t.flood ≡ true in
    let asked_too : P (asked_of cell h e task) =
    asked_keeps P cell h e task is
    (λ own. own_flood (interrupts_of cell h e.actor) e.request e.answer ∙ subst (λ (k : ℕ). IsFlooded cell k h) own is) in
    let t : TaskData = asked_of cell h e task in
    ap (λ (u : TaskData). u.flood) (one_more cell h e task few asked)
    ∙ ap (λ (b : Bool). b || nat_lt 1_024 (length t.queue + length (fired_numbers (changes_of cell h e) t.numbers))) asked_too

flood_later : (cell : CellData) (before later : List Event) (task : ℕ) → task < length cell.tasks → AllAnswered cell (before ++ later) → IsFlooded cell task before → IsFlooded cell task (before ++ later)
flood_later cell before later task few asked is =
    from_front (λ xs. IsFlooded cell task (before ++ xs)) later (subst (IsFlooded cell task) (sym (append-nil before)) is)
    (λ xs ys e cut so_far.
    let all : AllAnswered cell ((before ++ xs) ++ e ∷ ys) = subst (AllAnswered cell) (ap (λ (l : List Event). before ++ l) cut ∙ sym (append_assoc before xs (e ∷ ys))) asked in
    subst (IsFlooded cell task) (append_assoc before xs (e ∷ [])) (flood_more cell (before ++ xs) e task few (answered_fronts cell (before ++ xs) (e ∷ ys) all) so_far))

flood_parts : (numbers : List (Option Connected)) (queue : List ℕ) (flood disabled in_trap : Bool) (seen : ℕ)
    → let t : TaskData = record { numbers = numbers; queue = queue; flood = flood; disabled = disabled; in_trap = in_trap } in answers.Flood ≡ look_of (look_answer t) seen → flood ≡ true
flood_parts numbers queue true disabled in_trap seen is = refl
flood_parts numbers queue false disabled true seen is = cc
flood_parts numbers queue false true false seen is = cc
flood_parts numbers [] false false false seen is = cc
flood_parts numbers (first ∷ rest) false false false seen is = cc

flood_answered : (t : TaskData) (seen : ℕ) → t.flood ≡ true → answers.Flood ≡ look_of (look_answer t) seen
flood_answered t seen is =
    sym (ap (λ (b : Bool). look_of (if b then dues.Flood else if t.in_trap || t.disabled then dues.None else first_due t t.queue) seen) is)

pub flood_stays : (cell : CellData) (before later : List Event) (task : ℕ) → task < length cell.tasks → AllAnswered cell (before ++ later) → IsAnswer cell before task requests.Look answers.Flood
    → IsAnswer cell (before ++ later) task requests.Look answers.Flood
flood_stays cell before later task few asked told =
    let t : TaskData = interrupts_of cell before task in
    let is : IsFlooded cell task before = flood_parts t.numbers t.queue t.flood t.disabled t.in_trap (changes_by_others cell before task) told in
    flood_answered (interrupts_of cell (before ++ later) task) (changes_by_others cell (before ++ later) task) (flood_later cell before later task few asked is)

-- what is queued stays until its trap begins or it is deleted
own_queue : (t : TaskData) (request : Request) (answer : Answer) → ((number trap : ℕ) → request ≡ requests.Look → answer ≡ answers.Trap number trap → ⊥)
    → ((number : ℕ) → request ≡ requests.Delete number → answer ≡ answers.Ok → ⊥) → (own_with t request answer).queue ≡ t.queue
own_queue t requests.Look (answers.Trap number trap) begins deletes = absurd (begins number trap refl refl)
own_queue t (requests.Connect old trap) (answers.Number number) begins deletes = refl
own_queue t (requests.Order number on single) answers.Ok begins deletes = refl
own_queue t (requests.Sleep number) answers.Ok begins deletes = refl
own_queue t (requests.Watch number) answers.Ok begins deletes = refl
own_queue t (requests.Delete number) answers.Ok begins deletes = absurd (deletes number refl refl)
own_queue t requests.Disable answers.Ok begins deletes = refl
own_queue t requests.Enable answers.Ok begins deletes = refl
own_queue t requests.Leave answers.Ok begins deletes = refl
own_queue t _ _ begins deletes = refl

-- an event of the task, from its parts
its_event : (task : ℕ) (request : Request) (answer : Answer) (e : Event) → task ≡ e.actor → e.request ≡ request → e.answer ≡ answer → e ≡ event task request answer
its_event task request answer e own asked told =
    ap (λ (a : ℕ). event a e.request e.answer) (sym own) ∙ ap (λ (r : Request). event task r e.answer) asked ∙ ap (λ (x : Answer). event task request x) told

pub queue_stays : (cell : CellData) (h : List Event) (e : Event) (task : ℕ) → task < length cell.tasks → AllAnswered cell (h ++ e ∷ []) → ¬ BeginsTrap task h e → ((number : ℕ) → ¬ Deletes task number h e)
    → (more : List ℕ) × ((interrupts_of cell (h ++ e ∷ []) task).queue ≡ (interrupts_of cell h task).queue ++ more)
queue_stays cell h e task few asked begins deletes =
    let kept : KeptTasks cell h = tasks_kept cell h (front cell h e asked) in
    let queue : List ℕ = (interrupts_of cell h task).queue in
    let room : length queue ≤ 1_024 = (kept.each task few).sound.room in
    let fired : List ℕ = fired_numbers (changes_of cell h e) (asked_of cell h e task).numbers in
    let same : (asked_of cell h e task).queue ≡ queue =
    asked_keeps (λ t. t.queue ≡ queue) cell h e task refl
    (λ own.
    own_queue (interrupts_of cell h e.actor) e.request e.answer (λ number trap asks told. begins (number, trap, its_event task requests.Look (answers.Trap number trap) e own asks told))
    (λ number asks told. deletes number (its_event task (requests.Delete number) answers.Ok e own asks told))
    ∙ ap (λ (k : ℕ). (interrupts_of cell h k).queue) (sym own)) in
    let count : 1_024 ≡ length queue + (1_024 - length queue) = omega (arith, room) in (
      take (1_024 - length queue) fired,
      ap (λ (u : TaskData). u.queue) (one_more cell h e task few (front cell h e asked)) ∙ ap (λ (q : List ℕ). take 1_024 (q ++ fired)) same
          ∙ ap (λ (n : ℕ). take n (queue ++ fired)) count ∙ take-append-add queue fired (1_024 - length queue),
    )

-- disabled interrupts stay so until they are enabled
abbrev IsDisabled : CellData → ℕ → List Event → Type 0
IsDisabled cell task h = (interrupts_of cell h task).disabled ≡ true

first_disabled : (t : TaskData) (queue : List ℕ) → (in_first_trap t queue).disabled ≡ t.disabled
first_disabled t [] = refl
first_disabled t (number ∷ queue) = refl

own_disabled : (t : TaskData) (request : Request) (answer : Answer) → (request ≡ requests.Enable → answer ≡ answers.Ok → ⊥) → t.disabled ≡ true → (own_with t request answer).disabled ≡ true
own_disabled t requests.Look (answers.Trap number trap) enables is = first_disabled t t.queue ∙ is
own_disabled t (requests.Connect old trap) (answers.Number number) enables is = is
own_disabled t (requests.Order number on single) answers.Ok enables is = is
own_disabled t (requests.Sleep number) answers.Ok enables is = is
own_disabled t (requests.Watch number) answers.Ok enables is = is
own_disabled t (requests.Delete number) answers.Ok enables is = is
own_disabled t requests.Disable answers.Ok enables is = refl
own_disabled t requests.Enable answers.Ok enables is = absurd (enables refl refl)
own_disabled t requests.Leave answers.Ok enables is = is
own_disabled t _ _ enables is = is

disabled_tells : (cell : CellData) (task : ℕ) → task < length cell.tasks → Tells (AllAnswered cell) (IsDisabled cell task) (Disables task) (Enables task)
disabled_tells cell task few = record {
  made = λ h e asked is.
      ap (λ (u : TaskData). u.disabled) (one_more cell h e task few (front cell h e asked))
      ∙ ap (λ (t : TaskData). t.disabled) (asked_its cell h e task few (front cell h e asked) (ap (λ (x : Event). x.actor) is))
      ∙ ap (λ (x : Event). (own_with (interrupts_of cell h task) x.request x.answer).disabled) is;
  keeps = λ h e asked is enables.
      ap (λ (u : TaskData). u.disabled) (one_more cell h e task few (front cell h e asked))
      ∙ asked_keeps (λ t. t.disabled ≡ true) cell h e task is
      (λ own.
      own_disabled (interrupts_of cell h e.actor) e.request e.answer (λ asks told. enables (its_event task requests.Enable answers.Ok e own asks told))
      (subst (λ (k : ℕ). IsDisabled cell k h) own is));
}

no_trap_parts : (numbers : List (Option Connected)) (queue : List ℕ) (flood disabled in_trap : Bool) (number trap seen : ℕ)
    → let t : TaskData = record { numbers = numbers; queue = queue; flood = flood; disabled = disabled; in_trap = in_trap } in disabled ≡ true → answers.Trap number trap ≡ look_of (look_answer t) seen → ⊥
no_trap_parts numbers queue true disabled in_trap number trap seen off is = cc
no_trap_parts numbers queue false disabled true number trap seen off is = cc
no_trap_parts numbers queue false true false number trap seen off is = cc
no_trap_parts numbers queue false false false number trap seen off is = cc

pub none_begins : (cell : CellData) (h : List Event) (task number trap : ℕ) → AllAnswered cell h → task < length cell.tasks → Since (Disables task) (Enables task) h
    → ¬ IsAnswer cell h task requests.Look (answers.Trap number trap)
none_begins cell h task number trap asked few since told =
    let off : IsDisabled cell task h = tells (AllAnswered cell) (IsDisabled cell task) (Disables task) (Enables task) h (answered_fronts cell) asked (disabled_tells cell task few) since in
    let t : TaskData = interrupts_of cell h task in
    no_trap_parts t.numbers t.queue t.flood t.disabled t.in_trap number trap (changes_by_others cell h task) off told

-- a new number is the least free one
some_below : (numbers : List (Option Connected)) (at index k : ℕ) → position_from is_none at numbers ≡ Some index → at + k < index → (c : Connected) × (slice_index_or numbers k None ≡ Some c)
some_below [] at index k is below = cc
some_below (None ∷ numbers) at index k is below = let same : at ≡ index = cc in absurd (omega (arith, same, below))
some_below (Some c ∷ numbers) at index zero is below = (c, refl)
some_below (Some c ∷ numbers) at index (suc k) is below = some_below numbers (at + 1) index k is (omega (arith, below))

lower_connected : (t : TaskData) (old number k : ℕ) → connect_answer t old ≡ Ok number → 1 ≤ k → k < number → (c : Connected) × (connected_at t.numbers k ≡ Some c)
lower_connected t old number zero is some below = absurd (omega (arith, some))
lower_connected t old number (suc k) is some below = by (is_some (connected_at t.numbers old)) is
  where
    least : (index : Option ℕ) → position_from is_none 0 t.numbers ≡ index → least_free index ≡ Ok number → (c : Connected) × (connected_at t.numbers (suc k) ≡ Some c)
    least None first h = absurd cc
    least (Some p) first h =
        let same : p + 1 ≡ number = cc in
        let w = some_below t.numbers 0 p k first (omega (arith, same, below)) in
        (w.0, entry_at-next t.numbers k ∙ w.1)

    by : (b : Bool) → (if b then Err connect_faults.Already else least_free (position_from is_none 0 t.numbers)) ≡ Ok number → (c : Connected) × (connected_at t.numbers (suc k) ≡ Some c)
    by true h = absurd cc
    by false h = least (position_from is_none 0 t.numbers) refl h

pub number_free : (cell : CellData) (h : List Event) (task old trap number other : ℕ) → AllAnswered cell h → task < length cell.tasks → IsAnswer cell h task (requests.Connect old trap) (answers.Number number)
    → ¬ Since (Connects task number other) (Deletes task number) h
number_free cell h task old trap number other asked few told since =
    let t : TaskData = interrupts_of cell h task in
    let free : connected_at t.numbers number ≡ None = was_free t old number (number_is (connect_answer t old) number told) in
    let w = (connected cell h task number other asked few).1 since in
    let both : None ≡ Some w.0 = sym free ∙ w.1 in
    cc

pub number_least : (cell : CellData) (h : List Event) (task old trap number lower : ℕ) → AllAnswered cell h → task < length cell.tasks → IsAnswer cell h task (requests.Connect old trap) (answers.Number number)
    → 1 ≤ lower → lower < number → (other : ℕ) × Since (Connects task lower other) (Deletes task lower) h
number_least cell h task old trap number lower asked few told some below =
    let t : TaskData = interrupts_of cell h task in
    let w = lower_connected t old number lower (number_is (connect_answer t old) number told) some below in
    (w.0.trap, (connected cell h task lower w.0.trap asked few).0 (w.0, w.1, refl))

pub number_some : (cell : CellData) (h : List Event) (task old trap number : ℕ) → AllAnswered cell h → task < length cell.tasks → IsAnswer cell h task (requests.Connect old trap) (answers.Number number) → 1 ≤ number
number_some cell h task old trap number asked few told =
    let t : TaskData = interrupts_of cell h task in
    (free_number t old number ((tasks_kept cell h asked).each task few).sound.count (number_is (connect_answer t old) number told)).0
