-- The interrupts of each task along an answered history.
use Rattle.std.proofs.Common.{◌≡◌, ◌⊎◌, inl, inr, ℕ, zero, suc, ◌+◌, ◌-◌, ◌<◌, ◌≤◌, Bool, true, false, not, List, [], ◌∷◌, ◌++◌, length, get_or, replicate, Option, None, Some, is_some, refl, sym, ◌∙◌, ap, subst, arith, IfSome}
use Rattle.std.specs.Prelude.{is_none, Result, Ok, Err, count_by, if◌then◌else◌}
use Rattle.std.specs.List.{list_all, position_from}
use Rattle.std.proofs.lemmas.Bool.{and_parts, cases_eq, eq-eqb, false≢true, true≢false}
use Rattle.std.proofs.lemmas.List.{get_or-map, get_or-set_same, get_or-set_other, length-set, length-map, length-replicate, set-get_or}
use Rattle.rapid_num.specs.declared.joints.Joints.{Joints}
use Rattle.rapid_model.specs.CellData.{CellData}
use Rattle.rapid_model.specs.Own.{part_of, is_trap, is_leave, is_trapped, has_connected}
use Rattle.rapid_model.specs.declared.answer.Answer.{Answer}
use Rattle.rapid_model.specs.declared.answer.Answer.TheVariants as answers
use Rattle.rapid_model.specs.declared.event.Event.{Event}
use Rattle.rapid_model.specs.declared.request.Request.{Request}
use Rattle.rapid_model.specs.declared.request.Request.TheVariants as requests
use Rattle.rapid_model.specs.declared.value.Value.{Value}
use Rattle.rapid_model.specs.Truths.{one_if}
use Rattle.trap_dispatch.specs.declared.connect_fault.ConnectFault.{ConnectFault}
use Rattle.trap_dispatch.specs.declared.connect_fault.ConnectFault.TheVariants as connect_faults
use Rattle.trap_dispatch.specs.declared.connected.Connected.{Connected}
use Rattle.trap_dispatch.specs.declared.due.Due.{Due}
use Rattle.trap_dispatch.specs.declared.due.Due.TheVariants as dues
use Rattle.trap_dispatch.specs.declared.order.Order.{Order}
use Rattle.trap_dispatch.specs.Firing.{connected_at}
use Rattle.trap_dispatch.specs.Tasks.{TaskData, before_all, with_number, fresh, with_order, with_sleep, ordered, slept, deleted, least_free, connect_answer, look_answer, in_first_trap, after_changes, trap_of}
use Rattle.trap_dispatch.specs.Traps.{task_at, with_task}
use Rattle.trap_dispatch.proofs.Positions.{position_from-below}
use Rattle.world_zones.specs.declared.tie_fault.TieFault.{TieFault}
use Rattle.world_zones.specs.declared.tie_fault.TieFault.TheVariants as tie_faults
use Rattle.world_zones.specs.declared.zone_fault.ZoneFault.{ZoneFault}
use Rattle.world_zones.specs.declared.zone_fault.ZoneFault.TheVariants as zone_faults
use Rattle.world_zones.specs.Outputs.{is_tied, tie_answer}
use Rattle.world_zones.specs.Zones.{arm_at, zone_at, set_answer, is_temporary}
use Rattle.cell_meaning.specs.Answers.{IsAnswer, IsMoveAnswer, look_of, value_of, position_of, number_of, order_of, known_of, zone_number_of, tie_number_of, written_of, temporary_of}
use Rattle.cell_meaning.specs.Changes.{changes_of, changes_by_others}
use Rattle.cell_meaning.specs.Interrupts.{asked_with, interrupts_after, interrupts_of}
use Rattle.cell_meaning.specs.Meetings.{is_met}
use Rattle.cell_meaning.specs.Motion.{arm_after}
use Rattle.cell_meaning.specs.Premises.{AllAnswered}
use Rattle.cell_meaning.specs.Stored.{persistent_after, value_at}
use Rattle.cell_meaning.specs.Zones.{zones_after}
use Rattle.cell_meaning.proofs.Asked.{TaskMay, ScriptMay, who_may}
use Rattle.cell_meaning.proofs.TaskKept.{KeptTask, has_entry, kept_same, kept_written, kept_deleted, kept_fired, still_named, just_named}
use Rattle.cell_meaning.proofs.Lists.{from_front}
use Rattle.cell_meaning.proofs.MoreEvents.{event, count_more, part_of-own, part_of-other, interrupts_after-more}

-- a trap that is to run is that of the first waiting number, and none is running
pub record FirstDue (t : TaskData) (number trap : ℕ) : Type 0 where
  pub rest : List ℕ
  pub queue : t.queue ≡ number ∷ rest
  pub free : t.in_trap ≡ false
  pub its : trap ≡ trap_of (connected_at t.numbers number)

first_parts : (numbers : List (Option Connected)) (queue : List ℕ) (flood disabled in_trap : Bool) (number trap : ℕ)
    → let t : TaskData = record { numbers = numbers; queue = queue; flood = flood; disabled = disabled; in_trap = in_trap } in look_answer t ≡ dues.Trap number trap → FirstDue t number trap
first_parts numbers queue true disabled in_trap number trap is = cc
first_parts numbers queue false disabled true number trap is = cc
first_parts numbers queue false true false number trap is = cc
first_parts numbers [] false false false number trap is = cc
first_parts numbers (first ∷ rest) false false false number trap is =
    let same : first ≡ number = cc in
    let its : trap_of (connected_at numbers first) ≡ trap = cc in
    record { rest = rest; queue = ap (λ (n : ℕ). n ∷ rest) same; free = refl; its = sym its ∙ ap (λ (n : ℕ). trap_of (connected_at numbers n)) same }

pub first_is_due : (t : TaskData) (number trap : ℕ) → look_answer t ≡ dues.Trap number trap → FirstDue t number trap
first_is_due t number trap is = first_parts t.numbers t.queue t.flood t.disabled t.in_trap number trap is

-- only the answer to a Look begins a trap
abbrev is_look : Request → Bool
is_look requests.Look = true
is_look _ = false

value_trapless : (value : Option Value) → is_trap (value_of value) ≡ false
value_trapless None = refl
value_trapless (Some value) = refl

position_trapless : (position : Option Joints) → is_trap (position_of position) ≡ false
position_trapless None = refl
position_trapless (Some position) = refl

number_trapless : (answer : Result ℕ ConnectFault) → is_trap (number_of answer) ≡ false
number_trapless (Ok number) = refl
number_trapless (Err connect_faults.Already) = refl
number_trapless (Err connect_faults.NoMore) = refl

order_trapless : (c : Option Connected) → is_trap (order_of c) ≡ false
order_trapless None = refl
order_trapless (Some c) = either (is_some c.order)
  where
    either : (b : Bool) → is_trap (if b then answers.Already else answers.Ok) ≡ false
    either true = refl
    either false = refl

known_trapless : (c : Option Connected) → is_trap (known_of c) ≡ false
known_trapless None = refl
known_trapless (Some c) = refl

zone_number_trapless : (answer : Result ℕ ZoneFault) → is_trap (zone_number_of answer) ≡ false
zone_number_trapless (Ok number) = refl
zone_number_trapless (Err zone_faults.ZoneUsed) = refl
zone_number_trapless (Err zone_faults.ZoneFull) = refl

tie_number_trapless : (answer : Result ℕ TieFault) → is_trap (tie_number_of answer) ≡ false
tie_number_trapless (Ok number) = refl
tie_number_trapless (Err tie_faults.ZoneUsed) = refl
tie_number_trapless (Err tie_faults.ZoneFull) = refl
tie_number_trapless (Err tie_faults.Tied) = refl

written_trapless : (b : Bool) → is_trap (written_of b) ≡ false
written_trapless true = refl
written_trapless false = refl

temporary_trapless : (b : Bool) → is_trap (temporary_of b) ≡ false
temporary_trapless true = refl
temporary_trapless false = refl

met_trapless : (b : Bool) → is_trap (if b then answers.Met else answers.Apart) ≡ false
met_trapless true = refl
met_trapless false = refl

move_trapless : (cell : CellData) (history : List Event) (task : ℕ) (to : Joints) (from : Option Joints) (answer : Answer) → IsMoveAnswer cell history task to from answer → is_trap answer ≡ false
move_trapless cell history task to None answer is = ap is_trap is
move_trapless cell history task to (Some from) (answers.Trap number trap) is = absurd is
move_trapless cell history task to (Some from) _ is = refl

trapless : (cell : CellData) (history : List Event) (actor : ℕ) (request : Request) (answer : Answer) → IsAnswer cell history actor request answer → is_look request ≡ false → is_trap answer ≡ false
trapless cell history actor requests.Look answer is other = absurd (true≢false other)
trapless cell history actor (requests.ReadP pers path) answer is other = ap is_trap is ∙ value_trapless (value_at (persistent_after cell history pers) path)
trapless cell history actor (requests.WriteS signal value) answer is other = ap is_trap is ∙ written_trapless (is_tied (zones_after cell history) signal)
trapless cell history actor requests.Position answer is other = ap is_trap is ∙ position_trapless (arm_after cell history actor)
trapless cell history actor (requests.Setpoint to) answer is other = move_trapless cell history actor to (arm_after cell history actor) answer is
trapless cell history actor (requests.Connect old trap) answer is other = ap is_trap is ∙ number_trapless (connect_answer (interrupts_of cell history actor) old)
trapless cell history actor (requests.Order number on single) answer is other = ap is_trap is ∙ order_trapless (connected_at (interrupts_of cell history actor).numbers number)
trapless cell history actor (requests.Sleep number) answer is other = ap is_trap is ∙ known_trapless (connected_at (interrupts_of cell history actor).numbers number)
trapless cell history actor (requests.Watch number) answer is other = ap is_trap is ∙ known_trapless (connected_at (interrupts_of cell history actor).numbers number)
trapless cell history actor (requests.Delete number) answer is other = ap is_trap is ∙ known_trapless (connected_at (interrupts_of cell history actor).numbers number)
trapless cell history actor (requests.ZoneSet old temporary shape) answer is other = ap is_trap is ∙ zone_number_trapless (set_answer (arm_at (zones_after cell history) actor) old)
trapless cell history actor (requests.ZoneTie old temporary shape signal value) answer is other = ap is_trap is ∙ tie_number_trapless (tie_answer (zones_after cell history) actor old signal)
trapless cell history actor (requests.ZoneOn zone) answer is other = ap is_trap is ∙ temporary_trapless (is_temporary (zone_at (arm_at (zones_after cell history) actor) zone))
trapless cell history actor (requests.ZoneOff zone) answer is other = ap is_trap is ∙ temporary_trapless (is_temporary (zone_at (arm_at (zones_after cell history) actor) zone))
trapless cell history actor (requests.ZoneFree zone) answer is other = ap is_trap is ∙ temporary_trapless (is_temporary (zone_at (arm_at (zones_after cell history) actor) zone))
trapless cell history actor (requests.Arrive meeting tasks) answer is other = ap is_trap is ∙ met_trapless (is_met cell history actor meeting tasks)
trapless cell history actor _ answer is other = ap is_trap is

-- the interrupts of the task after its own request and this answer, before any fires
abbrev pub own_with : TaskData → Request → Answer → TaskData
own_with t requests.Look (answers.Trap number trap) = in_first_trap t t.queue
own_with t (requests.Connect old trap) (answers.Number number) = with_number t number (fresh trap)
own_with t (requests.Order number on single) answers.Ok = ordered t number (record { on = on; single = single })
own_with t (requests.Sleep number) answers.Ok = slept t number true
own_with t (requests.Watch number) answers.Ok = slept t number false
own_with t (requests.Delete number) answers.Ok = deleted t number
own_with t requests.Disable answers.Ok = record t { disabled = true }
own_with t requests.Enable answers.Ok = record t { disabled = false }
own_with t requests.Leave answers.Ok = record t { in_trap = false }
own_with t _ _ = t

pub asked_own : (tasks : List TaskData) (actor : ℕ) (request : Request) (answer : Answer) → asked_with tasks actor request answer ≡ with_task tasks actor (own_with (task_at tasks actor) request answer)
asked_own tasks actor requests.Look (answers.Trap number trap) = refl
asked_own tasks actor (requests.Connect old trap) (answers.Number number) = refl
asked_own tasks actor (requests.Order number on single) answers.Ok = refl
asked_own tasks actor (requests.Sleep number) answers.Ok = refl
asked_own tasks actor (requests.Watch number) answers.Ok = refl
asked_own tasks actor (requests.Delete number) answers.Ok = refl
asked_own tasks actor requests.Disable answers.Ok = refl
asked_own tasks actor requests.Enable answers.Ok = refl
asked_own tasks actor requests.Leave answers.Ok = refl
asked_own tasks actor _ _ = sym (set-get_or tasks actor before_all)

-- each request keeps the interrupts of its task well formed
look_kept : (mine : List Event) (t : TaskData) (actor seen : ℕ) (due : Due) → look_answer t ≡ due → KeptTask mine t
    → KeptTask (mine ++ event actor requests.Look (look_of due seen) ∷ []) (own_with t requests.Look (look_of due seen))
look_kept mine t actor seen dues.None is kept = kept_same mine t (event actor requests.Look (answers.Go seen)) kept refl refl
look_kept mine t actor seen dues.Flood is kept = kept_same mine t (event actor requests.Look answers.Flood) kept refl refl
look_kept mine t actor seen (dues.Trap number trap) is kept =
    let first = first_is_due t number trap is in
    let e = event actor requests.Look (answers.Trap number trap) in
    subst (λ (queue : List ℕ). KeptTask (mine ++ e ∷ []) (in_first_trap t queue)) (sym first.queue) (record {
      sound = record {
        count = kept.sound.count;
        room = let room : length (number ∷ first.rest) ≤ 1_024 = subst (λ (queue : List ℕ). length queue ≤ 1_024) first.queue kept.sound.room in omega arith;
        connected = (and_parts (is_some (connected_at t.numbers number)) (list_all (λ n. is_some (connected_at t.numbers n)) first.rest)
            (subst (λ (queue : List ℕ). list_all (λ n. is_some (connected_at t.numbers n)) queue ≡ true) first.queue kept.sound.connected)).1;
      };
      traps = λ k c at. still_named mine e c.trap (kept.traps k c at);
      begun =
          let begun = count_more (λ f. is_trap f.answer) mine e in
          let left = count_more (λ f. is_leave f.request) mine e in
          let free : one_if t.in_trap ≡ 0 = ap one_if first.free in
          omega (arith, begun, left, kept.begun, free);
    })

-- the least free number is one of the 64
pub free_number : (t : TaskData) (old number : ℕ) → length t.numbers ≡ 64 → connect_answer t old ≡ Ok number → (1 ≤ number) × (number ≤ 64)
free_number t old number entries is = by (is_some (connected_at t.numbers old)) is
  where
    least : (index : Option ℕ) → IfSome index (λ p. p < 64) → least_free index ≡ Ok number → (1 ≤ number) × (number ≤ 64)
    least None below e = cc
    least (Some p) below e = let same : p + 1 ≡ number = cc in (omega arith, omega arith)

    by : (b : Bool) → (if b then Err connect_faults.Already else least_free (position_from is_none 0 t.numbers)) ≡ Ok number → (1 ≤ number) × (number ≤ 64)
    by true e = cc
    by false e = least (position_from is_none 0 t.numbers) (position_from-below is_none 0 64 t.numbers (omega (arith, entries))) e

connect_kept : (mine : List Event) (t : TaskData) (actor old trap : ℕ) (result : Result ℕ ConnectFault) → connect_answer t old ≡ result → KeptTask mine t
    → KeptTask (mine ++ event actor (requests.Connect old trap) (number_of result) ∷ []) (own_with t (requests.Connect old trap) (number_of result))
connect_kept mine t actor old trap (Ok number) is kept =
    let e = event actor (requests.Connect old trap) (answers.Number number) in
    let bounds = free_number t old number kept.sound.count is in
    kept_written (mine ++ e ∷ []) t number (record { trap = trap; order = None; asleep = false }) (kept_same mine t e kept refl refl) (omega (arith, kept.sound.count))
    (just_named mine e trap (eq-eqb trap trap refl))
connect_kept mine t actor old trap (Err connect_faults.Already) is kept = kept_same mine t (event actor (requests.Connect old trap) answers.Already) kept refl refl
connect_kept mine t actor old trap (Err connect_faults.NoMore) is kept = kept_same mine t (event actor (requests.Connect old trap) answers.NoMore) kept refl refl

-- a connected interrupt is changed but keeps its trap
changed_kept : (mine : List Event) (t : TaskData) (e : Event) (number : ℕ) (c new : Connected) → KeptTask mine t → is_trap e.answer ≡ false → is_leave e.request ≡ false
    → connected_at t.numbers number ≡ Some c → new.trap ≡ c.trap → KeptTask (mine ++ e ∷ []) (with_number t number (Some new))
changed_kept mine t e number c new kept no_trap no_leave at same =
    let entry = has_entry t.numbers number c at in
    kept_written (mine ++ e ∷ []) t number new (kept_same mine t e kept no_trap no_leave) entry.within
    (ap (has_connected (mine ++ e ∷ [])) same ∙ still_named mine e c.trap (kept.traps (number - 1) c entry.there))

order_kept : (mine : List Event) (t : TaskData) (actor number : ℕ) (request : Request) (order : Order) (entry : Option Connected) → connected_at t.numbers number ≡ entry
    → is_leave request ≡ false → KeptTask mine t → ((answer : Answer) → own_with t request answer ≡ own_with t (requests.Order number order.on order.single) answer)
    → KeptTask (mine ++ event actor request (order_of entry) ∷ []) (own_with t request (order_of entry))
order_kept mine t actor number request order None at no_leave kept same =
    subst (λ (u : TaskData). KeptTask (mine ++ event actor request answers.Unknown ∷ []) u) (sym (same answers.Unknown)) (kept_same mine t (event actor request answers.Unknown) kept refl no_leave)
order_kept mine t actor number request order (Some c) at no_leave kept same = by (is_some c.order)
  where
    by : (b : Bool) → KeptTask (mine ++ event actor request (if b then answers.Already else answers.Ok) ∷ []) (own_with t request (if b then answers.Already else answers.Ok))
    by true = subst (λ (u : TaskData). KeptTask (mine ++ event actor request answers.Already ∷ []) u) (sym (same answers.Already)) (kept_same mine t (event actor request answers.Already) kept refl no_leave)
    by false =
        let is : own_with t request answers.Ok ≡ with_number t number (Some (record c { order = Some order })) =
        same answers.Ok ∙ ap (λ (o : Option Connected). with_number t number (with_order (Some order) o)) at in
        subst (λ (u : TaskData). KeptTask (mine ++ event actor request answers.Ok ∷ []) u) (sym is)
        (changed_kept mine t (event actor request answers.Ok) number c (record c { order = Some order }) kept refl no_leave at refl)

sleep_kept : (mine : List Event) (t : TaskData) (actor number : ℕ) (request : Request) (asleep : Bool) (entry : Option Connected) → connected_at t.numbers number ≡ entry → is_leave request ≡ false → KeptTask mine t
    → own_with t request answers.Unknown ≡ t → own_with t request answers.Ok ≡ slept t number asleep
    → KeptTask (mine ++ event actor request (known_of entry) ∷ []) (own_with t request (known_of entry))
sleep_kept mine t actor number request asleep None at no_leave kept same is =
    subst (λ (u : TaskData). KeptTask (mine ++ event actor request answers.Unknown ∷ []) u) (sym same) (kept_same mine t (event actor request answers.Unknown) kept refl no_leave)
sleep_kept mine t actor number request asleep (Some c) at no_leave kept same is =
    let new : own_with t request answers.Ok ≡ with_number t number (Some (record c { asleep = asleep })) = is ∙ ap (λ (o : Option Connected). with_number t number (with_sleep asleep o)) at in
    subst (λ (u : TaskData). KeptTask (mine ++ event actor request answers.Ok ∷ []) u) (sym new)
    (changed_kept mine t (event actor request answers.Ok) number c (record c { asleep = asleep }) kept refl no_leave at refl)

delete_kept : (mine : List Event) (t : TaskData) (actor number : ℕ) (entry : Option Connected) → connected_at t.numbers number ≡ entry → KeptTask mine t
    → KeptTask (mine ++ event actor (requests.Delete number) (known_of entry) ∷ []) (own_with t (requests.Delete number) (known_of entry))
delete_kept mine t actor number None at kept = kept_same mine t (event actor (requests.Delete number) answers.Unknown) kept refl refl
delete_kept mine t actor number (Some c) at kept =
    let e = event actor (requests.Delete number) answers.Ok in
    kept_deleted (mine ++ e ∷ []) t number (kept_same mine t e kept refl refl) (has_entry t.numbers number c at).some

-- a task leaves a trap only while one is running
leave_kept : (mine : List Event) (t : TaskData) (actor : ℕ) → is_trapped mine ≡ true → KeptTask mine t
    → KeptTask (mine ++ event actor requests.Leave answers.Ok ∷ []) (record t { in_trap = false })
leave_kept mine t actor trapped kept =
    let e = event actor requests.Leave answers.Ok in
    record {
      sound = kept.sound;
      traps = λ k c at. still_named mine e c.trap (kept.traps k c at);
      begun =
          let begun = count_more (λ f. is_trap f.answer) mine e in
          let left = count_more (λ f. is_leave f.request) mine e in
          let one : one_if t.in_trap ≡ 1 = under_way t.in_trap kept.begun in
          omega (arith, begun, left, kept.begun, one);
    }
  where
    under_way : (b : Bool) → count_by (λ e. is_trap e.answer) mine ≡ count_by (λ e. is_leave e.request) mine + one_if b → one_if b ≡ 1
    under_way true h = refl
    under_way false h =
        let same : count_by (λ e. is_trap e.answer) mine ≡ count_by (λ e. is_leave e.request) mine = omega (arith, h) in
        absurd (false≢true (sym (ap not (eq-eqb (count_by (λ e. is_trap e.answer) mine) (count_by (λ e. is_leave e.request) mine) same)) ∙ trapped))

own_kept : (cell : CellData) (history : List Event) (actor : ℕ) (request : Request) (answer : Answer) → TaskMay cell actor (part_of actor history) request → IsAnswer cell history actor request answer
    → KeptTask (part_of actor history) (interrupts_of cell history actor)
    → KeptTask (part_of actor history ++ event actor request answer ∷ []) (own_with (interrupts_of cell history actor) request answer)
own_kept cell history actor requests.Look answer may is kept =
    subst (λ (a : Answer). KeptTask (part_of actor history ++ event actor requests.Look a ∷ []) (own_with (interrupts_of cell history actor) requests.Look a)) (sym is)
    (look_kept (part_of actor history) (interrupts_of cell history actor) actor (changes_by_others cell history actor) (look_answer (interrupts_of cell history actor)) refl kept)
own_kept cell history actor (requests.Connect old trap) answer may is kept =
    subst (λ (a : Answer). KeptTask (part_of actor history ++ event actor (requests.Connect old trap) a ∷ []) (own_with (interrupts_of cell history actor) (requests.Connect old trap) a)) (sym is)
    (connect_kept (part_of actor history) (interrupts_of cell history actor) actor old trap (connect_answer (interrupts_of cell history actor) old) refl kept)
own_kept cell history actor (requests.Order number on single) answer may is kept =
    subst (λ (a : Answer). KeptTask (part_of actor history ++ event actor (requests.Order number on single) a ∷ []) (own_with (interrupts_of cell history actor) (requests.Order number on single) a)) (sym is)
    (order_kept (part_of actor history) (interrupts_of cell history actor) actor number (requests.Order number on single) (record { on = on; single = single })
    (connected_at (interrupts_of cell history actor).numbers number) refl refl kept (λ a. refl))
own_kept cell history actor (requests.Sleep number) answer may is kept =
    subst (λ (a : Answer). KeptTask (part_of actor history ++ event actor (requests.Sleep number) a ∷ []) (own_with (interrupts_of cell history actor) (requests.Sleep number) a)) (sym is)
    (sleep_kept (part_of actor history) (interrupts_of cell history actor) actor number (requests.Sleep number) true (connected_at (interrupts_of cell history actor).numbers number) refl refl kept refl refl)
own_kept cell history actor (requests.Watch number) answer may is kept =
    subst (λ (a : Answer). KeptTask (part_of actor history ++ event actor (requests.Watch number) a ∷ []) (own_with (interrupts_of cell history actor) (requests.Watch number) a)) (sym is)
    (sleep_kept (part_of actor history) (interrupts_of cell history actor) actor number (requests.Watch number) false (connected_at (interrupts_of cell history actor).numbers number) refl refl kept refl refl)
own_kept cell history actor (requests.Delete number) answer may is kept =
    subst (λ (a : Answer). KeptTask (part_of actor history ++ event actor (requests.Delete number) a ∷ []) (own_with (interrupts_of cell history actor) (requests.Delete number) a)) (sym is)
    (delete_kept (part_of actor history) (interrupts_of cell history actor) actor number (connected_at (interrupts_of cell history actor).numbers number) refl kept)
own_kept cell history actor requests.Disable answer may is kept =
    subst (λ (a : Answer). KeptTask (part_of actor history ++ event actor requests.Disable a ∷ []) (own_with (interrupts_of cell history actor) requests.Disable a)) (sym is)
    (as_before (kept_same (part_of actor history) (interrupts_of cell history actor) (event actor requests.Disable answers.Ok) kept refl refl))
  where
    as_before : {mine : List Event} {t : TaskData} → KeptTask mine t → KeptTask mine (record t { disabled = true })
    as_before k = record { sound = k.sound; traps = k.traps; begun = k.begun }
own_kept cell history actor requests.Enable answer may is kept =
    subst (λ (a : Answer). KeptTask (part_of actor history ++ event actor requests.Enable a ∷ []) (own_with (interrupts_of cell history actor) requests.Enable a)) (sym is)
    (as_before (kept_same (part_of actor history) (interrupts_of cell history actor) (event actor requests.Enable answers.Ok) kept refl refl))
  where
    as_before : {mine : List Event} {t : TaskData} → KeptTask mine t → KeptTask mine (record t { disabled = false })
    as_before k = record { sound = k.sound; traps = k.traps; begun = k.begun }
own_kept cell history actor requests.Leave answer may is kept =
    subst (λ (a : Answer). KeptTask (part_of actor history ++ event actor requests.Leave a ∷ []) (own_with (interrupts_of cell history actor) requests.Leave a)) (sym is)
    (leave_kept (part_of actor history) (interrupts_of cell history actor) actor may.suits kept)
own_kept cell history actor request answer may is kept =
    kept_same (part_of actor history) (interrupts_of cell history actor) (event actor request answer) kept (trapless cell history actor request answer is refl) refl

-- the interrupts of every task of the cell
pub record KeptTasks (cell : CellData) (history : List Event) : Type 0 where
  pub count : length (interrupts_after cell history) ≡ length cell.tasks
  pub each : (task : ℕ) → task < length cell.tasks → KeptTask (part_of task history) (interrupts_of cell history task)

fresh_at : (count task : ℕ) → task_at (replicate count before_all) task ≡ before_all
fresh_at zero task = refl
fresh_at (suc count) zero = refl
fresh_at (suc count) (suc task) = fresh_at count task

none_kept : (cell : CellData) → KeptTasks cell []
none_kept cell = record {
  count = length-replicate (length cell.tasks) before_all;
  each = λ task within. subst (λ (t : TaskData). KeptTask [] t) (sym (fresh_at (length cell.tasks) task)) (record {
    sound = record { count = refl; room = omega arith; connected = refl };
    traps = λ k c is. absurd (none_there 64 k c is);
    begun = refl;
  });
}
  where
    none_there : (count k : ℕ) (c : Connected) → get_or (replicate count None) k None ≡ Some c → ⊥
    none_there zero k c is = cc
    none_there (suc count) zero c is = cc
    none_there (suc count) (suc k) c is = none_there count k c is

-- what one event does to the interrupts of a task, before any fires
asked_kept : (cell : CellData) (history : List Event) (e : Event) (task : ℕ) → TaskMay cell e.actor (part_of e.actor history) e.request ⊎ ScriptMay cell e.actor (part_of e.actor history) e.request
    → IsAnswer cell history e.actor e.request e.answer → KeptTasks cell history → task < length cell.tasks
    → KeptTask (part_of task (history ++ e ∷ [])) (task_at (asked_with (interrupts_after cell history) e.actor e.request e.answer) task)
asked_kept cell history e task may is kept within = elim (cases_eq task e.actor) [
  | inl own ↦ of_own own may
  | inr other ↦
      let t = interrupts_of cell history task in
      let there : task_at (asked_with (interrupts_after cell history) e.actor e.request e.answer) task ≡ t =
      ap (λ (ts : List TaskData). task_at ts task) (asked_own (interrupts_after cell history) e.actor e.request e.answer)
      ∙ get_or-set_other (interrupts_after cell history) e.actor task (own_with (interrupts_of cell history e.actor) e.request e.answer) before_all other in
      subst (λ (mine : List Event). KeptTask mine (task_at (asked_with (interrupts_after cell history) e.actor e.request e.answer) task)) (sym (part_of-other task history e (λ same. other (sym same))))
      (subst (λ (u : TaskData). KeptTask (part_of task history) u) (sym there) (kept.each task within))
]
  where
    of_own : task ≡ e.actor → TaskMay cell e.actor (part_of e.actor history) e.request ⊎ ScriptMay cell e.actor (part_of e.actor history) e.request
        → KeptTask (part_of task (history ++ e ∷ [])) (task_at (asked_with (interrupts_after cell history) e.actor e.request e.answer) task)
    of_own own (inr script) = absurd (let at = script.script in omega (arith, own, at, within))
    of_own own (inl asks) =
        let now = own_kept cell history e.actor e.request e.answer asks is (kept.each e.actor asks.within) in
        let there : task_at (asked_with (interrupts_after cell history) e.actor e.request e.answer) e.actor ≡ own_with (interrupts_of cell history e.actor) e.request e.answer =
        ap (λ (ts : List TaskData). task_at ts e.actor) (asked_own (interrupts_after cell history) e.actor e.request e.answer)
        ∙ get_or-set_same (interrupts_after cell history) e.actor (own_with (interrupts_of cell history e.actor) e.request e.answer) before_all (omega (arith, kept.count, asks.within)) in
        let P : ℕ → Type 0 = λ k. KeptTask (part_of k (history ++ e ∷ [])) (task_at (asked_with (interrupts_after cell history) e.actor e.request e.answer) k) in
        subst P (sym own)
        (subst (λ (mine : List Event). KeptTask mine (task_at (asked_with (interrupts_after cell history) e.actor e.request e.answer) e.actor)) (sym (part_of-own e.actor history e refl))
        (subst (λ (u : TaskData). KeptTask (part_of e.actor history ++ e ∷ []) u) (sym there) now))

pub asked_count : (tasks : List TaskData) (actor : ℕ) (request : Request) (answer : Answer) → length (asked_with tasks actor request answer) ≡ length tasks
asked_count tasks actor request answer = ap length (asked_own tasks actor request answer) ∙ length-set tasks actor (own_with (task_at tasks actor) request answer)

pub tasks_kept_more : (cell : CellData) (history : List Event) (e : Event) → TaskMay cell e.actor (part_of e.actor history) e.request ⊎ ScriptMay cell e.actor (part_of e.actor history) e.request
    → IsAnswer cell history e.actor e.request e.answer → KeptTasks cell history → KeptTasks cell (history ++ e ∷ [])
tasks_kept_more cell history e may is kept =
    let asked = asked_with (interrupts_after cell history) e.actor e.request e.answer in
    let changes = changes_of cell history e in
    let count : length asked ≡ length cell.tasks = asked_count (interrupts_after cell history) e.actor e.request e.answer ∙ kept.count in
    let more = interrupts_after-more cell history e in
    record {
      count = ap length more ∙ length-map asked (after_changes changes) ∙ count;
      each = λ task within.
          let fired = kept_fired (part_of task (history ++ e ∷ [])) (task_at asked task) changes (asked_kept cell history e task may is kept within) in
          let there : interrupts_of cell (history ++ e ∷ []) task ≡ after_changes changes (task_at asked task) =
          ap (λ (ts : List TaskData). task_at ts task) more ∙ get_or-map (after_changes changes) asked task before_all before_all (omega (arith, count, within)) in
          subst (λ (t : TaskData). KeptTask (part_of task (history ++ e ∷ [])) t) (sym there) fired;
    }

pub tasks_kept : (cell : CellData) (history : List Event) → AllAnswered cell history → KeptTasks cell history
tasks_kept cell history asked =
    from_front (KeptTasks cell) history (none_kept cell)
    (λ before after e is kept. tasks_kept_more cell before e (who_may cell e.actor (part_of e.actor before) e.request (asked.might before after e is)) (asked.answered before after e is) kept)
