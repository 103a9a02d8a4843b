-- What firings and looks do to the interrupts.
use Rattle.std.proofs.Common.{◌≡◌, ℕ, zero, suc, ◌+◌, ◌≤◌, Bool, true, false, not, cond, ◌&&◌, ◌||◌, nat_lt, List, [], ◌∷◌, ◌++◌, length, map, take, Option, None, Some, refl, sym, ◌∙◌, ap, arith}
use Rattle.std.specs.Prelude.{if◌then◌else◌}
use Rattle.std.specs.List.{All, filter, list_any, range_with_len}
use Rattle.std.proofs.lemmas.Bool.{eq-eqb, false≢true, lt-ltb, ltb-true, true≢false, and_right}
use Rattle.std.proofs.lemmas.List.{append-nil, take_all}
use Rattle.rapid_model.specs.declared.request.Request.TheVariants as requests
use Rattle.rapid_model.specs.Truths.{same_truth}
use Rattle.rapid_model.specs.declared.watched.Watched.{Watched}
use Rattle.rapid_model.specs.declared.watched.Watched.TheVariants as watched
use Rattle.trap_dispatch.specs.declared.connected.Connected.{Connected}
use Rattle.trap_dispatch.specs.declared.order.Order.{Order}
use Rattle.trap_dispatch.specs.Firing.{connected_at, is_change, is_on, fires, fired_numbers, after_its_firing, after_firing}
use Rattle.trap_dispatch.specs.Tasks.{TaskData, after_changes, look_answer, after_look}
use Rattle.trap_dispatch.specs.Traps.{task_at, with_task}
use Rattle.cell_meaning.specs.Answers.{look_of}
use Rattle.cell_meaning.specs.Interrupts.{asked_with}
use Rattle.cell_meaning.proofs.InterruptsKept.{own_with, asked_own}
use Rattle.cell_meaning.proofs.MoreChanges.{truth_same}

-- without a change nothing fires
on_none : (order : Option Order) → is_on [] order ≡ false
on_none None = refl
on_none (Some order) = refl

fires_none : (entry : Option Connected) → fires [] entry ≡ false
fires_none None = refl
fires_none (Some c) = and_right (not c.asleep) (is_on [] c.order) (on_none c.order)

none_fired : (numbers : List (Option Connected)) (range : List ℕ) → filter (λ number. fires [] (connected_at numbers number)) range ≡ []
none_fired numbers [] = refl
none_fired numbers (n ∷ range) =
    ap (λ (b : Bool). cond b (n ∷ filter (λ number. fires [] (connected_at numbers number)) range) (filter (λ number. fires [] (connected_at numbers number)) range)) (fires_none (connected_at numbers n))
    ∙ none_fired numbers range

pub stays : (entry : Option Connected) → after_firing [] entry ≡ entry
stays None = refl
stays (Some c) = by (fires [] (Some c)) (fires_none (Some c))
  where
    by : (b : Bool) → b ≡ false → (if b then Some (record c { order = after_its_firing c.order }) else Some c) ≡ Some c
    by false h = refl
    by true h = absurd (true≢false h)

all_stay : (numbers : List (Option Connected)) → map (after_firing []) numbers ≡ numbers
all_stay [] = refl
all_stay (entry ∷ numbers) = ap (λ (p : Option Connected). p ∷ map (after_firing []) numbers) (stays entry) ∙ ap (λ (ps : List (Option Connected)). entry ∷ ps) (all_stay numbers)

no_flood : (flood : Bool) (n : ℕ) → n ≤ 1_024 → (flood || nat_lt 1_024 n) ≡ flood
no_flood true n few = refl
no_flood false n few = by (nat_lt 1_024 n) refl
  where
    by : (b : Bool) → nat_lt 1_024 n ≡ b → b ≡ false
    by false h = refl
    by true h = absurd (let more = ltb-true 1_024 n h in omega arith)

pub after_changes-none : (t : TaskData) → length t.queue ≤ 1_024 → after_changes [] t ≡ t
after_changes-none t room =
    let none : fired_numbers [] t.numbers ≡ [] = none_fired t.numbers (range_with_len 1 (length t.numbers)) in
    let made : List (Option Connected) → List ℕ → Bool → TaskData = λ numbers queue flood. record { numbers = numbers; queue = queue; flood = flood; disabled = t.disabled; in_trap = t.in_trap } in
    ap (λ (fired : List ℕ). made (map (after_firing []) t.numbers) (take 1_024 (t.queue ++ fired)) (t.flood || nat_lt 1_024 (length t.queue + length fired))) none
    ∙ ap (λ (queue : List ℕ). made (map (after_firing []) t.numbers) (take 1_024 queue) (t.flood || nat_lt 1_024 (length t.queue + 0))) (append-nil t.queue)
    ∙ ap (λ (queue : List ℕ). made (map (after_firing []) t.numbers) queue (t.flood || nat_lt 1_024 (length t.queue + 0))) (take_all 1_024 t.queue room)
    ∙ ap (λ (flood : Bool). made (map (after_firing []) t.numbers) t.queue flood) (no_flood t.flood (length t.queue + 0) (omega arith))
    ∙ ap (λ (numbers : List (Option Connected)). made numbers t.queue t.flood) (all_stay t.numbers)

-- without a change, the interrupts of all tasks stay the same, if their queues fit
pub fired-none : (tasks : List TaskData) → All (λ t. length t.queue ≤ 1_024) tasks → map (after_changes []) tasks ≡ tasks
fired-none [] room = refl
fired-none (t ∷ tasks) room =
    ap (λ (u : TaskData). u ∷ map (after_changes []) tasks) (after_changes-none t (room zero t (omega arith)))
    ∙ ap (λ (us : List TaskData). t ∷ us) (fired-none tasks (λ k d lt. room (suc k) d (omega arith)))

-- an order on a change is on it
first_on : (change : Watched) (changes : List Watched) → list_any (is_change change) (change ∷ changes) ≡ true
first_on (watched.Signal signal value) changes = ap (λ (b : Bool). (b && same_truth value value) || list_any (is_change (watched.Signal signal value)) changes) (eq-eqb signal signal refl) ∙ ap (λ (b : Bool). b || list_any (is_change (watched.Signal signal value)) changes) (truth_same value)
first_on (watched.Pers pers) changes = ap (λ (b : Bool). b || list_any (is_change (watched.Pers pers)) changes) (eq-eqb pers pers refl)

-- two lists of changes that the same orders are on
abbrev pub SameChanges : List Watched → List Watched → Type 0
SameChanges first second = (on : Watched) → list_any (is_change on) first ≡ list_any (is_change on) second

fires_same : (first second : List Watched) → SameChanges first second → (entry : Option Connected) → fires first entry ≡ fires second entry
fires_same first second same None = refl
fires_same first second same (Some c) = ap (λ (b : Bool). not c.asleep && b) (on_same c.order)
  where
    on_same : (order : Option Order) → is_on first order ≡ is_on second order
    on_same None = refl
    on_same (Some order) = same order.on

firing_same : (first second : List Watched) → SameChanges first second → (entry : Option Connected) → after_firing first entry ≡ after_firing second entry
firing_same first second same None = refl
firing_same first second same (Some c) = ap (λ (b : Bool). if b then Some (record c { order = after_its_firing c.order }) else Some c) (fires_same first second same (Some c))

numbers_same : (first second : List Watched) → SameChanges first second → (numbers : List (Option Connected)) (range : List ℕ)
    → filter (λ number. fires first (connected_at numbers number)) range ≡ filter (λ number. fires second (connected_at numbers number)) range
numbers_same first second same numbers [] = refl
numbers_same first second same numbers (n ∷ range) =
    ap (λ (b : Bool). cond b (n ∷ filter (λ number. fires first (connected_at numbers number)) range) (filter (λ number. fires first (connected_at numbers number)) range)) (fires_same first second same (connected_at numbers n))
    ∙ ap (λ (rest : List ℕ). cond (fires second (connected_at numbers n)) (n ∷ rest) rest) (numbers_same first second same numbers range)

all_same : (first second : List Watched) → SameChanges first second → (numbers : List (Option Connected)) → map (after_firing first) numbers ≡ map (after_firing second) numbers
all_same first second same [] = refl
all_same first second same (entry ∷ numbers) =
    ap (λ (p : Option Connected). p ∷ map (after_firing first) numbers) (firing_same first second same entry)
    ∙ ap (λ (ps : List (Option Connected)). after_firing second entry ∷ ps) (all_same first second same numbers)

after_changes-same : (first second : List Watched) → SameChanges first second → (t : TaskData) → after_changes first t ≡ after_changes second t
after_changes-same first second same t =
    let made : List (Option Connected) → List ℕ → TaskData =
    λ numbers fired. record { numbers = numbers; queue = take 1_024 (t.queue ++ fired); flood = t.flood || nat_lt 1_024 (length t.queue + length fired); disabled = t.disabled; in_trap = t.in_trap } in
    ap (λ (fired : List ℕ). made (map (after_firing first) t.numbers) fired) (numbers_same first second same t.numbers (range_with_len 1 (length t.numbers)))
    ∙ ap (λ (numbers : List (Option Connected)). made numbers (fired_numbers second t.numbers)) (all_same first second same t.numbers)

-- they do the same to the interrupts of all tasks
pub fired-same : (first second : List Watched) → SameChanges first second → (tasks : List TaskData) → map (after_changes first) tasks ≡ map (after_changes second) tasks
fired-same first second same [] = refl
fired-same first second same (t ∷ tasks) =
    ap (λ (u : TaskData). u ∷ map (after_changes first) tasks) (after_changes-same first second same t)
    ∙ ap (λ (us : List TaskData). after_changes second t ∷ us) (fired-same first second same tasks)

pub some_changes : (change : Watched) (changes : List Watched) → nat_lt 0 (length (change ∷ changes)) ≡ true
some_changes change changes = lt-ltb 0 (length (change ∷ changes)) (omega arith)

-- and are both empty or both not
pub counted-same : (first second : List Watched) → SameChanges first second → nat_lt 0 (length first) ≡ nat_lt 0 (length second)
counted-same [] [] same = refl
counted-same [] (c ∷ second) same = absurd (false≢true (same c ∙ first_on c second))
counted-same (c ∷ first) [] same = absurd (false≢true (sym (same c) ∙ first_on c first))
counted-same (c ∷ first) (d ∷ second) same = some_changes c first ∙ sym (some_changes d second)

-- a Look does to the interrupts of its task what the board says
look_parts : (numbers : List (Option Connected)) (queue : List ℕ) (flood disabled in_trap : Bool) (seen : ℕ)
    → let t : TaskData = record { numbers = numbers; queue = queue; flood = flood; disabled = disabled; in_trap = in_trap } in own_with t requests.Look (look_of (look_answer t) seen) ≡ after_look t
look_parts numbers queue true disabled in_trap seen = refl
look_parts numbers queue false disabled true seen = refl
look_parts numbers queue false true false seen = refl
look_parts numbers [] false false false seen = refl
look_parts numbers (first ∷ rest) false false false seen = refl

pub asked_with-Look : (tasks : List TaskData) (task seen : ℕ)
    → asked_with tasks task requests.Look (look_of (look_answer (task_at tasks task)) seen) ≡ with_task tasks task (after_look (task_at tasks task))
asked_with-Look tasks task seen =
    let t = task_at tasks task in
    asked_own tasks task requests.Look (look_of (look_answer t) seen) ∙ ap (λ (u : TaskData). with_task tasks task u) (look_parts t.numbers t.queue t.flood t.disabled t.in_trap seen)
