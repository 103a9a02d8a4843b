-- Each number that waits stays connected, and the queue keeps its room.
use Rattle.std.proofs.Common.{◌≡◌, ◌≢◌, ◌⊎◌, inl, inr, ℕ, zero, suc, ◌+◌, ◌-◌, ◌<◌, ◌≤◌, Bool, true, false, not, cond, ◌||◌, eqb, nat_lt, List, [], ◌∷◌, ◌++◌, length, get_or, set, map, take, Option, None, Some, is_some, refl, sym, ap, ◌∙◌, arith}
use Rattle.std.specs.List.{filter, list_all, range_with_len}
use Rattle.std.proofs.lemmas.Bool.{cases_lt, eqb-true, false≢true}
use Rattle.std.proofs.lemmas.Bool.Decides.{eqb_tells, nat_tests}
use Rattle.std.proofs.lemmas.Grind.{get_or-set_at}
use Rattle.std.proofs.lemmas.List.{append-nil, get_or-set_other, length-set, length-map, length-take, take_all}
use Rattle.std.proofs.lemmas.List.Folds.{list_all-append}
use Rattle.std.proofs.Math.ListN.{get_or-map}
use Rattle.std.proofs.Math.Numerals.{add-one}
use Rattle.circular_buffer.specs.Buffer.{Buffer, buffer}
use Rattle.rapid_model.specs.declared.watched.Watched.{Watched}
use Rattle.rapid_model.proofs.Lists.{filter_short}
use Rattle.trap_dispatch.specs.declared.connected.Connected.{Connected}
use Rattle.trap_dispatch.specs.Firing.{connected_at, fires, fired_numbers, after_firing}
use Rattle.trap_dispatch.specs.Tasks.{TaskData, IsTask, after_changes}
use Rattle.trap_dispatch.proofs.Fired.{connected_at-next, fired_more}
use Rattle.trap_dispatch.proofs.Tests.{list_all-weaker, list_all-take, list_all-filter, list_all-true}

abbrev pub is_connected : List (Option Connected) → ℕ → Bool
is_connected numbers number = is_some (connected_at numbers number)

-- another number is connected
connected-with : (numbers : List (Option Connected)) (index : ℕ) (c : Connected) → index < length numbers
    → (n : ℕ) → is_connected numbers n ≡ true → is_connected (set numbers index (Some c)) n ≡ true
connected-with numbers index c there zero h = absurd (false≢true h)
connected-with numbers index c there (suc k) h =
    rw (connected_at-next (set numbers index (Some c)) k) (at_index (eqb_tells k index))
  where
    at_index : ((eqb k index ≡ true) × (k ≡ index)) ⊎ ((eqb k index ≡ false) × (k ≢ index)) → is_some (get_or (set numbers index (Some c)) k None) ≡ true
    at_index (inl same) = rw (get_or-set_at numbers index k (Some c) None same.1 there) refl
    at_index (inr other) = rw (get_or-set_other numbers index k (Some c) None other.1, ← connected_at-next numbers k) h

pub queued-with : (numbers : List (Option Connected)) (queue : List ℕ) (index : ℕ) (c : Connected) → index < length numbers
    → list_all (is_connected numbers) queue ≡ true → list_all (is_connected (set numbers index (Some c))) queue ≡ true
queued-with numbers queue index c there h =
    list_all-weaker (is_connected numbers) (is_connected (set numbers index (Some c))) (connected-with numbers index c there) queue h

-- a number is free
connected-without : (numbers : List (Option Connected)) (number : ℕ) → 1 ≤ number
    → (n : ℕ) → is_connected numbers n ≡ true → not (eqb n number) ≡ true → is_connected (set numbers (number - 1) None) n ≡ true
connected-without numbers number some zero h other = absurd (false≢true h)
connected-without numbers number some (suc k) h other =
    rw (connected_at-next (set numbers (number - 1) None) k, get_or-set_other numbers (number - 1) k None None (differs (eqb_tells (suc k) number) other), ← connected_at-next numbers k) h
  where
    differs : ((eqb (suc k) number ≡ true) × (suc k ≡ number)) ⊎ ((eqb (suc k) number ≡ false) × (suc k ≢ number)) → not (eqb (suc k) number) ≡ true → k ≢ number - 1
    differs (inl same) is = absurd (false≢true (rw (same.0) at is))
    differs (inr other) is = λ e. other.1 (omega arith)

pub queued-without : (numbers : List (Option Connected)) (queue : List ℕ) (number : ℕ) → 1 ≤ number
    → list_all (is_connected numbers) queue ≡ true → list_all (is_connected (set numbers (number - 1) None)) (filter (λ n. not (eqb n number)) queue) ≡ true
queued-without numbers queue number some h =
    list_all-filter (is_connected numbers) (λ n. not (eqb n number)) (is_connected (set numbers (number - 1) None)) (connected-without numbers number some) queue h

-- the changes free no number
stays : (changes : List Watched) (c : Option Connected) → is_some (after_firing changes c) ≡ is_some c
stays changes None = refl
stays changes (Some c) = either (fires changes (Some c)) refl
  where
    either : (b : Bool) → fires changes (Some c) ≡ b → is_some (after_firing changes (Some c)) ≡ true
    either true is = rw is refl
    either false is = rw is refl

connected-after : (changes : List Watched) (numbers : List (Option Connected)) (n : ℕ) → is_connected numbers n ≡ true → is_connected (map (after_firing changes) numbers) n ≡ true
connected-after changes numbers zero h = absurd (false≢true h)
connected-after changes numbers (suc k) h =
    rw (connected_at-next (map (after_firing changes) numbers) k, get_or-map (after_firing changes) numbers k None, stays changes (get_or numbers k None), ← connected_at-next numbers k) h

-- what fires is connected
fires-connected : (changes : List Watched) (c : Option Connected) → fires changes c ≡ true → is_some c ≡ true
fires-connected changes None h = absurd (false≢true h)
fires-connected changes (Some c) h = refl

pub queued-after : (changes : List Watched) (numbers : List (Option Connected)) (queue : List ℕ) (room : ℕ)
    → list_all (is_connected numbers) queue ≡ true
    → list_all (is_connected (map (after_firing changes) numbers)) (take room (queue ++ fired_numbers changes numbers)) ≡ true
queued-after changes numbers queue room h =
    let fired : list_all (is_connected numbers) (fired_numbers changes numbers) ≡ true = list_all-filter (λ n. true) (λ n. fires changes (connected_at numbers n)) (is_connected numbers) (λ n _ is. fires-connected changes (connected_at numbers n) is) (range_with_len 1 (length numbers)) (list_all-true (range_with_len 1 (length numbers))) in
    list_all-weaker (is_connected numbers) (is_connected (map (after_firing changes) numbers)) (connected-after changes numbers) (take room (queue ++ fired_numbers changes numbers))
    (list_all-take (is_connected numbers) room (queue ++ fired_numbers changes numbers)
    (rw (list_all-append (is_connected numbers) queue (fired_numbers changes numbers), h) fired))

-- the queue keeps its room, and each number in it is connected
abbrev pub IsSound : List (Option Connected) → Buffer ℕ → Type 0
IsSound numbers queue = (queue.capacity ≡ 1_024) × IsTask numbers queue.items

pub sound-with : (numbers : List (Option Connected)) (queue : Buffer ℕ) (index : ℕ) (c : Connected) → index < 64 → IsSound numbers queue → IsSound (set numbers index (Some c)) queue
sound-with numbers queue index c there sound =
    let old = sound.1 in
    (sound.0, record { count = length-set numbers index (Some c) ∙ old.count; room = old.room; connected = queued-with numbers queue.items index c (omega arith) old.connected })

some_number : (numbers : List (Option Connected)) (number : ℕ) → is_some (connected_at numbers number) ≡ true → 1 ≤ number
some_number numbers zero h = absurd (false≢true h)
some_number numbers (suc k) h = omega arith

pub sound-without : (numbers : List (Option Connected)) (queue new : Buffer ℕ) (number : ℕ) → is_some (connected_at numbers number) ≡ true
    → new ≡ buffer (filter (λ n. not (eqb n number)) queue.items) queue.capacity → IsSound numbers queue → IsSound (set numbers (number - 1) None) new
sound-without numbers queue new number there is sound =
    let old = sound.1 in
    let shorter = filter_short (λ n. not (eqb n number)) queue.items in
    rw is (sound.0, record { count = length-set numbers (number - 1) None ∙ old.count; room = omega arith; connected = queued-without numbers queue.items number (some_number numbers number there) old.connected })

pub sound-after : (changes : List Watched) (numbers after : List (Option Connected)) (queue new : Buffer ℕ) (fired : List ℕ)
    → after ≡ map (after_firing changes) numbers → fired ≡ fired_numbers changes numbers → new ≡ buffer (take queue.capacity (queue.items ++ fired)) queue.capacity
    → IsSound numbers queue → IsSound after new
sound-after changes numbers after queue new fired is_after is_fired is_new sound =
    let old = sound.1 in
    let few = length-take queue.capacity (queue.items ++ fired_numbers changes numbers) in
    rw (is_new, is_after, is_fired) (sound.0, record { count = length-map numbers (after_firing changes) ∙ old.count; room = omega (arith, sound.0); connected = queued-after changes numbers queue.items queue.capacity old.connected })

-- a task's interrupts after the changes, field by field
pub parts-after : (changes : List Watched) (t : TaskData) (numbers : List (Option Connected)) (queue new : Buffer ℕ) (fired : List ℕ) (flood : Bool)
    → numbers ≡ map (after_firing changes) t.numbers → fired ≡ fired_numbers changes t.numbers → queue.capacity ≡ 1_024 → queue.items ≡ t.queue
    → new ≡ buffer (take queue.capacity (queue.items ++ fired)) queue.capacity → flood ≡ (t.flood || nat_lt queue.capacity (length queue.items + length fired))
    → record { numbers = numbers; queue = new.items; flood = flood; disabled = t.disabled; in_trap = t.in_trap } ≡ after_changes changes t
parts-after changes t numbers queue new fired flood is_after is_fired is_room is_queue is_new is_flood =
    rw (is_new, is_flood, is_after, is_fired, is_room, is_queue) refl

-- if no number fires, the changes change nothing

left_empty : (xs ys : List ℕ) → xs ++ ys ≡ [] → (xs ≡ []) × (ys ≡ [])
left_empty [] ys h = (refl, h)
left_empty (x ∷ xs) ys h = cc

no_more : (b : Bool) (n : ℕ) → cond b (n ∷ []) [] ≡ [] → b ≡ false
no_more true n h = cc
no_more false n h = refl

unfired-after : (changes : List Watched) (c : Option Connected) → fires changes c ≡ false → after_firing changes c ≡ c
unfired-after changes None h = refl
unfired-after changes (Some c) h = rw h refl

unfired : (changes : List Watched) (numbers : List (Option Connected)) (n : ℕ)
    → filter (λ number. fires changes (connected_at numbers number)) (range_with_len 1 n) ≡ []
    → (k : ℕ) → k < n → fires changes (get_or numbers k None) ≡ false
unfired changes numbers zero none k h = absurd (omega arith)
unfired changes numbers (suc n) none k h =
    let so_far : List ℕ = filter (λ number. fires changes (connected_at numbers number)) (range_with_len 1 n) in
    let last : List ℕ = cond (fires changes (get_or numbers n None)) ((n + 1) ∷ []) [] in
    let whole : so_far ++ last ≡ [] = sym (fired_more changes numbers n) ∙ rw add-one none in
    let parts = left_empty so_far last whole in
    elim (cases_lt k n) [
      | inl below ↦ unfired changes numbers n parts.0 k below
      | inr past ↦
          let same : k ≡ n = omega arith in
          rw same (no_more (fires changes (get_or numbers n None)) (n + 1) parts.1)
    ]

same-map : (changes : List Watched) (numbers : List (Option Connected)) → ((k : ℕ) → k < length numbers → fires changes (get_or numbers k None) ≡ false) → map (after_firing changes) numbers ≡ numbers
same-map changes [] none = refl
same-map changes (c ∷ numbers) none =
    rw (unfired-after changes c (none 0 (omega arith)), same-map changes numbers (λ k h. none (suc k) (omega arith))) refl

unfired-map : (changes : List Watched) (numbers : List (Option Connected)) → fired_numbers changes numbers ≡ [] → map (after_firing changes) numbers ≡ numbers
unfired-map changes numbers none = same-map changes numbers (unfired changes numbers (length numbers) none)

pub empty : (xs : List ℕ) → eqb (length xs) 0 ≡ true → xs ≡ []
empty [] h = refl
empty (x ∷ xs) h = let none : length (x ∷ xs) ≡ 0 = eqb-true (length (x ∷ xs)) 0 h in absurd (omega (arith, none))

pub unfired-parts : (changes : List Watched) (t : TaskData) → length t.queue ≤ 1_024 → fired_numbers changes t.numbers ≡ [] → t ≡ after_changes changes t
unfired-parts changes t room none =
    let queue : take 1_024 (t.queue ++ []) ≡ t.queue = ap (take 1_024) (append-nil t.queue) ∙ take_all 1_024 t.queue room in
    let calm : nat_lt 1_024 (length t.queue + 0) ≡ false = grind (arith, nat_tests) in
    let flood : (t.flood || false) ≡ t.flood = or_false t.flood in
    rw (none, unfired-map changes t.numbers none, queue, calm, flood) refl
  where
    or_false : (b : Bool) → (b || false) ≡ b
    or_false true = refl
    or_false false = refl
