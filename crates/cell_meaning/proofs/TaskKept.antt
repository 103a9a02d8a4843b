-- What holds of the interrupts of a task along a history: there are as many entries as a task has and the queue is
-- within its limit; whatever waits is connected, to traps that the task named; and a trap is running if one more was
-- begun than left.
use Rattle.std.proofs.Common.{◌≡◌, ℕ, zero, suc, ◌+◌, ◌-◌, ◌<◌, ◌≤◌, Bool, true, false, not, cond, List, [], ◌∷◌, ◌++◌, length, get_or, Option, None, Some, refl, sym, ◌∙◌, ap, subst, arith}
use Rattle.std.specs.Prelude.{◌||◌, ◌==◌, count_by, if◌then◌else◌}
use Rattle.std.proofs.lemmas.Bool.{false≢true}
use Rattle.std.proofs.lemmas.List.{length-set, length-map, length-take}
use Rattle.std.proofs.lemmas.List.Folds.{list_any-append}
use Rattle.std.proofs.Math.ListN.{get_or-map}
use Rattle.rapid_model.specs.Own.{is_trap, is_leave, connects_with, has_connected}
use Rattle.rapid_model.specs.declared.event.Event.{Event}
use Rattle.rapid_model.specs.declared.watched.Watched.{Watched}
use Rattle.rapid_model.specs.Truths.{one_if}
use Rattle.rapid_model.proofs.Lists.{filter_short}
use Rattle.trap_dispatch.specs.declared.connected.Connected.{Connected}
use Rattle.trap_dispatch.specs.Firing.{connected_at, fires, fired_numbers, after_its_firing, after_firing}
use Rattle.trap_dispatch.specs.Tasks.{TaskData, IsTask, with_number, deleted, after_changes, trap_of}
use Rattle.trap_dispatch.proofs.Fired.{connected_at-next}
use Rattle.trap_dispatch.proofs.Queued.{queued-with, queued-without, queued-after}
use Rattle.cell_meaning.proofs.Lists.{written_keeps}
use Rattle.cell_meaning.proofs.MoreEvents.{count_more}

-- what is in an entry is connected with a trap that the task named
abbrev pub HasItsTrap : List Event → Option Connected → Type 0
HasItsTrap mine entry = (c : Connected) → entry ≡ Some c → has_connected mine c.trap ≡ true

pub record KeptTask (mine : List Event) (t : TaskData) : Type 0 where
  pub sound : IsTask t.numbers t.queue
  pub traps : (k : ℕ) → HasItsTrap mine (get_or t.numbers k None)
  pub begun : count_by (λ e. is_trap e.answer) mine ≡ count_by (λ e. is_leave e.request) mine + one_if t.in_trap

-- an entry that is not empty is within the list
some_within : (numbers : List (Option Connected)) (k : ℕ) (c : Connected) → get_or numbers k None ≡ Some c → k < length numbers
some_within [] k c is = cc
some_within (x ∷ xs) zero c is = omega arith
some_within (x ∷ xs) (suc k) c is = let later = some_within xs k c is in omega arith

-- a connected number has an entry
pub record HasEntry (numbers : List (Option Connected)) (number : ℕ) (c : Connected) : Type 0 where
  pub some : 1 ≤ number
  pub within : number - 1 < length numbers
  pub there : get_or numbers (number - 1) None ≡ Some c

pub has_entry : (numbers : List (Option Connected)) (number : ℕ) (c : Connected) → connected_at numbers number ≡ Some c → HasEntry numbers number c
has_entry numbers zero c is = cc
has_entry numbers (suc k) c is =
    let at : get_or numbers k None ≡ Some c = sym (connected_at-next numbers k) ∙ is in
    let pred : suc k - 1 ≡ k = omega arith in
    record { some = omega arith; within = omega (arith, some_within numbers k c at); there = subst (λ (j : ℕ). get_or numbers j None ≡ Some c) (sym pred) at }

or_left : (a b : Bool) → a ≡ true → (a || b) ≡ true
or_left true b h = refl
or_left false b h = absurd (false≢true h)

-- a task that named a trap has named it forever
pub still_named : (mine : List Event) (e : Event) (trap : ℕ) → has_connected mine trap ≡ true → has_connected (mine ++ e ∷ []) trap ≡ true
still_named mine e trap named =
    list_any-append (λ (f : Event). connects_with trap f.request) mine (e ∷ []) ∙ or_left (has_connected mine trap) (has_connected (e ∷ []) trap) named

pub just_named : (mine : List Event) (e : Event) (trap : ℕ) → connects_with trap e.request ≡ true → has_connected (mine ++ e ∷ []) trap ≡ true
just_named mine e trap names = list_any-append (λ (f : Event). connects_with trap f.request) mine (e ∷ []) ∙ last (has_connected mine trap) (connects_with trap e.request) names
  where
    last : (a b : Bool) → b ≡ true → (a || (b || false)) ≡ true
    last true b h = refl
    last false true h = refl
    last false false h = absurd (false≢true h)

-- an event that neither begins nor leaves a trap
pub kept_same : (mine : List Event) (t : TaskData) (e : Event) → KeptTask mine t → is_trap e.answer ≡ false → is_leave e.request ≡ false → KeptTask (mine ++ e ∷ []) t
kept_same mine t e kept no_trap no_leave = record {
  sound = kept.sound;
  traps = λ k c is. still_named mine e c.trap (kept.traps k c is);
  begun =
      let begun = count_more (λ f. is_trap f.answer) mine e ∙ ap (λ (b : Bool). count_by (λ f. is_trap f.answer) mine + cond b 1 0) no_trap in
      let left = count_more (λ f. is_leave f.request) mine e ∙ ap (λ (b : Bool). count_by (λ f. is_leave f.request) mine + cond b 1 0) no_leave in
      omega (arith, begun, left, kept.begun);
}

-- an entry gets another interrupt, with a trap that the task named
pub kept_written : (mine : List Event) (t : TaskData) (number : ℕ) (c : Connected) → KeptTask mine t → number - 1 < length t.numbers → has_connected mine c.trap ≡ true
    → KeptTask mine (with_number t number (Some c))
kept_written mine t number c kept within named = record {
  sound = record {
    count = length-set t.numbers (number - 1) (Some c) ∙ kept.sound.count;
    room = kept.sound.room;
    connected = queued-with t.numbers t.queue (number - 1) c within kept.sound.connected;
  };
  traps = λ k. written_keeps (HasItsTrap mine) t.numbers (number - 1) k (Some c) None (kept.traps k) (λ same d is. let e : c ≡ d = cc in subst (λ (x : Connected). has_connected mine x.trap ≡ true) e named);
  begun = kept.begun;
}

-- a number is free again
pub kept_deleted : (mine : List Event) (t : TaskData) (number : ℕ) → KeptTask mine t → 1 ≤ number → KeptTask mine (deleted t number)
kept_deleted mine t number kept some = record {
  sound = record {
    count = length-set t.numbers (number - 1) None ∙ kept.sound.count;
    room = let shorter = filter_short (λ n. not (n == number)) t.queue in let old = kept.sound.room in omega arith;
    connected = queued-without t.numbers t.queue number some kept.sound.connected;
  };
  traps = λ k. written_keeps (HasItsTrap mine) t.numbers (number - 1) k None None (kept.traps k) (λ same d is. let no : ⊥ = cc in absurd no);
  begun = kept.begun;
}

-- a firing keeps each entry's trap
fired_trap : (changes : List Watched) (entry : Option Connected) (c : Connected) → after_firing changes entry ≡ Some c → (old : Connected) × (entry ≡ Some old) × (old.trap ≡ c.trap)
fired_trap changes None c is = let no : ⊥ = cc in absurd no
fired_trap changes (Some old) c is = (old, refl, either (fires changes (Some old)) is)
  where
    either : (b : Bool) → (if b then Some (record old { order = after_its_firing old.order }) else Some old) ≡ Some c → old.trap ≡ c.trap
    either true e = ap trap_of e
    either false e = ap trap_of e

pub kept_fired : (mine : List Event) (t : TaskData) (changes : List Watched) → KeptTask mine t → KeptTask mine (after_changes changes t)
kept_fired mine t changes kept = record {
  sound = record {
    count = length-map t.numbers (after_firing changes) ∙ kept.sound.count;
    room = let few = length-take 1_024 (t.queue ++ fired_numbers changes t.numbers) in omega (arith, few);
    connected = queued-after changes t.numbers t.queue 1_024 kept.sound.connected;
  };
  traps = λ k c is.
      let old = fired_trap changes (get_or t.numbers k None) c (sym (get_or-map (after_firing changes) t.numbers k None) ∙ is) in
      ap (has_connected mine) (sym old.2) ∙ kept.traps k old.0 old.1;
  begun = kept.begun;
}
