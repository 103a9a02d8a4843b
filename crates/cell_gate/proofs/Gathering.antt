-- Merging the views of all passes, and what the last view states.
use Rattle.std.proofs.Common.{◌≡◌, ◌≢◌, ◌⊎◌, inl, inr, ⊎_elim, ℕ, zero, suc, ◌<◌, ◌≤◌, true, false, List, [], ◌∷◌, ◌++◌, length, get_or, set, Option, Some, refl, sym, ◌∙◌, ap, subst, arith}
use Rattle.std.specs.Prelude.{All, Contains}
use Rattle.std.specs.List.{AllByRecursion}
use Rattle.std.proofs.lemmas.Bool.{cases_eq, false≢true, true≢false}
use Rattle.std.proofs.lemmas.List.Elements.{All-from_recursion, All-contains, All-contains_itself, All-head, All-push, All-weaker, Contains-append_left, Contains-append_right, Contains-push_cases}
use lib.ListN.{get_elem?}
use mathlib.Core.List.{IsPrefix}
use mathlib.Core.Option as maybe
use mathlib.Core.Option.{some, some-injective}
use Rattle.atomic_table.specs.Table.{Joins}
use Rattle.atomic_table.proofs.Lists.{at_set, set_else}
use Rattle.rapid_model.specs.CellData.{CellData}
use Rattle.rapid_model.specs.Own.{part_of}
use Rattle.rapid_model.specs.declared.event.Event.{Event}
use Rattle.cell_core.specs.CoreData.{CoreData}
use Rattle.cell_gate.specs.declared.caller.Caller.{Caller}
use Rattle.cell_gate.specs.declared.part.Part.{Part}
use Rattle.cell_gate.specs.declared.view.View.{View}
use Rattle.cell_gate.specs.Calls.{AreAllPasses, AreOfHistory}
use Rattle.cell_gate.specs.GateData.{GateData}
use Rattle.cell_gate.specs.Hands.{IsBetweenCalls, part_told, pass_of}
use Rattle.cell_gate.specs.PassData.{PassData}
use Rattle.cell_gate.specs.Rule.{core_of, KnowsPart, SpeakFor, SawAll, Knows, Each, Apart, SomeView, Kept}
use Rattle.cell_gate.specs.Views.{own_part, parts, after_gather, spent_view}
use Rattle.cell_gate.proofs.Histories.{tell_both, speak_either, saw_left, saw_right}
use Rattle.cell_gate.proofs.Keeps.{Table}
use Rattle.cell_gate.proofs.Views.{set_at}

-- the views after one was merged into another
abbrev gathered : ℕ → View → ℕ → View → List View → List View
gathered id v other w views = set (set views id (after_gather v w)) other spent_view

-- a view without the turn takes in another, of another seat
module _ (id : ℕ) (v : View) (other : ℕ) (w : View) (views : List View) (here : get_elem? views id ≡ some v) (there : get_elem? views other ≡ some w) (different : other ≢ id) (live : v.spent ≡ false) (live_w : w.spent ≡ false) where
  -- the view there afterwards is the one before, or the one that took the other in
  before : (j : ℕ) (u : View) → get_elem? (gathered id v other w views) j ≡ some u → u.spent ≡ false → (j ≢ other) × (((j ≡ id) × (after_gather v w ≡ u)) ⊎ ((j ≢ id) × (get_elem? views j ≡ some u)))
  before j u at live_u =
      ⊎_elim
      (λ (t : (j ≡ other) × (spent_view ≡ u)). absurd (true≢false (ap (λ (x : View). x.spent) t.1 ∙ live_u)))
      (λ (t : (j ≢ other) × (get_elem? (set views id (after_gather v w)) j ≡ some u)). (t.0, at_set views id j (after_gather v w) u t.1))
      (at_set (set views id (after_gather v w)) other j spent_view u at)

  pub each_gathered : (P : ℕ → View → Type 0) → P id (after_gather v w) → Each P views → Each P (gathered id v other w views)
  each_gathered P now all j u at live_u =
      ⊎_elim
      (λ (t : (j ≡ id) × (after_gather v w ≡ u)). subst (λ (x : ℕ × View). P x.0 x.1) (λ i. (sym t.0 i, t.1 i)) now)
      (λ (t : (j ≢ id) × (get_elem? views j ≡ some u)). all j u t.1 live_u)
      (before j u at live_u).1

  -- the seat and the view that spoke for the actor before
  spoke : (j actor : ℕ) (u : View) → get_elem? (gathered id v other w views) j ≡ some u → u.spent ≡ false → SpeakFor actor (parts u)
      → (k : ℕ) × (x : View) × (get_elem? views k ≡ some x) × (x.spent ≡ false) × SpeakFor actor (parts x) × ((k ≡ j) ⊎ ((j ≡ id) × (k ≡ other)))
  spoke j actor u at live_u speaks =
      ⊎_elim
      (λ (t : (j ≡ id) × (after_gather v w ≡ u)).
      ⊎_elim
      (λ (ours : SpeakFor actor (parts v)). (id, v, here, live, ours, inl (sym t.0)))
      (λ (theirs : SpeakFor actor (parts w)). (other, w, there, live_w, theirs, inr (t.0, refl)))
      (speak_either actor (parts v) (parts w) (subst (λ (x : View). SpeakFor actor (parts x)) (sym t.1) speaks)))
      (λ (t : (j ≢ id) × (get_elem? views j ≡ some u)). (j, u, t.1, live_u, speaks, inl refl))
      (before j u at live_u).1

  -- two seats, each the one of a view before or the seat that took its view in
  one_seat : (j k j' k' : ℕ) → j ≢ other → k ≢ other → j' ≡ k' → (j' ≡ j) ⊎ ((j ≡ id) × (j' ≡ other)) → (k' ≡ k) ⊎ ((k ≡ id) × (k' ≡ other)) → j ≡ k
  one_seat j k j' k' no_j no_k same (inl a) (inl b) = sym a ∙ same ∙ b
  one_seat j k j' k' no_j no_k same (inl a) (inr b) = absurd (no_j (sym a ∙ same ∙ b.1))
  one_seat j k j' k' no_j no_k same (inr a) (inl b) = absurd (no_k (sym b ∙ sym same ∙ a.1))
  one_seat j k j' k' no_j no_k same (inr a) (inr b) = a.0 ∙ sym b.0

  pub apart_gathered : Apart views → Apart (gathered id v other w views)
  apart_gathered apart j k actor a b at_a at_b live_a live_b speaks_a speaks_b =
      let s = spoke j actor a at_a live_a speaks_a in
      let t = spoke k actor b at_b live_b speaks_b in
      one_seat j k s.0 t.0 (before j a at_a live_a).0 (before k b at_b live_b).0 (apart s.0 t.0 actor s.1 t.1 s.2 t.2 s.3 t.3 s.4 t.4) s.5 t.5

  here_after : get_elem? (gathered id v other w views) id ≡ some (after_gather v w)
  here_after = set_else (set views id (after_gather v w)) other id spent_view (λ same. different (sym same)) ∙ set_at views id v (after_gather v w) here

  -- P holds of the view that took the other in if it held of either
  pub some_gathered : (P : View → Type 0) → (P v → P (after_gather v w)) → (P w → P (after_gather v w)) → SomeView P views → SomeView P (gathered id v other w views)
  some_gathered P ours theirs it = elim (cases_eq it.seat other) [
    | inl same ↦ (
        let is : it.view ≡ w = some-injective it.view w (sym it.at ∙ ap (λ (k : ℕ). get_elem? views k) same ∙ there) in
        record { seat = id; view = after_gather v w; at = here_after; live = live; so = theirs (subst P is it.so) })
    | inr apart ↦ elim (cases_eq it.seat id) [
      | inl same ↦ (
          let is : it.view ≡ v = some-injective it.view v (sym it.at ∙ ap (λ (k : ℕ). get_elem? views k) same ∙ here) in
          record { seat = id; view = after_gather v w; at = here_after; live = live; so = ours (subst P is it.so) })
      | inr neither ↦ record {
        seat = it.seat;
        view = it.view;
        at = set_else (set views id (after_gather v w)) other it.seat spent_view apart ∙ set_else views id it.seat (after_gather v w) neither ∙ it.at;
        live = it.live;
        so = it.so;
      }
    ]
  ]

pub gather_allowed : (cell : CellData) (id : ℕ) (v : View) (other : ℕ) (w : View) → v.spent ≡ false → v.holds ≡ false → w.spent ≡ false → w.holds ≡ false
    → Joins (Kept cell) id v other w (after_gather v w) spent_view
gather_allowed cell id v other w live idle live_w idle_w s kept here different there_now =
    let h = kept.history in
    let there : get_elem? s.views other ≡ some w = sym (set_else s.views id other (after_gather v w) different) ∙ there_now in
    let knows = kept.each id v here live in
    let theirs = kept.each other w there live_w in
    let now : Knows cell kept.turn s.homes h kept.made id (after_gather v w) = record {
      cell_is = knows.cell_is;
      tell = tell_both h kept.made (parts v) (parts w) knows.tell theirs.tell;
      has_turn = λ holds. absurd (false≢true (sym idle ∙ holds));
      first = knows.first;
    } in
    record {
      history = h;
      made = kept.made;
      turn = kept.turn;
      words = kept.words;
      each = each_gathered id v other w s.views here there different live live_w (Knows cell kept.turn s.homes h kept.made) now kept.each;
      apart = apart_gathered id v other w s.views here there different live live_w kept.apart;
      room = kept.room;
      late = kept.late;
      longest = some_gathered id v other w s.views here there different live live_w (λ u. SawAll h (parts u)) (λ saw. saw_left h (parts v) (parts w) saw) (λ saw. saw_right h (parts v) (parts w) saw) kept.longest;
      home = kept.home;
      out = λ some_has.
          some_gathered id v other w s.views here there different live live_w (λ u. u.holds ≡ true) (λ holds. holds) (λ holds. absurd (false≢true (sym idle_w ∙ holds))) (kept.out some_has);
    }

-- some of the passes were taken in by a view, which was this one at first
pub record Gathered (all : List PassData) (start : View) (left : List PassData) (v : View) : Type 0 where
  pub told : (p : PassData) → Contains all p → Contains left p ⊎ Contains (parts v) (part_told p)
  pub kept : (part : Part) → Contains (parts start) part → Contains (parts v) part
  pub among : (p : PassData) → Contains left p → Contains all p

pub gathered_none : (all : List PassData) (start : View) → Gathered all start all start
gathered_none all start = record { told = λ p it. inl it; kept = λ part it. it; among = λ p it. it }

-- one more pass was taken in, with this view
pub gathered_more : (all : List PassData) (start : View) (left rest : List PassData) (v w : View) (p : PassData) → Gathered all start left v → left ≡ rest ++ p ∷ []
    → own_part w ≡ part_told p → Gathered all start rest (after_gather v w)
gathered_more all start left rest v w p before is told = record {
  told = λ q it. ⊎_elim (λ (still : Contains left q). taken q still) (λ (known : Contains (parts v) (part_told q)). inr (Contains-append_left (parts v) (parts w) (part_told q) known)) (before.told q it);
  kept = λ part it. Contains-append_left (parts v) (parts w) part (before.kept part it);
  among = λ q it. before.among q (subst (λ (ps : List PassData). Contains ps q) (sym is) (Contains-append_left rest (p ∷ []) q it));
}
  where
    taken : (q : PassData) → Contains left q → Contains rest q ⊎ Contains (parts (after_gather v w)) (part_told q)
    taken q still =
        ⊎_elim
        (λ (later : Contains rest q). inl later)
        (λ (same : p ≡ q).
        let here : own_part w ≡ part_told q = told ∙ ap part_told same in
        inr (Contains-append_right (parts v) (parts w) (part_told q) (0, omega arith, here)))
        (Contains-push_cases rest p q (subst (λ (ps : List PassData). Contains ps q) is still))

-- once all passes were taken in, the view knows the part of each
pub gathered_all : (all : List PassData) (start : View) (left : List PassData) (v : View) → Gathered all start left v → length left ≡ 0 → All (λ p. Contains (parts v) (part_told p)) all
gathered_all all start left v it none =
    All-weaker (Contains all) (λ p. Contains (parts v) (part_told p))
    (λ p among. ⊎_elim (λ (still : Contains left p). let lt = still.1 in absurd (omega (arith, lt, none))) (λ (told : Contains (parts v) (part_told p)). told) (it.told p among))
    all (All-contains_itself all)

pub gathered_kept : (all : List PassData) (start : View) (left : List PassData) (v : View) → Gathered all start left v → All (λ part. Contains (parts v) part) (parts start)
gathered_kept all start left v it = All-weaker (Contains (parts start)) (Contains (parts v)) it.kept (parts start) (All-contains_itself (parts start))

-- the view of the pass that took the others in knows the part of that pass too
pub all_known : (all others : List PassData) (first : PassData) (v w : View) → all ≡ others ++ first ∷ [] → own_part w ≡ part_told first → All (λ p. Contains (parts v) (part_told p)) others
    → All (λ part. Contains (parts v) part) (parts w) → All (λ p. Contains (parts v) (part_told p)) all
all_known all others first v w is told known kept =
    let ours : Contains (parts v) (part_told first) = subst (λ (part : Part). Contains (parts v) part) told (All-head (λ part. Contains (parts v) part) (own_part w) w.joined kept) in
    subst (λ (ps : List PassData). All (λ p. Contains (parts v) (part_told p)) ps) (sym is) (All-push (λ p. Contains (parts v) (part_told p)) others first known ours)

-- what a pass states is its view's own part
pub told_by : (caller : Caller) (p : PassData) → IsBetweenCalls caller → pass_of caller ≡ p → own_part caller.place.me.0 ≡ part_told p
told_by caller p between is = (λ i. record { actor = between.actor_is i; seen = caller.place.me.0.seen; mine = caller.place.me.0.mine }) ∙ ap part_told is

-- once a view without the turn speaks for all actors, the core is at home
pub record Ends (cell : CellData) (homes : List (maybe.Option (Option CoreData))) (v : View) : Type 0 where
  pub history : List Event
  pub made : ℕ
  pub home : homes ≡ some (Some (core_of cell history)) ∷ []
  pub tell : AllByRecursion (KnowsPart history made) (parts v)

pub ends : (cell : CellData) (id : ℕ) (v : View) (s : Table) → Kept cell s → get_elem? s.views id ≡ some v → v.spent ≡ false → v.holds ≡ false → ((actor : ℕ) → actor ≤ length cell.tasks → SpeakFor actor (parts v)) → Ends cell s.homes v
ends cell id v s kept here live idle speaks =
    record { history = kept.history; made = kept.made; home = kept.home nobody; tell = (kept.each id v here live).tell }
  where
    -- this view would have the turn
    not_had : SomeView (λ u. u.holds ≡ true) s.views → ⊥
    not_had it =
        let theirs = kept.each it.seat it.view it.at it.live in
        let known = theirs.tell.0.known in
        let room = kept.room in
        let same : it.seat ≡ id = kept.apart it.seat id it.view.actor it.view v it.at here it.live live (inl refl) (speaks it.view.actor (omega (arith, known, room))) in
        let is : it.view ≡ v = some-injective it.view v (sym it.at ∙ ap (λ (k : ℕ). get_elem? s.views k) same ∙ here) in
        false≢true (sym idle ∙ ap (λ (u : View). u.holds) (sym is) ∙ it.so)

    nobody : kept.turn ≡ 0
    nobody = elim (cases_eq kept.turn 0) [ inl none_has ↦ none_has | inr some_has ↦ absurd (not_had (kept.out some_has)) ]

-- what is found in the slot then
pub found_home : (cell : CellData) (homes : List (maybe.Option (Option CoreData))) (slots : List (Option CoreData)) (v : View) (found : Option CoreData) (at_end : Ends cell homes v)
    → ((k : ℕ) (y : Option CoreData) → get_elem? homes k ≡ some (some y) → get_elem? slots k ≡ some y) → get_elem? slots 0 ≡ some found → found ≡ Some (core_of cell at_end.history)
found_home cell homes slots v found at_end same at =
    let core = Some (core_of cell at_end.history) in
    some-injective found core (sym at ∙ same 0 core (ap (λ (hs : List (maybe.Option (Option CoreData))). get_elem? hs 0) at_end.home))

-- a part among others speaks for its actor
speaks_among : (ps : List Part) (k : ℕ) (part : Part) → k < length ps → get_or ps k part ≡ part → SpeakFor part.actor ps
speaks_among [] k part lt is = absurd (omega arith)
speaks_among (p ∷ ps) zero part lt is = inl (ap (λ (q : Part). q.actor) is)
speaks_among (p ∷ ps) (suc k) part lt is = inr (speaks_among ps k part (omega (arith, lt)) is)

-- if the parts of all passes are stated, each actor is spoken for
pub all_spoken : (gate : GateData) (passes : List PassData) (ps : List Part) → AreAllPasses gate passes → All (λ p. Contains ps (part_told p)) passes → (actor : ℕ) → actor ≤ length gate.cell.tasks → SpeakFor actor ps
all_spoken gate passes ps are all actor le =
    let it = are.every actor le in
    let told : Contains ps (part_told it.1) = All-contains (λ p. Contains ps (part_told p)) passes it.1 all (it.0, it.2, it.3) in
    subst (λ (k : ℕ). SpeakFor k ps) it.4 (speaks_among ps told.0 (part_told it.1) told.1 told.2)

-- if the parts of all passes are stated, each pass is of the history
pub all_tell : (history : List Event) (made : ℕ) (passes : List PassData) (ps : List Part) → AllByRecursion (KnowsPart history made) ps → All (λ p. Contains ps (part_told p)) passes → AreOfHistory passes history
all_tell history made passes ps tell all =
    let each : (p : PassData) → Contains ps (part_told p) → KnowsPart history made (part_told p) = λ p told. All-contains (KnowsPart history made) ps (part_told p) (All-from_recursion (KnowsPart history made) ps tell) told in
    record {
      begins = All-weaker (λ p. Contains ps (part_told p)) (λ p. IsPrefix p.seen history) (λ p told. (each p told).begins) passes all;
      mine = All-weaker (λ p. Contains ps (part_told p)) (λ p. p.mine ≡ part_of p.actor history) (λ p told. (each p told).mine) passes all;
    }
