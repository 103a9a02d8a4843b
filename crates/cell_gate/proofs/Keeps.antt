-- Each step on a word keeps the gate's rule.
use Rattle.std.proofs.Common.{◌≡◌, ◌≢◌, inl, ℕ, ◌+◌, ◌%◌, ◌^◌, ◌<◌, Bool, true, false, List, [], ◌∷◌, ◌++◌, length, get_or, set, eqb, Option, Some, None, refl, sym, ◌∙◌, ap, subst, arith, length-append, mod-eq_of_lt}
use Rattle.std.specs.List.{AllByRecursion}
use Rattle.std.proofs.lemmas.Bool.{false≢true}
use lib.ListN.{get_elem?}
use lib.Seq.{set-get_or}
use mathlib.Core.Option as maybe
use mathlib.Core.Option.{none, some}
use prog.Atomic.{either}
use Rattle.atomic_table.specs.Table.{State, Act, keeps, takes, gives, Valid, stepped, carried_after, Allows}
use Rattle.atomic_table.proofs.Lists.{exchanged, set_again}
use Rattle.rapid_model.specs.CellData.{CellData}
use Rattle.rapid_model.specs.Own.{part_of}
use Rattle.rapid_model.specs.declared.event.Event.{Event}
use Rattle.cell_meaning.proofs.MoreEvents.{part_of-other}
use Rattle.cell_core.specs.CoreData.{CoreData}
use Rattle.cell_gate.specs.declared.part.Part.{Part}
use Rattle.cell_gate.specs.declared.view.View.{View}
use Rattle.cell_gate.specs.Hands.{InTurn}
use Rattle.cell_gate.specs.Rule.{core_of, KnowsPart, SawAll, slot_away, Knows, Kept}
use Rattle.cell_gate.specs.Steps.{Hand, Takes, Counts, Gives, Stays, Opens}
use Rattle.cell_gate.specs.Views.{parts, after_take, after_count, after_give, after_open}
use Rattle.cell_gate.proofs.Histories.{prefix_self, tell_more}
use Rattle.cell_gate.proofs.Views.{each_set, apart_set, some_here}

abbrev pub Table : Type 0
Table = State (Option CoreData) View

-- a view that does not have the turn, when another took it or gave it on
idle_knows : (cell : CellData) (turn next : ℕ) (homes later : List (maybe.Option (Option CoreData))) (history : List Event) (made seat : ℕ) (v : View) → Knows cell turn homes history made seat v → (v.holds ≡ true → ⊥)
    → Knows cell next later history made seat v
idle_knows cell turn next homes later history made seat v knows idle = record { cell_is = knows.cell_is; tell = knows.tell; has_turn = λ holds. absurd (idle holds); first = knows.first }

module _ (cell : CellData) (id : ℕ) (v : View) (s : Table) (kept : Kept cell s) (here : get_elem? s.views id ≡ some v) (live : v.spent ≡ false) where
  mine : Knows cell kept.turn s.homes kept.history kept.made id v
  mine = kept.each id v here live

  -- while a view has the turn, no other has it
  one_holder : (j : ℕ) (u : View) → v.holds ≡ true → j ≢ id → get_elem? s.views j ≡ some u → u.spent ≡ false → u.holds ≡ true → ⊥
  one_holder j u holds other at live_u holds_u =
      let ours = (mine.has_turn holds).turn_is in
      let theirs = ((kept.each j u at live_u).has_turn holds_u).turn_is in
      let same : u.actor ≡ v.actor = omega (arith, ours, theirs) in
      other (kept.apart j id v.actor u v at here live_u live (inl same) (inl refl))

-- a table that stays as it is
same_table : (cell : CellData) (s : Table) (i id : ℕ) (v : View) → Kept cell s → get_elem? s.views id ≡ some v → Kept cell (record { words = set s.words i (get_or s.words i 0); homes = s.homes; views = set s.views id v })
same_table cell s i id v kept here =
    let way : s ≡ record { words = set s.words i (get_or s.words i 0); homes = s.homes; views = set s.views id v } =
    λ k. record { words = sym (set-get_or s.words i 0) k; homes = s.homes; views = sym (set_again s.views id v here) k } in
    subst (λ (t : Table). Kept cell t) way kept

-- what a step on the word `word` may make of the table and of the hand
abbrev Goes : CellData → ℕ → ℕ → Table → Hand → (ℕ → Hand → Type 0) → ℕ → Type 0
Goes cell id word s hand then next =
    (w : View) × (a : Act (Option CoreData)) × Valid s.homes hand.1 a × Kept cell (stepped s word next id hand.1 w a) × then (get_or s.words word 0) (w, carried_after hand.1 a)

stays_goes : (cell : CellData) (id word : ℕ) (s : Table) (hand : Hand) (then : ℕ → Hand → Type 0) → Kept cell s → get_elem? s.views id ≡ some hand.0 → then (get_or s.words word 0) hand
    → Goes cell id word s hand then (get_or s.words word 0)
stays_goes cell id word s hand then kept here told = (hand.0, keeps, tt, same_table cell s word id hand.0 kept here, told)

-- the turn is free, and a view takes it
takes_it : (cell : CellData) (id next : ℕ) (s : Table) (hand : Hand) → next ≡ hand.0.actor + 1 → hand.0.spent ≡ false → Kept cell s → get_elem? s.views id ≡ some hand.0
    → get_or s.words 0 0 ≡ 0 → Goes cell id 0 s hand (Takes hand) next
takes_it cell id next s hand is live kept here free =
    let v = hand.0 in
    let h = kept.history in
    let core = core_of cell h in
    let w = after_take v h in
    let knows = mine cell id v s kept here live in
    let nobody : kept.turn ≡ 0 = sym (ap (λ (ws : List ℕ). get_or ws 0 0) kept.words) ∙ free in
    let home : s.homes ≡ some (Some core) ∷ [] = kept.home nobody in
    let away : set s.homes 0 none ≡ none ∷ [] = ap (λ (hs : List (maybe.Option (Option CoreData))). set hs 0 none) home in
    let now : Knows cell next (set s.homes 0 none) h kept.made id w = record {
      cell_is = knows.cell_is;
      tell = (record { begins = prefix_self h; mine = knows.tell.0.mine; known = knows.tell.0.known }, knows.tell.1);
      has_turn = λ holds. record { turn_is = is; whole = refl; away = away; empty = λ fresh. absurd (false≢true fresh) };
      first = knows.first;
    } in (
      w,
      takes 0 (Some core),
      ap (λ (hs : List (maybe.Option (Option CoreData))). get_elem? hs 0) home,
      record {
        history = h;
        made = kept.made;
        turn = next;
        words = ap (λ (ws : List ℕ). set ws 0 next) kept.words;
        each = each_set (Knows cell next (set s.homes 0 none) h kept.made) s.views id w (λ live_w. now)
            (λ j u other at live_u.
            let theirs = kept.each j u at live_u in
            idle_knows cell kept.turn next s.homes (set s.homes 0 none) h kept.made j u theirs (λ holds. let has = (theirs.has_turn holds).turn_is in omega (arith, has, nobody)));
        apart = apart_set s.views id v w here live (λ actor speaks. speaks) kept.apart;
        room = kept.room;
        late = kept.late;
        longest = some_here (λ u. SawAll h (parts u)) s.views id v w here live (inl refl);
        home = λ none_has. absurd (omega (arith, is, none_has));
        out = λ some_has. some_here (λ u. u.holds ≡ true) s.views id v w here live refl;
      },
      (
        (λ found. record {
          view = refl;
          slot = ap (λ (c : CellData). (0, Some (core_of c h)) ∷ hand.1) (sym knows.cell_is);
          begins = knows.tell.0.begins;
          mine = knows.tell.0.mine;
        }),
        (λ busy. absurd (busy free)),
      ),
    )

pub take_allowed : (cell : CellData) (slots id next : ℕ) (hand : Hand) → next ≡ hand.0.actor + 1 → hand.0.spent ≡ false
    → Allows (Kept cell) slots id hand 0 (λ n. either (eqb n 0) next n) (Takes hand)
take_allowed cell slots id next hand is live s kept deep here small =
    exchanged (get_or s.words 0 0) 0 next (Goes cell id 0 s hand (Takes hand))
    (λ free. takes_it cell id next s hand is live kept here free)
    (λ busy. stays_goes cell id 0 s hand (Takes hand) kept here ((λ free. absurd (busy free)), (λ found. refl)))

-- the core that is out gained an event of the view's actor, which is counted
counts_it : (cell : CellData) (id : ℕ) (s : Table) (v : View) (core : CoreData) (e : Event) → InTurn v → e.actor ≡ v.actor → core.history ≡ v.seen ++ e ∷ [] → length core.history < 2 ^ 64
    → Kept cell s → get_elem? s.views id ≡ some v → Goes cell id 1 s (v, (0, Some core) ∷ []) (Counts (v, (0, Some core) ∷ [])) ((get_or s.words 1 0 + 1) % 2 ^ 64)
counts_it cell id s v core e turn by grown few kept here =
    let h = kept.history in
    let later = core.history in
    let w = after_count v later in
    let knows = mine cell id v s kept here turn.live in
    let has = knows.has_turn turn.holds in
    let more : later ≡ h ++ e ∷ [] = grown ∙ ap (λ (es : List Event). es ++ e ∷ []) has.whole in
    let found : get_or s.words 1 0 ≡ length h = ap (λ (ws : List ℕ). get_or ws 1 0) kept.words in
    let longer : length later ≡ length h + 1 = ap (λ (es : List Event). length es) more ∙ length-append h (e ∷ []) in
    let within : get_or s.words 1 0 + 1 < 2 ^ 64 = omega (arith, found, longer, few) in
    let number : (get_or s.words 1 0 + 1) % 2 ^ 64 ≡ length later = mod-eq_of_lt within ∙ omega (arith, found, longer) in
    let turn_is = has.turn_is in
    let others : (j : ℕ) (u : View) → j ≢ id → get_elem? s.views j ≡ some u → u.spent ≡ false → Knows cell kept.turn s.homes later kept.made j u =
    λ j u other at live_u.
    let theirs = kept.each j u at live_u in
    record {
      cell_is = theirs.cell_is;
      tell = tell_more h later e kept.made (parts u) more (λ speaks. other (kept.apart j id e.actor u v at here live_u turn.live speaks (inl (sym by)))) theirs.tell;
      has_turn = λ holds. absurd (one_holder cell id v s kept here turn.live j u turn.holds other at live_u holds);
      first = theirs.first;
    } in
    let now : Knows cell kept.turn s.homes later kept.made id w = record {
      cell_is = knows.cell_is;
      tell = (record { begins = prefix_self later; mine = refl; known = knows.tell.0.known }, subst (λ (ps : List Part). AllByRecursion (KnowsPart later kept.made) ps) (sym turn.alone) tt);
      has_turn = λ holds. record { turn_is = turn_is; whole = refl; away = has.away; empty = λ fresh. absurd (false≢true (sym turn.opened ∙ fresh)) };
      first = knows.first;
    } in (
      w,
      keeps,
      tt,
      record {
        history = later;
        made = kept.made;
        turn = kept.turn;
        words = ap (λ (ws : List ℕ). set ws 1 ((get_or s.words 1 0 + 1) % 2 ^ 64)) kept.words ∙ ap (λ (n : ℕ). kept.turn ∷ n ∷ []) number;
        each = each_set (Knows cell kept.turn s.homes later kept.made) s.views id w (λ live_w. now) others;
        apart = apart_set s.views id v w here turn.live (λ actor speaks. speaks) kept.apart;
        room = kept.room;
        late = λ actor le.
            let known = knows.tell.0.known in
            ap (λ (es : List Event). part_of actor es) more ∙ part_of-other actor h e (λ own. omega (arith, known, le, by, own)) ∙ kept.late actor le;
        longest = some_here (λ u. SawAll later (parts u)) s.views id v w here turn.live (inl refl);
        home = λ none_has. absurd (omega (arith, turn_is, none_has));
        out = λ some_has. some_here (λ u. u.holds ≡ true) s.views id v w here turn.live turn.holds;
      },
      refl,
    )

pub count_allowed : (cell : CellData) (slots id : ℕ) (hand : Hand) (core : CoreData) (e : Event) → hand.1 ≡ (0, Some core) ∷ [] → InTurn hand.0 → e.actor ≡ hand.0.actor
    → core.history ≡ hand.0.seen ++ e ∷ [] → length core.history < 2 ^ 64 → Allows (Kept cell) slots id hand 1 (λ n. (n + 1) % 2 ^ 64) (Counts hand)
count_allowed cell slots id hand core e slot turn by grown few =
    subst (λ (c : List (ℕ × Option CoreData)). Allows (Kept cell) slots id (hand.0, c) 1 (λ n. (n + 1) % 2 ^ 64) (Counts (hand.0, c))) (sym slot)
    (λ s kept deep here small. counts_it cell id s hand.0 core e turn by grown few kept here)

-- the core is put back, with the whole history
gives_it : (cell : CellData) (id : ℕ) (s : Table) (v : View) (core : CoreData) → v.holds ≡ true → v.spent ≡ false → core.cell ≡ v.cell → core.history ≡ v.seen → Kept cell s
    → get_elem? s.views id ≡ some v → Goes cell id 0 s (v, (0, Some core) ∷ []) (Gives (v, (0, Some core) ∷ [])) 0
gives_it cell id s v core holds live same_cell same_history kept here =
    let h = kept.history in
    let w = after_give v in
    let knows = mine cell id v s kept here live in
    let has = knows.has_turn holds in
    let is : core ≡ core_of cell h = λ i. record { cell = (same_cell ∙ knows.cell_is) i; history = (same_history ∙ has.whole) i } in
    let back = set s.homes 0 (some (Some core)) in
    let home : back ≡ some (Some (core_of cell h)) ∷ [] =
    ap (λ (hs : List (maybe.Option (Option CoreData))). set hs 0 (some (Some core))) has.away ∙ ap (λ (c : CoreData). some (Some c) ∷ []) is in
    let now : Knows cell 0 back h kept.made id w = record { cell_is = knows.cell_is; tell = knows.tell; has_turn = λ holds_w. absurd (false≢true holds_w); first = knows.first } in (
      w,
      gives,
      tt,
      record {
        history = h;
        made = kept.made;
        turn = 0;
        words = ap (λ (ws : List ℕ). set ws 0 0) kept.words;
        each = each_set (Knows cell 0 back h kept.made) s.views id w (λ live_w. now)
            (λ j u other at live_u.
            idle_knows cell kept.turn 0 s.homes back h kept.made j u (kept.each j u at live_u) (one_holder cell id v s kept here live j u holds other at live_u));
        apart = apart_set s.views id v w here live (λ actor speaks. speaks) kept.apart;
        room = kept.room;
        late = kept.late;
        longest = some_here (λ u. SawAll h (parts u)) s.views id v w here live (inl has.whole);
        home = λ none_has. home;
        out = λ some_has. absurd (some_has refl);
      },
      refl,
    )

pub give_allowed : (cell : CellData) (slots id : ℕ) (hand : Hand) (core : CoreData) → hand.1 ≡ (0, Some core) ∷ [] → hand.0.holds ≡ true → hand.0.spent ≡ false → core.cell ≡ hand.0.cell
    → core.history ≡ hand.0.seen → Allows (Kept cell) slots id hand 0 (λ _. 0) (Gives hand)
give_allowed cell slots id hand core slot holds live same_cell same_history =
    subst (λ (c : List (ℕ × Option CoreData)). Allows (Kept cell) slots id (hand.0, c) 0 (λ _. 0) (Gives (hand.0, c))) (sym slot)
    (λ s kept deep here small. gives_it cell id s hand.0 core holds live same_cell same_history kept here)

pub rest_allowed : (cell : CellData) (slots id : ℕ) (hand : Hand) → Allows (Kept cell) slots id hand 1 (λ n. n) (Stays hand)
rest_allowed cell slots id hand s kept deep here small = stays_goes cell id 1 s hand (Stays hand) kept here refl

-- before the gate is open, its first view takes the empty slot
opens_it : (cell : CellData) (id : ℕ) (s : Table) (hand : Hand) → hand.0.holds ≡ true → hand.0.fresh ≡ true → hand.0.spent ≡ false → Kept cell s → get_elem? s.views id ≡ some hand.0
    → Goes cell id 0 s hand (Opens hand) (get_or s.words 0 0)
opens_it cell id s hand holds fresh live kept here =
    let v = hand.0 in
    let h = kept.history in
    let w = after_open v in
    let knows = mine cell id v s kept here live in
    let has = knows.has_turn holds in
    let turn_is = has.turn_is in
    let empty : s.homes ≡ some None ∷ [] = has.away ∙ ap (λ (b : Bool). slot_away b ∷ []) fresh in
    let out = set s.homes 0 none in
    let away : out ≡ none ∷ [] = ap (λ (hs : List (maybe.Option (Option CoreData))). set hs 0 none) empty in
    let now : Knows cell kept.turn out h kept.made id w = record {
      cell_is = knows.cell_is;
      tell = knows.tell;
      has_turn = λ holds_w. record { turn_is = turn_is; whole = has.whole; away = away; empty = λ fresh_w. absurd (false≢true fresh_w) };
      first = knows.first;
    } in (
      w,
      takes 0 None,
      ap (λ (hs : List (maybe.Option (Option CoreData))). get_elem? hs 0) empty,
      record {
        history = h;
        made = kept.made;
        turn = kept.turn;
        words = set-get_or s.words 0 0 ∙ kept.words;
        each = each_set (Knows cell kept.turn out h kept.made) s.views id w (λ live_w. now)
            (λ j u other at live_u.
            idle_knows cell kept.turn kept.turn s.homes out h kept.made j u (kept.each j u at live_u) (one_holder cell id v s kept here live j u holds other at live_u));
        apart = apart_set s.views id v w here live (λ actor speaks. speaks) kept.apart;
        room = kept.room;
        late = kept.late;
        longest = some_here (λ u. SawAll h (parts u)) s.views id v w here live (inl has.whole);
        home = λ none_has. absurd (omega (arith, turn_is, none_has));
        out = λ some_has. some_here (λ u. u.holds ≡ true) s.views id v w here live holds;
      },
      refl,
    )

pub open_allowed : (cell : CellData) (slots id : ℕ) (hand : Hand) → hand.0.holds ≡ true → hand.0.fresh ≡ true → hand.0.spent ≡ false → Allows (Kept cell) slots id hand 0 (λ n. n) (Opens hand)
open_allowed cell slots id hand holds fresh live s kept deep here small = opens_it cell id s hand holds fresh live kept here
