-- What holds of each declaration that a name may mean holds of what it means.
use Rattle.std.proofs.Common.{◌≡◌, ℕ, ◌+◌, true, List, [], length, Some, slice_get, IfSome, refl, sym, ap, subst, ◌∙◌, true≢false, arith, Bool, false}
use Rattle.std.specs.Str.{str_to_ascii_lowercase}
use Rattle.raw_trees.specs.Plain.{PlainRoutine, PlainItem, PlainModule, Routine}
use Rattle.rapid_model.specs.declared.signal_row.SignalRow.{SignalRow}
use Rattle.rapid_model.specs.Names.{IsOneName}
use Rattle.rule_checks.specs.declared.spot.Spot.{Spot}
use Rattle.data_scopes.specs.declared.meant.Meant.{Meant}
use Rattle.data_scopes.specs.declared.meant.Meant.TheVariants as meants
use Rattle.data_scopes.specs.Loops.{loops_in_routine}
use Rattle.data_scopes.specs.Numbers.{Tally, item_meant, no_counts, tables_of, own_scopes, inner_scopes, task_scope, signal_scope}
use Rattle.data_scopes.specs.Scopes.{Loop, Tables, list_at, meant_in, meaning}
use Rattle.name_laws.specs.Declared.{IsSeen, StandsIn}
use Rattle.name_laws.specs.Meant.{StandsInFor}
use Rattle.name_laws.proofs.Entries.{Counter, Holds, IsElsewhere, found_there, holds_at, meaning_such, raised}
use Rattle.name_laws.proofs.Items.{AllModules, Fact, rest_all}
use Rattle.name_laws.proofs.Seen.{InnerEntry, ItemEntry, PlaceEntry, SignalEntry, TaskEntry, inner_scopes_entered, loop_found, loops_there, own_scopes_entered, signals_entered, task_scope_entered}

module _ (modules : List PlainModule) (signals : List SignalRow) (spot : Spot) (name : List ℕ) (A : Fact) (all : AllModules A 0 no_counts modules) (stands : (number : ℕ) (c : Tally) (item : PlainItem) → A number c item → StandsIn modules number item) (Q : Meant → Type 0) where
  abbrev tables : Tables
  tables = tables_of modules signals

  -- items, places of a routine, FORs and the script's signals have the property
  pub record AreSuch : Type 0 where
    pub items : (number : ℕ) (c : Tally) (item : PlainItem) → A number c item → IsSeen modules spot name number item → Q (item_meant c item)
    pub places : (number : ℕ) (c : Tally) (r : PlainRoutine) → A number c (Routine r) → spot.routine ≡ Some c.routines → (meant : Meant) → PlaceEntry c.consts r (str_to_ascii_lowercase name) meant → Q meant
    pub loops : (number : ℕ) (c : Tally) (r : PlainRoutine) → A number c (Routine r) → spot.routine ≡ Some c.routines → (k : ℕ) (loop : Loop) → slice_get (loops_in_routine r) k ≡ Some loop → str_to_ascii_lowercase name ≡ loop.name → (nearer : List ℕ) → StandsInFor (loops_in_routine r) (str_to_ascii_lowercase name) k spot.within nearer → Q (meants.For k)
    pub script : (k : ℕ) (row : SignalRow) → slice_get signals k ≡ Some row → IsOneName name row.name → Q (meants.Signal k)

  module _ (are : AreSuch) where
    entry_such : (local : Bool) (number : ℕ) (meant : Meant) → (local ≡ true → number ≡ spot.«module») → ItemEntry A local number (str_to_ascii_lowercase name) meant → Q meant
    entry_such local number meant within e =
        subst Q (sym e.means)
        (are.items number e.c e.item e.holds (record { stands = stands number e.c e.item e.holds; named = e.named; within = λ is. within (sym e.of_scope ∙ is) }))

    inner_such : (routine : ℕ) (meant : Meant) → spot.routine ≡ Some routine → InnerEntry A routine (str_to_ascii_lowercase name) meant → Q meant
    inner_such routine meant is e = are.places e.number e.c e.r e.holds (is ∙ ap Some (sym e.is_it)) meant e.entry

    counter_such : (routine k : ℕ) → spot.routine ≡ Some routine → Counter tables spot name Q routine k → Q (meants.For k)
    counter_such routine k is e =
        let loops = list_at tables.loops routine in
        let found = loop_found (str_to_ascii_lowercase name) loops k (length loops) spot.within e in
        let here = loops_there A modules all routine k found.loop found.is in
        let there : slice_get (loops_in_routine here.r) k ≡ Some found.loop = subst (λ ls. slice_get ls k ≡ Some found.loop) here.are found.is in
        let stands = subst (λ ls. StandsInFor ls (str_to_ascii_lowercase name) k spot.within found.nearer) here.are found.stands in
        are.loops here.number here.c here.r here.holds (is ∙ ap Some (sym here.is_it)) k found.loop there found.named found.nearer stands

    inner_rows : (routine : ℕ) → spot.routine ≡ Some routine → IfSome (meant_in name (list_at (inner_scopes no_counts modules) routine)) Q
    inner_rows routine is =
        let P = InnerEntry A in
        let e : 0 + routine ≡ routine = omega arith in
        let held : Holds (P routine) (list_at (inner_scopes no_counts modules) routine) =
        subst (λ n. Holds (P n) (list_at (inner_scopes no_counts modules) routine)) e (holds_at P 0 routine (inner_scopes no_counts modules) (inner_scopes_entered A 0 no_counts modules all)) in
        raised _ (P routine (str_to_ascii_lowercase name)) Q (λ meant entry. inner_such routine meant is entry) (found_there (P routine) name _ held)

    own_rows : IfSome (meant_in name (list_at (own_scopes no_counts modules) spot.«module»)) Q
    own_rows =
        let P = ItemEntry A true in
        let number = spot.«module» in
        let e : 0 + number ≡ number = omega arith in
        let held : Holds (P number) (list_at (own_scopes no_counts modules) number) =
        subst (λ n. Holds (P n) (list_at (own_scopes no_counts modules) number)) e (holds_at P 0 number (own_scopes no_counts modules) (own_scopes_entered A 0 no_counts modules all)) in
        raised _ (P number (str_to_ascii_lowercase name)) Q (λ meant entry. entry_such true number meant (λ is. refl) entry) (found_there (P number) name _ held)

    task_rows : IfSome (meant_in name (task_scope no_counts modules [])) Q
    task_rows =
        raised _ (TaskEntry A (str_to_ascii_lowercase name)) Q (λ meant entry. entry_such false entry.0 meant (λ is. absurd (true≢false (sym is))) entry.1)
        (found_there (TaskEntry A) name _ (task_scope_entered A 0 no_counts modules [] all tt))

    signal_rows : IfSome (meant_in name (signal_scope 0 signals [])) Q
    signal_rows =
        raised _ (SignalEntry signals (str_to_ascii_lowercase name)) Q (λ meant e. subst Q (sym e.means) (are.script e.k e.row e.is_row e.named))
        (found_there (SignalEntry signals) name _ (signals_entered signals 0 signals [] (rest_all signals) tt))

    pub sources_such : IsElsewhere tables spot name Q → (meant : Meant) → meaning tables spot name ≡ Some meant → Q meant
    sources_such elsewhere meant is =
        meaning_such tables spot name Q elsewhere (record { counters = counter_such; inner = inner_rows; own = own_rows; task = task_rows; signals = signal_rows }) meant is
