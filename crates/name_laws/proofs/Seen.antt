-- Each entry of the scopes of a task's modules is that of a declaration, of which this holds where it is.
use Rattle.std.proofs.Common.{◌≡◌, ◌≢◌, ◌⊎◌, inl, inr, ℕ, zero, suc, ◌+◌, Bool, true, false, List, [], ◌∷◌, ◌++◌, length, Option, Some, None, slice_get, refl, sym, ap, subst, ◌∙◌, if◌then◌else◌, bytes_eq, true≢false, arith}
use Rattle.std.specs.Str.{str_to_ascii_lowercase}
use Rattle.std.proofs.lemmas.Slice.Eq.{bytes_eq-Decides}
use Rattle.raw_trees.specs.Plain.{PlainDatum, PlainParam, PlainRoutine, PlainItem, PlainModule, Datum, Routine}
use Rattle.rapid_model.specs.declared.signal_row.SignalRow.{SignalRow}
use Rattle.data_scopes.specs.declared.meant.Meant.{Meant}
use Rattle.data_scopes.specs.declared.meant.Meant.TheVariants as meants
use Rattle.data_scopes.specs.Loops.{loops_in_routine}
use Rattle.data_scopes.specs.Numbers.{Tally, is_pers, is_scalar_const, is_local, item_name, item_meant, after_datum, after_item, after_items, param_meant, declare_params, local_meant, declare_locals, routine_scope, own_items, task_items, routine_scopes, task_scope, own_scopes, inner_scopes, items_loops, all_loops, signal_scope, no_counts}
use Rattle.data_scopes.specs.Scopes.{Scope, Loop, declare, list_at, loop_named, named_or}
use Rattle.data_scopes.proofs.Within.{after_by}
use Rattle.name_laws.specs.Meant.{StandsInFor}
use Rattle.name_laws.proofs.ConstRows.{before_more, consts_before}
use Rattle.name_laws.proofs.Entries.{Holds, EachHolds, holds_declare}
use Rattle.name_laws.proofs.Items.{Fact, AllItems, AllModules, Rest, rest_all, rest_first, rest_more}

-- a parameter of a routine, by its place
pub record ParamEntry (r : PlainRoutine) (key : List ℕ) (meant : Meant) : Type 0 where
  pub index : ℕ
  pub p : PlainParam
  pub is_param : slice_get r.params index ≡ Some p
  pub named : key ≡ str_to_ascii_lowercase p.name.text
  pub means : meant ≡ param_meant index p.mode

-- a datum of a routine, by its place after the parameters, and by how many CONSTs come before it
pub record LocalEntry (first : ℕ) (r : PlainRoutine) (key : List ℕ) (meant : Meant) : Type 0 where
  pub index : ℕ
  pub consts : ℕ
  pub d : PlainDatum
  pub is_datum : slice_get r.locals index ≡ Some d
  pub named : key ≡ str_to_ascii_lowercase d.name.text
  pub counted : consts ≡ first + consts_before index r.locals
  pub means : meant ≡ local_meant (length r.params + index) consts d

abbrev pub PlaceEntry : ℕ → PlainRoutine → List ℕ → Meant → Type 0
PlaceEntry first r key meant = ParamEntry r key meant ⊎ LocalEntry first r key meant

params_entered : (first : ℕ) (r : PlainRoutine) (index : ℕ) (ps : List PlainParam) (scope : Scope) → Rest r.params index ps → Holds (PlaceEntry first r) scope → Holds (PlaceEntry first r) (declare_params index ps scope)
params_entered first r index [] scope rest all = all
params_entered first r index (p ∷ ps) scope rest all =
    params_entered first r (index + 1) ps _ (rest_more r.params index p ps rest)
    (holds_declare (PlaceEntry first r) p.name.text (param_meant index p.mode) scope
    (inl (record { index = index; p = p; is_param = rest_first r.params index p ps rest; named = refl; means = refl })) all)

locals_entered : (first : ℕ) (r : PlainRoutine) (index consts : ℕ) (ds : List PlainDatum) (scope : Scope) → Rest r.locals index ds → consts ≡ first + consts_before index r.locals → Holds (PlaceEntry first r) scope
    → Holds (PlaceEntry first r) (declare_locals (length r.params + index) consts ds scope)
locals_entered first r index consts [] scope rest counted all = all
locals_entered first r index consts (d ∷ ds) scope rest counted all =
    let one : ℕ = if is_scalar_const d then 1 else 0 in
    let next = consts + one in
    let entered = declare d.name.text (local_meant (length r.params + index) consts d) scope in
    let there = rest_first r.locals index d ds rest in
    let e : length r.params + (index + 1) ≡ (length r.params + index) + 1 = omega arith in
    let step : index + 1 ≡ suc index = omega arith in
    let more : consts + one ≡ first + consts_before (index + 1) r.locals = omega (arith, counted, before_more r.locals index d there, ap (λ k. consts_before k r.locals) step) in
    subst (λ n. Holds (PlaceEntry first r) (declare_locals n next ds entered)) e
    (locals_entered first r (index + 1) next ds entered (rest_more r.locals index d ds rest) more
    (holds_declare (PlaceEntry first r) d.name.text (local_meant (length r.params + index) consts d) scope
    (inr (record { index = index; consts = consts; d = d; is_datum = there; named = refl; counted = counted; means = refl })) all))

routine_entered : (c : Tally) (r : PlainRoutine) → Holds (PlaceEntry c.consts r) (routine_scope c r)
routine_entered c r =
    let params = declare_params 0 r.params [] in
    let e : length r.params + 0 ≡ length r.params = omega arith in
    subst (λ n. Holds (PlaceEntry c.consts r) (declare_locals n c.consts r.locals params)) e
    (locals_entered c.consts r 0 c.consts r.locals params (rest_all r.locals) (omega arith) (params_entered c.consts r 0 r.params [] (rest_all r.params) tt))

-- what holds of entries implies what is weaker
holds_more : (P Q : List ℕ → Meant → Type 0) (scope : Scope) → ((key : List ℕ) (meant : Meant) → P key meant → Q key meant) → Holds P scope → Holds Q scope
holds_more P Q [] f all = tt
holds_more P Q (e ∷ es) f all = (f e.0 e.1 all.0, holds_more P Q es f all.1)

-- a datum of a module is not a routine
pub no_routine : (c : Tally) (scalar pers : Bool) → (after_by c scalar pers).routines ≡ c.routines
no_routine c true pers = refl
no_routine c false true = refl
no_routine c false false = refl

module _ (A : Fact) where
  -- an item of the module with this number
  pub record ItemEntry (local : Bool) (number : ℕ) (key : List ℕ) (meant : Meant) : Type 0 where
    pub c : Tally
    pub item : PlainItem
    pub holds : A number c item
    pub of_scope : is_local item ≡ local
    pub named : key ≡ str_to_ascii_lowercase (item_name item).text
    pub means : meant ≡ item_meant c item

  -- an item of some module that is not LOCAL
  abbrev pub TaskEntry : List ℕ → Meant → Type 0
  TaskEntry key meant = (number : ℕ) × ItemEntry false number key meant

  -- a parameter or a datum of the routine with this number
  pub record InnerEntry (routine : ℕ) (key : List ℕ) (meant : Meant) : Type 0 where
    pub number : ℕ
    pub c : Tally
    pub r : PlainRoutine
    pub holds : A number c (Routine r)
    pub is_it : c.routines ≡ routine
    pub entry : PlaceEntry c.consts r key meant

  own_if : (number : ℕ) (c : Tally) (item : PlainItem) (scope : Scope) (b : Bool) → is_local item ≡ b → A number c item → Holds (ItemEntry true number) scope →
      Holds (ItemEntry true number) (if b then declare (item_name item).text (item_meant c item) scope else scope)
  own_if number c item scope true is h all =
      holds_declare (ItemEntry true number) (item_name item).text (item_meant c item) scope (record { c = c; item = item; holds = h; of_scope = is; named = refl; means = refl }) all
  own_if number c item scope false is h all = all

  own_entered : (number : ℕ) (c : Tally) (items : List PlainItem) (scope : Scope) → AllItems A number c items → Holds (ItemEntry true number) scope → Holds (ItemEntry true number) (own_items c items scope)
  own_entered number c [] scope h all = all
  own_entered number c (item ∷ items) scope h all =
      own_entered number (after_item c item) items _ h.1 (own_if number c item scope (is_local item) refl h.0 all)

  pub own_scopes_entered : (number : ℕ) (c : Tally) (ms : List PlainModule) → AllModules A number c ms → EachHolds (ItemEntry true) number (own_scopes c ms)
  own_scopes_entered number c [] h = tt
  own_scopes_entered number c (m ∷ ms) h = (own_entered number c m.items [] h.0 tt, own_scopes_entered (number + 1) (after_items c m.items) ms h.1)

  task_if : (number : ℕ) (c : Tally) (item : PlainItem) (scope : Scope) (b : Bool) → is_local item ≡ b → A number c item → Holds TaskEntry scope →
      Holds TaskEntry (if b then scope else declare (item_name item).text (item_meant c item) scope)
  task_if number c item scope true is h all = all
  task_if number c item scope false is h all =
      holds_declare TaskEntry (item_name item).text (item_meant c item) scope (number, record { c = c; item = item; holds = h; of_scope = is; named = refl; means = refl }) all

  task_entered : (number : ℕ) (c : Tally) (items : List PlainItem) (scope : Scope) → AllItems A number c items → Holds TaskEntry scope → Holds TaskEntry (task_items c items scope)
  task_entered number c [] scope h all = all
  task_entered number c (item ∷ items) scope h all =
      task_entered number (after_item c item) items _ h.1 (task_if number c item scope (is_local item) refl h.0 all)

  pub task_scope_entered : (number : ℕ) (c : Tally) (ms : List PlainModule) (scope : Scope) → AllModules A number c ms → Holds TaskEntry scope → Holds TaskEntry (task_scope c ms scope)
  task_scope_entered number c [] scope h all = all
  task_scope_entered number c (m ∷ ms) scope h all =
      task_scope_entered (number + 1) (after_items c m.items) ms _ h.1 (task_entered number c m.items scope h.0 all)

  -- before the scopes of the routines that follow, those of these items
  inner_entered : (number : ℕ) (c : Tally) (items : List PlainItem) (rest : List Scope) → AllItems A number c items → EachHolds InnerEntry (after_items c items).routines rest →
      EachHolds InnerEntry c.routines (routine_scopes c items ++ rest)
  inner_entered number c [] rest h all = all
  inner_entered number c (Datum local task d at ∷ items) rest h all =
      subst (λ n. EachHolds InnerEntry n (routine_scopes (after_datum c d) items ++ rest)) (no_routine c (is_scalar_const d) (is_pers d.kind))
      (inner_entered number (after_datum c d) items rest h.1 all)
  inner_entered number c (Routine r ∷ items) rest h all = (
    holds_more (PlaceEntry c.consts r) (InnerEntry c.routines) (routine_scope c r)
        (λ key meant entry. record { number = number; c = c; r = r; holds = h.0; is_it = refl; entry = entry })
        (routine_entered c r),
    inner_entered number (after_item c (Routine r)) items rest h.1 all,
  )

  pub inner_scopes_entered : (number : ℕ) (c : Tally) (ms : List PlainModule) → AllModules A number c ms → EachHolds InnerEntry c.routines (inner_scopes c ms)
  inner_scopes_entered number c [] h = tt
  inner_scopes_entered number c (m ∷ ms) h =
      inner_entered number c m.items (inner_scopes (after_items c m.items) ms) h.0 (inner_scopes_entered (number + 1) (after_items c m.items) ms h.1)

  -- the FORs of the routine with this number
  pub record RoutineLoops (routine : ℕ) (loops : List Loop) : Type 0 where
    pub number : ℕ
    pub c : Tally
    pub r : PlainRoutine
    pub holds : A number c (Routine r)
    pub is_it : c.routines ≡ routine
    pub are : loops ≡ loops_in_routine r

  abbrev EachLoops : ℕ → List (List Loop) → Type 0
  EachLoops routine [] = Unit {0}
  EachLoops routine (loops ∷ more) = RoutineLoops routine loops × EachLoops (routine + 1) more

  loops_entered : (number : ℕ) (c : Tally) (items : List PlainItem) (rest : List (List Loop)) → AllItems A number c items → EachLoops (after_items c items).routines rest →
      EachLoops c.routines (items_loops items ++ rest)
  loops_entered number c [] rest h all = all
  loops_entered number c (Datum local task d at ∷ items) rest h all =
      subst (λ n. EachLoops n (items_loops items ++ rest)) (no_routine c (is_scalar_const d) (is_pers d.kind)) (loops_entered number (after_datum c d) items rest h.1 all)
  loops_entered number c (Routine r ∷ items) rest h all =
      (record { number = number; c = c; r = r; holds = h.0; is_it = refl; are = refl }, loops_entered number (after_item c (Routine r)) items rest h.1 all)

  all_loops_entered : (number : ℕ) (c : Tally) (ms : List PlainModule) → AllModules A number c ms → EachLoops c.routines (all_loops ms)
  all_loops_entered number c [] h = tt
  all_loops_entered number c (m ∷ ms) h =
      loops_entered number c m.items (all_loops ms) h.0 (all_loops_entered (number + 1) (after_items c m.items) ms h.1)

  loops_at : (first k : ℕ) (lists : List (List Loop)) (index : ℕ) (loop : Loop) → EachLoops first lists → slice_get (list_at lists k) index ≡ Some loop → RoutineLoops (first + k) (list_at lists k)
  loops_at first k [] index loop all is = absurd (cc)
  loops_at first zero (loops ∷ more) index loop all is = let e : first ≡ first + zero = omega arith in subst (λ n. RoutineLoops n loops) e all.0
  loops_at first (suc k) (loops ∷ more) index loop all is =
      let e : (first + 1) + k ≡ first + suc k = omega arith in subst (λ n. RoutineLoops n (list_at more k)) e (loops_at (first + 1) k more index loop all.1 is)

  -- a FOR is one of its routine's
  pub loops_there : (modules : List PlainModule) → AllModules A 0 no_counts modules → (routine index : ℕ) (loop : Loop) → slice_get (list_at (all_loops modules) routine) index ≡ Some loop →
      RoutineLoops routine (list_at (all_loops modules) routine)
  loops_there modules h routine index loop is =
      let e : 0 + routine ≡ routine = omega arith in
      subst (λ n. RoutineLoops n (list_at (all_loops modules) routine)) e (loops_at 0 routine (all_loops modules) index loop (all_loops_entered 0 no_counts modules h) is)

-- the nearest FOR with the variable, from this one outward
pub record LoopFound (key : List ℕ) (loops : List Loop) (k : ℕ) (innermost : Option ℕ) : Type 0 where
  pub loop : Loop
  pub nearer : List ℕ
  pub is : slice_get loops k ≡ Some loop
  pub named : key ≡ loop.name
  pub stands : StandsInFor loops key k innermost nearer

module _ (key : List ℕ) (loops : List Loop) (k : ℕ) where
  found_by_name : (n : ℕ) (loop : Loop) (rest : Option ℕ) (b : Bool) → bytes_eq key loop.name ≡ b → slice_get loops n ≡ Some loop → (if b then Some n else rest) ≡ Some k → (rest ≡ Some k → LoopFound key loops k loop.outer)
      → LoopFound key loops k (Some n)
  found_by_name n loop rest true same is e later =
      let here : n ≡ k = cc in record { loop = loop; nearer = []; is = subst (λ m. slice_get loops m ≡ Some loop) here is; named = (bytes_eq-Decides key loop.name).0 same; stands = e }
  found_by_name n loop rest false differ is e later =
      let f = later e in
      let other : key ≢ loop.name = λ named. true≢false (sym ((bytes_eq-Decides key loop.name).1 named) ∙ differ) in
      record { loop = f.loop; nearer = n ∷ f.nearer; is = f.is; named = f.named; stands = (refl, loop, is, other, f.stands) }

  found_further : (n : ℕ) (o : Option Loop) (further : Option ℕ → Option ℕ) → slice_get loops n ≡ o → named_or key n o further ≡ Some k → ((at : Option ℕ) → further at ≡ Some k → LoopFound key loops k at) → LoopFound key loops k (Some n)
  found_further n None further is e later = absurd (cc)
  found_further n (Some loop) further is e later = found_by_name n loop (further loop.outer) (bytes_eq key loop.name) refl is e (later loop.outer)

  pub loop_found : (steps : ℕ) (at : Option ℕ) → loop_named steps key loops at ≡ Some k → LoopFound key loops k at
  loop_found zero at e = absurd (cc)
  loop_found (suc steps) None e = absurd (cc)
  loop_found (suc steps) (Some n) e = found_further n (slice_get loops n) (loop_named steps key loops) refl e (loop_found steps)

-- a signal of the script
pub record SignalEntry (signals : List SignalRow) (key : List ℕ) (meant : Meant) : Type 0 where
  pub k : ℕ
  pub row : SignalRow
  pub is_row : slice_get signals k ≡ Some row
  pub named : key ≡ str_to_ascii_lowercase row.name
  pub means : meant ≡ meants.Signal k

pub signals_entered : (signals : List SignalRow) (number : ℕ) (rows : List SignalRow) (scope : Scope) → Rest signals number rows → Holds (SignalEntry signals) scope → Holds (SignalEntry signals) (signal_scope number rows scope)
signals_entered signals number [] scope rest all = all
signals_entered signals number (row ∷ rows) scope rest all =
    signals_entered signals (number + 1) rows _ (rest_more signals number row rows rest)
    (holds_declare (SignalEntry signals) row.name (meants.Signal number) scope
    (record { k = number; row = row; is_row = rest_first signals number row rows rest; named = refl; means = refl }) all)
