-- Each declaration of a task's modules has its row in the typed tree.
use Rattle.std.proofs.Common.{◌≡◌, ℕ, zero, suc, ◌+◌, ◌-◌, ◌≤◌, Bool, true, false, ◌||◌, nat_lt, nat_le, List, [], ◌∷◌, length, Some, None, Ok, slice_get, is_some, refl, sym, ap, subst, ◌∙◌, if◌then◌else◌, arith}
use Rattle.std.specs.Option.{option_and_then, option_map}
use Rattle.std.proofs.lemmas.Bool.{le-ltb}
use Rattle.rapid_limits.specs.declared.TheConstants.{MOST_VALUES}
use Rattle.raw_trees.specs.Plain.{PlainDatum, PlainParam, PlainRoutine, PlainItem, PlainModule, Datum, Routine}
use Rattle.rapid_model.specs.declared.signal_row.SignalRow.{SignalRow}
use Rattle.typed_trees.specs.Plain.{TypedLocal, TypedRoutine, TypedSlot, TypedPers, TypedTree}
use Rattle.rule_checks.specs.Checks.{must}
use Rattle.rule_checks.specs.declared.rule.TypeRule.TheVariants.{DataRange}
use Rattle.rule_checks.proofs.Steps.{behind, ok_same}
use Rattle.data_scopes.specs.declared.data_row.DatumRow.{DatumRow}
use Rattle.data_scopes.specs.declared.data_row.ParamRow.{ParamRow}
use Rattle.data_scopes.specs.Called.{local_of, params_in, own_row, value_row}
use Rattle.data_scopes.specs.Declarations.{spot_of, modules_rules}
use Rattle.data_scopes.specs.Naming.{names_of}
use Rattle.data_scopes.specs.Numbers.{Tally, is_pers, is_scalar_const, no_counts, tables_of}
use Rattle.data_scopes.specs.Rows.{item_rows, items_rows, modules_rows, no_rows}
use Rattle.data_scopes.specs.Scopes.{Names, RoutineRow, Rows, Tables, list_at}
use Rattle.named_data.specs.Rules.{at_byte}
use Rattle.decl_types.specs.Data.{Progress, sort_in, beginning, item, items, data_of}
use Rattle.task_types.specs.Task.{task_of, typed_params, item_bodies, items_bodies, bodies, main_or, top, main_among, routines_of, tree_of}
use Rattle.name_laws.specs.Declared.{StandsIn, IsType, IsResultType, AreEach}
use Rattle.name_laws.specs.Rows.{IsSlotRow, IsPersRow, IsParamRow, IsLocalRow, IsRoutineRow}
use Rattle.data_scopes.specs.Meetings.{is_meeting}
use Rattle.data_scopes.proofs.Within.{after_modules}
use Rattle.name_laws.specs.Meetings.{IsMeeting}
use Rattle.name_laws.proofs.Meetings.{AreAlike, meeting_known}
use Rattle.name_laws.proofs.Items.{Fact, IsFront, AllModules, Rest, Stands, modules_made, modules_stand, modules_walked, rest_all, rest_first, rest_more}
use Rattle.name_laws.proofs.Declarations as declared
use Rattle.name_laws.proofs.Data as data_are
use Rattle.name_laws.proofs.Bodies as bodies_are

pub each_length : {A B : Type 0} (R : A → B → Type 0) (xs : List A) (ys : List B) → AreEach R xs ys → length xs ≡ length ys
each_length R [] [] h = refl
each_length R [] (y ∷ ys) h = absurd h
each_length R (x ∷ xs) [] h = absurd h
each_length R (x ∷ xs) (y ∷ ys) h = ap suc (each_length R xs ys h.1)

list_there : {A : Type 0} (lists : List (List A)) (k : ℕ) (list : List A) → slice_get lists k ≡ Some list → list_at lists k ≡ list
list_there [] k list is = absurd (cc)
list_there (x ∷ xs) zero list is = cc
list_there (x ∷ xs) (suc k) list is = list_there xs k list is

-- the data come after the parameters
place_found : (row : RoutineRow) (n index : ℕ) → n ≡ length row.params → own_row row (n + index) ≡ slice_get row.locals index
place_found row n index as_many =
    let le : length row.params ≤ n + index = omega (arith, as_many) in
    let past : nat_lt (n + index) (length row.params) ≡ false = le-ltb (n + index) (length row.params) le in
    let left : (n + index) - length row.params ≡ index = omega (arith, as_many) in
    ap (λ b. if b then option_map value_row (slice_get row.params (n + index)) else slice_get row.locals ((n + index) - length row.params)) past
    ∙ ap (slice_get row.locals) left

module _ (tables : Tables) (number around : ℕ) where
  params_rows : (ps : List PlainParam) (rows : List ParamRow) → AreEach (declared.IsParam tables number around) ps rows → AreEach (IsParamRow tables number around) ps (typed_params ps rows)
  params_rows [] [] h = tt
  params_rows [] (row ∷ rows) h = absurd h
  params_rows (p ∷ ps) [] h = absurd h
  params_rows (p ∷ ps) (row ∷ rows) h = (record { name = refl; mode = h.0.mode; sort = h.0.sort }, params_rows ps rows h.1)

  module _ (rows : Rows) (row : RoutineRow) (n : ℕ) (found : slice_get rows.routines around ≡ Some row) (as_many : n ≡ length row.params) where
    pub local_sort : (index : ℕ) (d : DatumRow) → slice_get row.locals index ≡ Some d → sort_in (local_of rows (Some around) (n + index)) ≡ d.sort
    local_sort index d is =
        ap (λ o. sort_in (option_and_then (λ r. own_row r (n + index)) o)) found
        ∙ ap sort_in (place_found row n index as_many ∙ is)

    locals_rows : (index : ℕ) (ds : List PlainDatum) (found_rows : List DatumRow) (ts : List TypedLocal) → Rest row.locals index found_rows →
        AreEach (declared.IsDatumRow tables number (Some around)) ds found_rows → data_are.AreLocalsOf rows around (n + index) ds ts → AreEach (IsLocalRow tables number around) ds ts
    locals_rows index [] found_rows [] rest h k = tt
    locals_rows index [] found_rows (t ∷ ts) rest h k = absurd k
    locals_rows index (d ∷ ds) found_rows [] rest h k = absurd k
    locals_rows index (d ∷ ds) [] (t ∷ ts) rest h k = absurd h
    locals_rows index (d ∷ ds) (f ∷ fs) (t ∷ ts) rest h k =
        let e : (n + index) + 1 ≡ n + (index + 1) = omega arith in
        let sort : t.sort ≡ f.sort = ap (λ x. x.sort) k.0.is ∙ local_sort index f (rest_first row.locals index f fs rest) in (
          record {
            name = ap (λ x. x.name) k.0.is;
            variable = ap (λ x. x.variable) k.0.is;
            sort = subst (IsType tables (spot_of number (Some around) d.sort) d.sort) (sym sort) h.0;
            array = ap (λ x. is_some x.len) k.0.is ∙ k.0.array;
          },
          locals_rows (index + 1) ds fs ts (rest_more row.locals index f fs rest) h.1 (subst (λ m. data_are.AreLocalsOf rows around m ds ts) e k.1),
        )

module _ (tables : Tables) (slots : List TypedSlot) (pers : List TypedPers) (routines : List TypedRoutine) where
  pub record PersIn (number : ℕ) (c : Tally) (own : Bool) (d : PlainDatum) : Type 0 where
    pub row : TypedPers
    pub has_row : slice_get pers c.pers ≡ Some row
    pub is_row : IsPersRow tables number own d row

  pub record SlotIn (number : ℕ) (c : Tally) (d : PlainDatum) : Type 0 where
    pub row : TypedSlot
    pub has_row : slice_get slots c.slots ≡ Some row
    pub is_row : IsSlotRow tables number d row

  abbrev pub DatumIn : ℕ → Tally → Bool → PlainDatum → Bool → Bool → Type 0
  DatumIn number c own d true is_a_pers = Unit {0}
  DatumIn number c own d false true = PersIn number c own d
  DatumIn number c own d false false = SlotIn number c d

  pub record RoutineIn (number : ℕ) (c : Tally) (r : PlainRoutine) : Type 0 where
    pub row : TypedRoutine
    pub has_row : slice_get routines c.routines ≡ Some row
    pub is_row : IsRoutineRow tables number c.routines r row

  abbrev pub HasRow : Fact
  HasRow number c (Datum local task d at) = DatumIn number c (local || task) d (is_scalar_const d) (is_pers d.kind)
  HasRow number c (Routine r) = RoutineIn number c r

  -- where it is, and its row
  abbrev pub IsInTree : List PlainModule → Fact
  IsInTree modules number c item = StandsIn modules number item × HasRow number c item

module _ (tables : Tables) (rows : Rows) (p : Progress) (routines : List TypedRoutine) (same : p.names.rows ≡ rows) where
  datum_made : (number : ℕ) (c : Tally) (own : Bool) (d : PlainDatum) (scalar pers : Bool) → is_scalar_const d ≡ scalar → is_pers d.kind ≡ pers →
      declared.DatumIn tables rows number c d scalar pers → data_are.DatumIn rows p number c own d scalar pers → DatumIn tables p.slots p.pers routines number c own d scalar pers
  datum_made number c own d true pers is so h k = tt
  datum_made number c own d false true is so (row, found, typed) k =
      record {
        row = _;
        has_row = k.is;
        is_row = record {
          persistent = so;
          name = refl;
          «module» = refl;
          at = refl;
          own = refl;
          sort = subst (IsType tables (spot_of number None d.sort) d.sort) (sym (ap sort_in found)) typed;
          array = k.array;
        };
      }
  datum_made number c own d false false is so (row, found, typed) k =
      record {
        row = _;
        has_row = k.is;
        is_row = record {
          no_constant = is;
          no_persistent = so;
          name = refl;
          variable = refl;
          sort = subst (IsType tables (spot_of number None d.sort) d.sort) (sym (ap sort_in found)) typed;
          array = k.array;
        };
      }

  routine_made : (number : ℕ) (c : Tally) (r : PlainRoutine) → declared.RowIn tables rows number c (Routine r) → data_are.LocalsIn rows p c r →
      bodies_are.RoutineIn p.names p.locals routines number c r → RoutineIn tables p.slots p.pers routines number c r
  routine_made number c r (row, found, typed) k b =
      let t = b.row in
      let there : slice_get p.names.rows.routines c.routines ≡ Some row = ap (λ rs. slice_get rs.routines c.routines) same ∙ found in
      let result : t.result ≡ row.result = b.head.result ∙ ap (option_and_then (λ x. x.result)) there in
      let params : t.params ≡ typed_params r.params row.params = b.head.params ∙ ap (λ o. typed_params r.params (params_in o)) there in
      let locals : t.locals ≡ k.ts = b.head.data_are ∙ list_there p.locals c.routines k.ts k.is in
      let as_many : length r.params ≡ length row.params = each_length (declared.IsParam tables number c.routines) r.params row.params typed.params in
      let e : length r.params ≡ length r.params + 0 = omega arith in
      let each : AreEach (IsLocalRow tables number c.routines) r.locals k.ts =
      locals_rows tables number c.routines rows row (length r.params) found as_many 0 r.locals row.locals k.ts (rest_all row.locals) typed.locals
      (subst (λ m. data_are.AreLocalsOf rows c.routines m r.locals k.ts) e k.each) in
      record {
        row = t;
        has_row = b.is;
        is_row = record {
          name = b.head.name;
          «module» = b.head.«module»;
          at = b.head.at;
          kind = b.head.kind;
          loops = b.head.loops;
          result = subst (IsResultType tables (spot_of number (Some c.routines)) r.result) (sym result) typed.result;
          params = subst (AreEach (IsParamRow tables number c.routines) r.params) (sym params) (params_rows tables number c.routines r.params row.params typed.params);
          locals = subst (AreEach (IsLocalRow tables number c.routines) r.locals) (sym locals) each;
        };
      }

  -- the rows of names and of data, and those of routines
  abbrev Both : Fact
  Both number c item = declared.RowIn tables rows number c item × data_are.RowIn rows p number c item

  row_made : (number : ℕ) (c : Tally) (item : PlainItem) → Both number c item → bodies_are.RowIn p.names p.locals routines number c item → HasRow tables p.slots p.pers routines number c item
  row_made number c (Datum local task d at) h b = datum_made number c (local || task) d (is_scalar_const d) (is_pers d.kind) refl refl h.0 h.1
  row_made number c (Routine r) h b = routine_made number c r h.0 h.1 b

  rows_made : (modules : List PlainModule) → AllModules (declared.RowIn tables rows) 0 no_counts modules → AllModules (data_are.RowIn rows p) 0 no_counts modules →
      AllModules (bodies_are.RowIn p.names p.locals routines) 0 no_counts modules → AllModules (IsInTree tables p.slots p.pers routines modules) 0 no_counts modules
  rows_made modules named held run =
      let both = modules_made (declared.RowIn tables rows) (data_are.RowIn rows p) Both (λ number c item a b. (a, b)) 0 no_counts modules named held in
      let all = modules_made Both (bodies_are.RowIn p.names p.locals routines) (HasRow tables p.slots p.pers routines) row_made 0 no_counts modules both run in
      modules_made (Stands modules) (HasRow tables p.slots p.pers routines) (IsInTree tables p.slots p.pers routines modules) (λ number c item a b. (a, b)) 0 no_counts modules
      (modules_stand modules 0 no_counts modules (rest_all modules)) all

-- the tree of checked modules, as far as rows go
pub record Checked (modules : List PlainModule) (signals : List SignalRow) (axes : ℕ) (tree : TypedTree) : Type 0 where
  pub names : Names
  pub named : names_of modules signals axes ≡ Ok names
  pub meets : (k : ℕ) → is_meeting (slice_get names.rows.slots k) ≡ true → IsMeeting tree.slots tree.meetings names.rows.slots k
  pub all : AllModules (IsInTree (tables_of modules signals) tree.slots tree.pers tree.routines modules) 0 no_counts modules

none_alike : (rows : List DatumRow) → AreAlike [] rows
none_alike rows k row is = absurd (cc)

-- the rows of names, one for each declaration
pub record HaveRows (modules : List PlainModule) (signals : List SignalRow) (rows : Rows) : Type 0 where
  pub counted : (after_modules no_counts modules).slots ≡ length rows.slots
  pub all : AllModules (declared.RowIn (tables_of modules signals) rows) 0 no_counts modules

pub rows_of_names : (modules : List PlainModule) (signals : List SignalRow) (axes : ℕ) (names : Names) → names_of modules signals axes ≡ Ok names → HaveRows modules signals names.rows
rows_of_names modules signals axes names e =
    let tables = tables_of modules signals in
    let P : Type 0 = HaveRows modules signals names.rows in
    behind P names (modules_rules tables 0 [] no_counts modules) _ e (λ u is rest.
    behind P names (modules_rows tables 0 modules no_rows) _ rest (λ rows found done.
    let after = modules_walked Rows (item_rows tables) (items_rows tables) (modules_rows tables) (declared.AreCounted tables) (declared.Grow tables) (declared.RowIn tables) (declared.rows_walk tables)
    0 no_counts modules no_rows rows (record { slots = refl; pers = refl; routines = refl }) found in
    subst (HaveRows modules signals) (ap (λ n. n.rows) (ok_same _ names done)) (record { counted = after.counted.slots; all = after.all })))

pub task_checked : (modules : List PlainModule) (tasks : List (List ℕ)) (signals : List SignalRow) (axes : ℕ) (tree : TypedTree) → task_of modules tasks signals axes ≡ Ok tree → Checked modules signals axes tree
task_checked modules tasks signals axes tree e =
    let P : Type 0 = Checked modules signals axes tree in
    let tables = tables_of modules signals in
    behind P tree (names_of modules signals axes) _ e (λ names named rest.
    behind P tree (data_of 0 modules (beginning names)) _ rest (λ p held more.
    behind P tree (bodies p.names p.locals 0 modules []) _ more (λ routines run left.
    behind P tree (main_or (top p.names) (main_among (routines_of modules))) _ left (λ main runs last.
    behind P tree (must (nat_le p.values MOST_VALUES) (at_byte (top p.names) 0 DataRange)) _ last (λ u few done.
    let rows = names.rows in
    let have = rows_of_names modules signals axes names named in
    let data_after = modules_walked Progress item items data_of (data_are.AreCounted rows) (data_are.Grow rows) (data_are.RowIn rows) (data_are.data_walk rows)
    0 no_counts modules (beginning names) p (record { slots = refl; pers = refl; routines = refl; same = refl; alike = none_alike rows.slots }) held in
    let bodies_after = modules_walked (List TypedRoutine) (item_bodies p.names p.locals) (items_bodies p.names p.locals) (bodies p.names p.locals)
    (bodies_are.AreCounted p.names p.locals) IsFront (bodies_are.RowIn p.names p.locals) (bodies_are.bodies_walk p.names p.locals)
    0 no_counts modules [] routines refl run in
    subst (Checked modules signals axes) (ok_same (tree_of modules tasks axes p routines main) tree done) (record {
      names = names;
      named = named;
      all = rows_made tables rows p routines data_after.counted.same modules have.all data_after.all bodies_after.all;
      meets = λ k meets. meeting_known p.slots rows.slots k data_after.counted.alike (sym data_after.counted.slots ∙ have.counted) meets;
    }))))))

pub meetings_checked : (modules : List PlainModule) (tasks : List (List ℕ)) (signals : List SignalRow) (axes : ℕ) (tree : TypedTree) (names : Names) → names_of modules signals axes ≡ Ok names → task_of modules tasks signals axes ≡ Ok tree →
    (k : ℕ) → is_meeting (slice_get names.rows.slots k) ≡ true → IsMeeting tree.slots tree.meetings names.rows.slots k
meetings_checked modules tasks signals axes tree names named is =
    let checked = task_checked modules tasks signals axes tree is in
    subst (λ n. (k : ℕ) → is_meeting (slice_get n.rows.slots k) ≡ true → IsMeeting tree.slots tree.meetings n.rows.slots k) (ok_same checked.names names (sym checked.named ∙ named)) checked.meets
