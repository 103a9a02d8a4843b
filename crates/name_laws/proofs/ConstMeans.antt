-- Which CONST each number that a name means is.
use Rattle.std.proofs.Common.{◌≡◌, inl, inr, ℕ, zero, suc, ◌+◌, ◌<◌, Bool, true, false, List, [], length, replicate, Option, Some, None, Ok, slice_get, refl, sym, ap, subst, ◌∙◌, if◌then◌else◌, arith}
use Rattle.std.specs.Str.{str_to_ascii_lowercase}
use Rattle.raw_trees.specs.Plain.{PlainDatum, PlainName, PlainRoutine, PlainItem, PlainModule, Datum, Routine}
use Rattle.rapid_model.specs.declared.mode.Mode.{Mode}
use Rattle.rapid_model.specs.declared.mode.Mode.TheVariants as modes
use Rattle.rapid_model.specs.declared.signal_row.SignalRow.{SignalRow}
use Rattle.rapid_model.specs.declared.sort.Sort.{Sort}
use Rattle.rapid_model.specs.declared.value.Value.{Value}
use Rattle.rule_checks.proofs.Steps.{behind, ok_same}
use Rattle.rule_checks.specs.declared.spot.Spot.{Spot}
use Rattle.typed_trees.specs.Plain.{TypedTree}
use Rattle.data_scopes.specs.declared.meant.Meant.{Meant}
use Rattle.data_scopes.specs.declared.meant.Meant.TheVariants as meants
use Rattle.data_scopes.specs.Called.{local_of}
use Rattle.data_scopes.specs.Declarations.{modules_rules, spot_of, type_of}
use Rattle.data_scopes.specs.Naming.{names_of}
use Rattle.data_scopes.specs.Numbers.{Tally, is_pers, is_scalar_const, item_meant, no_counts, param_meant, tables_of}
use Rattle.data_scopes.specs.Rows.{item_rows, items_rows, modules_rows, no_rows}
use Rattle.data_scopes.specs.Scopes.{Names, Rows, Tables, meaning}
use Rattle.decl_types.specs.Data.{Progress, beginning, data_of, item, items, sort_in}
use Rattle.task_types.specs.Task.{task_of}
use Rattle.name_laws.specs.Constants.{HasItsValue, IsConst}
use Rattle.name_laws.specs.Declared.{IsSeen, IsType}
use Rattle.name_laws.proofs.ConstRows as rows_are
use Rattle.name_laws.proofs.ConstRows.{consts_before}
use Rattle.name_laws.proofs.ConstValues as values_are
use Rattle.name_laws.proofs.Constants.{constants_kept}
use Rattle.name_laws.proofs.Declarations as declared
use Rattle.name_laws.proofs.Items.{AllModules, Fact, modules_made, modules_walked}
use Rattle.name_laws.proofs.Means.{partner}
use Rattle.name_laws.proofs.Seen.{PlaceEntry}
use Rattle.name_laws.proofs.Sources.{sources_such}
use Rattle.name_laws.proofs.Tree.{IsInTree, each_length, local_sort, rows_of_names, task_checked}

-- a name means one type at a spot
type_one : (tables : Tables) (spot : Spot) (name : PlainName) (a b : Sort) → IsType tables spot name a → IsType tables spot name b → a ≡ b
type_one tables spot name a b is other =
    let same : is.meant ≡ other.meant = cc (sym is.means ∙ other.means) in
    let both : Some a ≡ Some b = sym is.is_type ∙ ap type_of same ∙ other.is_type in
    cc both

-- names that are found, and the rows of their CONSTs
consts_of_names : (modules : List PlainModule) (signals : List SignalRow) (axes : ℕ) (names : Names) → names_of modules signals axes ≡ Ok names → AllModules (rows_are.RowIn (tables_of modules signals) names.rows) 0 no_counts modules
consts_of_names modules signals axes names e =
    let tables = tables_of modules signals in
    let P : Type 0 = AllModules (rows_are.RowIn tables names.rows) 0 no_counts modules in
    behind P names (modules_rules tables 0 [] no_counts modules) _ e (λ u is rest.
    behind P names (modules_rows tables 0 modules no_rows) _ rest (λ rows found done.
    let after = modules_walked Rows (item_rows tables) (items_rows tables) (modules_rows tables) (rows_are.AreCounted tables) (rows_are.Grow tables) (rows_are.RowIn tables) (rows_are.consts_walk tables)
    0 no_counts modules no_rows rows (record { consts = refl; routines = refl }) found in
    subst (λ (n : Names). AllModules (rows_are.RowIn tables n.rows) 0 no_counts modules) (ok_same _ names done) after.all))

module _ (modules : List PlainModule) (signals : List SignalRow) (tree : TypedTree) (names : Names) (p : Progress) (same : p.names.rows ≡ names.rows) (spot : Spot) (name : List ℕ) where
  abbrev tables : Tables
  tables = tables_of modules signals

  -- what is known of an item
  record Known (number : ℕ) (c : Tally) (item : PlainItem) : Type 0 where
    pub in_tree : IsInTree (tables_of modules signals) tree.slots tree.pers tree.routines modules number c item
    pub named : declared.RowIn (tables_of modules signals) names.rows number c item
    pub row : rows_are.RowIn (tables_of modules signals) names.rows number c item
    pub value : values_are.ValueIn names.rows p number c item

  -- a number that is a CONST's, and has a place among the values
  abbrev Q : Meant → Type 0
  Q (meants.Const k) = k < length p.names.kept → IsConst modules signals tree p.names spot name k
  Q _ = Unit {0}

  datum_const : (number : ℕ) (c : Tally) (local task : Bool) (d : PlainDatum) (at : ℕ) (scalar pers : Bool) → IsSeen modules spot name number (Datum local task d at) → rows_are.DatumIn tables names.rows number c d scalar
      → values_are.DatumIn names.rows p number c d scalar → Q (if scalar then meants.Const c.consts else if pers then meants.Pers c.pers else meants.Slot c.slots)
  datum_const number c local task d at true pers seen h v = λ within. inl (record {
    number = number;
    local = local;
    task = task;
    d = d;
    at = at;
    row = h.row;
    seen = seen;
    has_row = ap (λ (rs : Rows). slice_get rs.consts c.consts) same ∙ h.is;
    is_row = h.is_row;
    has_value = subst (HasItsValue p.names c.consts number None d) (ap sort_in h.is) (v.1 within);
  })
  datum_const number c local task d at false true seen h v = tt
  datum_const number c local task d at false false seen h v = tt

  item_const : (number : ℕ) (c : Tally) (item : PlainItem) → Known number c item → IsSeen modules spot name number item → Q (item_meant c item)
  item_const number c (Datum local task d at) h seen = datum_const number c local task d at (is_scalar_const d) (is_pers d.kind) seen h.row h.value
  item_const number c (Routine r) h seen = tt

  param_const : (index : ℕ) (mode : Mode) → Q (param_meant index mode)
  param_const index modes.Value = tt
  param_const index modes.Inout = tt
  param_const index modes.Var = tt
  param_const index modes.Pers = tt

  -- a datum of a routine has the type of its row
  local_is : (number : ℕ) (c : Tally) (r : PlainRoutine) (index : ℕ) (d : PlainDatum) (sort : Sort) → declared.RowIn tables names.rows number c (Routine r) → slice_get r.locals index ≡ Some d
      → IsType tables (spot_of number (Some c.routines) d.sort) d.sort sort → sort_in (local_of names.rows (Some c.routines) (length r.params + index)) ≡ sort
  local_is number c r index d sort (row, found, typed) there is =
      let as_many : length r.params ≡ length row.params = each_length (declared.IsParam tables number c.routines) r.params row.params typed.params in
      let other = partner (declared.IsDatumRow tables number (Some c.routines)) r.locals row.locals index d typed.locals there in
      local_sort tables number c.routines names.rows row (length r.params) found as_many index other.y other.is
      ∙ type_one tables (spot_of number (Some c.routines) d.sort) d.sort other.y.sort sort other.such is

  local_const : (number : ℕ) (c : Tally) (r : PlainRoutine) → Known number c (Routine r) → spot.routine ≡ Some c.routines → (index consts : ℕ) (d : PlainDatum) → slice_get r.locals index ≡ Some d → str_to_ascii_lowercase name ≡ str_to_ascii_lowercase d.name.text
      → consts ≡ c.consts + consts_before index r.locals → (scalar : Bool) → is_scalar_const d ≡ scalar → Q (if scalar then meants.Const consts else meants.Local (length r.params + index))
  local_const number c r h is index consts d there named counted true scalar = λ within.
      let row = h.row index d there scalar in
      let value = h.value.values index d there scalar (subst (λ n. n < length p.names.kept) counted within) in
      let in_tree = h.in_tree in
      subst (IsConst modules signals tree p.names spot name) (sym counted) (inr (record {
        inside = record { routine = c.routines; number = number; r = r; row = in_tree.1.row; is_inside = is; stands = in_tree.0; has_row = in_tree.1.has_row; is_row = in_tree.1.is_row };
        index = index;
        d = d;
        row = row.row;
        is_datum = there;
        named = named;
        has_row = ap (λ (rs : Rows). slice_get rs.consts (c.consts + consts_before index r.locals)) same ∙ row.is;
        is_row = row.is_row;
        has_value = subst (HasItsValue p.names (c.consts + consts_before index r.locals) number (Some c.routines) d) (local_is number c r index d row.row.sort h.named there row.is_row.sort) value;
      }))
  local_const number c r h is index consts d there named counted false scalar = tt

  place_const : (number : ℕ) (c : Tally) (r : PlainRoutine) → Known number c (Routine r) → spot.routine ≡ Some c.routines → (meant : Meant) → PlaceEntry c.consts r (str_to_ascii_lowercase name) meant → Q meant
  place_const number c r h is meant (inl e) = subst Q (sym e.means) (param_const e.index e.p.mode)
  place_const number c r h is meant (inr e) = subst Q (sym e.means) (local_const number c r h is e.index e.consts e.d e.is_datum e.named e.counted (is_scalar_const e.d) refl)

  const_is : AllModules Known 0 no_counts modules → (k : ℕ) → meaning tables spot name ≡ Some (meants.Const k) → k < length p.names.kept → IsConst modules signals tree p.names spot name k
  const_is all k means =
      sources_such modules signals spot name Known all (λ number c item h. h.in_tree.0) Q
      (record { items = item_const; places = place_const; loops = λ number c r h is k loop there named nearer stands. tt; script = λ k row there named. tt })
      (record { instructions = λ i. tt; functions = λ f. tt; predefined = λ q. tt }) (meants.Const k) means

all_none : {A : Type 0} (n j : ℕ) (value : Option A) → slice_get (replicate n None) j ≡ Some value → value ≡ None
all_none zero j value at = absurd (cc at)
all_none (suc n) zero value at = let e : None ≡ value = cc at in sym e
all_none (suc n) (suc j) value at = all_none n j value at

-- at first no value is kept
none_kept : (modules : List PlainModule) (signals : List SignalRow) (axes : ℕ) (names : Names) → names_of modules signals axes ≡ Ok names → (j : ℕ) (value : Option Value) → slice_get names.kept j ≡ Some value → value ≡ None
none_kept modules signals axes names e =
    let tables = tables_of modules signals in
    let P : Type 0 = (j : ℕ) (value : Option Value) → slice_get names.kept j ≡ Some value → value ≡ None in
    behind P names (modules_rules tables 0 [] no_counts modules) _ e (λ u is rest.
    behind P names (modules_rows tables 0 modules no_rows) _ rest (λ rows found done.
    subst (λ (n : Names). (j : ℕ) (value : Option Value) → slice_get n.kept j ≡ Some value → value ≡ None) (ok_same _ names done) (λ j value at. all_none (length rows.consts) j value at)))

-- the number of a CONST is that of its declaration, its row and its value
pub consts_are : (modules : List PlainModule) (tasks : List (List ℕ)) (signals : List SignalRow) (axes : ℕ) (tree : TypedTree) (names : Names) (p : Progress) → task_of modules tasks signals axes ≡ Ok tree → names_of modules signals axes ≡ Ok names
    → data_of 0 modules (beginning names) ≡ Ok p → (spot : Spot) (name : List ℕ) (k : ℕ) → meaning (tables_of modules signals) spot name ≡ Some (meants.Const k) → IsConst modules signals tree p.names spot name k
consts_are modules tasks signals axes tree names p is named held spot name k means =
    let tables = tables_of modules signals in
    let rows = names.rows in
    let checked = task_checked modules tasks signals axes tree is in
    let after = modules_walked Progress item items data_of (values_are.AreCounted rows) (values_are.Grow rows) (values_are.ValueIn rows) (values_are.values_walk rows) 0 no_counts modules (beginning names) p
    (record { consts = refl; routines = refl; knows = record { same = refl; above = λ j value past at. none_kept modules signals axes names named j value at } }) held in
    let same : p.names.rows ≡ names.rows = after.counted.knows.same in
    let InTree : Fact = IsInTree tables tree.slots tree.pers tree.routines modules in
    let Named : Fact = declared.RowIn tables rows in
    let Rowed : Fact = rows_are.RowIn tables rows in
    let Valued : Fact = values_are.ValueIn rows p in
    let First : Fact = λ number c item. InTree number c item × Named number c item in
    let Second : Fact = λ number c item. Rowed number c item × Valued number c item in
    let first = modules_made InTree Named First (λ number c item a b. (a, b)) 0 no_counts modules checked.all (rows_of_names modules signals axes names named).all in
    let second = modules_made Rowed Valued Second (λ number c item a b. (a, b)) 0 no_counts modules (consts_of_names modules signals axes names named) after.all in
    let all = modules_made First Second (Known modules signals tree names p same spot name) (λ number c item a b. record { in_tree = a.0; named = a.1; row = b.0; value = b.1 }) 0 no_counts modules first second in
    let within : k < length p.names.kept = omega (arith, (constants_kept modules signals axes names named spot name k means).0, after.grows.long) in
    const_is modules signals tree names p same spot name all k means within
