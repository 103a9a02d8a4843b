-- The rows of names and those of the tree's data agree, declaration by declaration; what is true of the data so far
-- stays true.
use Rattle.std.proofs.Common.{◌≡◌, ℕ, ◌+◌, ◌-◌, ◌≤◌, Bool, true, false, not, ◌||◌, nat_lt, List, [], ◌∷◌, ◌++◌, length, Option, Some, None, is_some, slice_get, refl, sym, ap, subst, ◌∙◌, if◌then◌else◌, length-append, append_assoc, arith}
use Rattle.std.specs.Option.{option_and_then, option_map}
use Rattle.std.proofs.lemmas.Bool.{le-ltb}
use Rattle.std.proofs.lemmas.List.{append-nil, length-replicate}
use Rattle.raw_trees.specs.Plain.{PlainDatum, PlainExpr, PlainItem, PlainModule, PlainParam, PlainRoutine, Datum, Routine}
use Rattle.rapid_model.specs.Sorts.{has_values}
use Rattle.rapid_model.specs.declared.sort.Sort.{Sort}
use Rattle.rapid_model.specs.declared.value.Value.{Value}
use Rattle.rapid_model.proofs.Lists.{between}
use Rattle.rapid_model.specs.Truths.{one_if}
use Rattle.typed_trees.specs.Plain.{TypedLocal, TypedPers, TypedSlot}
use Rattle.constant_meaning.specs.Constants.{Elements}
use Rattle.data_scopes.specs.declared.data_row.DatumRow.{DatumRow}
use Rattle.data_scopes.specs.declared.data_row.ParamRow.{ParamRow}
use Rattle.data_scopes.specs.declared.data_row.Since.{Since}
use Rattle.data_scopes.specs.Called.{local_of, own_row, value_row}
use Rattle.data_scopes.specs.Numbers.{is_const, is_pers, is_scalar_const}
use Rattle.data_scopes.specs.Rows.{scalar_rows, since_of, value_at, with_routine, rows_by}
use Rattle.data_scopes.specs.Scopes.{Names, RoutineRow, Rows, Tables}
use Rattle.decl_types.specs.Data.{Inner, Progress, entered, inner_row, keeping, known_elements, left, of_modules, sort_in, with_const, with_local, with_pers, with_slot}
use Rattle.decl_types.specs.Parts.{with_inner_const, with_inner_row}
use Rattle.decl_types.specs.Values.{Initial, site_of}
use Rattle.type_laws.specs.Data.{AreInitialValues, AreItemsData, AreLocalsData, AreModulesData, AreValues, ByKind, IsInitial, IsItemData, IsLen}
use Rattle.type_laws.specs.DeclaredNames.{AreItemRows, AreLocalRows, AreModuleRows, AreParamRows, IsItemRow, IsRoutineRow}
use Rattle.name_laws.specs.Declared.{AreEach}
use Rattle.name_laws.proofs.Items.{IsFront, front_more, stays, front_append}
use Rattle.name_laws.proofs.Tree.{each_length}
use Rattle.tree_typing.proofs.Rows.{at_right}
use Rattle.accepted_cells.proofs.Lists.{each_more}
use Rattle.accepted_cells.proofs.Scalars.{is_scalar, row_scalar, scalar_there, scalars_more}

-- a constant has a value, so its type has values
abbrev pub IsFixed : Bool → Sort → Type 0
IsFixed variable sort = variable ≡ false → has_values sort ≡ true

abbrev pub SlotAlike : DatumRow → TypedSlot → Type 0
SlotAlike row slot = (slot.sort ≡ row.sort) × (is_some slot.len ≡ row.array) × (slot.variable ≡ not (is_some row.since)) × IsFixed slot.variable row.sort

abbrev pub PersAlike : DatumRow → TypedPers → Type 0
PersAlike row pers = (pers.sort ≡ row.sort) × (is_some pers.len ≡ row.array)

abbrev pub LocalAlike : DatumRow → TypedLocal → Type 0
LocalAlike row local = (local.sort ≡ row.sort) × (is_some local.len ≡ row.array) × (local.variable ≡ not (is_some row.since)) × IsFixed local.variable row.sort

abbrev pub LocalsAlike : RoutineRow → List TypedLocal → Type 0
LocalsAlike row locals = AreEach LocalAlike row.locals locals

-- the same names except for the values that are kept
pub record IsLike (names other : Names) : Type 0 where
  pub tables : other.tables ≡ names.tables
  pub rows : other.rows ≡ names.rows
  pub outputs : other.outputs ≡ names.outputs
  pub axes : other.axes ≡ names.axes

keeping_like : (names other : Names) (constant : ℕ) (values : Option (List Value)) → IsLike names other → IsLike names (keeping other constant values)
keeping_like names other constant None h = h
keeping_like names other constant (Some []) h = h
keeping_like names other constant (Some (v ∷ vs)) h = record { tables = h.tables; rows = h.rows; outputs = h.outputs; axes = h.axes }

-- rows with more added after them
pub record Grows (rows more : Rows) : Type 0 where
  pub consts : IsFront rows.consts more.consts
  pub slots : IsFront rows.slots more.slots
  pub pers : IsFront rows.pers more.pers
  pub routines : IsFront rows.routines more.routines

same_grow : (rows : Rows) → Grows rows rows
same_grow rows = record { consts = stays rows.consts; slots = stays rows.slots; pers = stays rows.pers; routines = stays rows.routines }

then_grow : (a b c : Rows) → Grows a b → Grows b c → Grows a c
then_grow a b c g h = record {
  consts = λ k x is. h.consts k x (g.consts k x is);
  slots = λ k x is. h.slots k x (g.slots k x is);
  pers = λ k x is. h.pers k x (g.pers k x is);
  routines = λ k x is. h.routines k x (g.routines k x is);
}

datum_grows : (rows : Rows) (scalar pers : Bool) (row : DatumRow) → Grows rows (rows_by rows scalar pers row)
datum_grows rows true pers row = record { consts = front_more rows.consts row; slots = stays rows.slots; pers = stays rows.pers; routines = stays rows.routines }
datum_grows rows false true row = record { consts = stays rows.consts; slots = stays rows.slots; pers = front_more rows.pers row; routines = stays rows.routines }
datum_grows rows false false row = record { consts = stays rows.consts; slots = front_more rows.slots row; pers = stays rows.pers; routines = stays rows.routines }

routine_grows : (rows : Rows) (row : RoutineRow) → Grows rows (with_routine rows row)
routine_grows rows row = record {
  consts = front_append rows.consts (scalar_rows row.locals);
  slots = stays rows.slots;
  pers = stays rows.pers;
  routines = front_more rows.routines row;
}

module _ (tables : Tables) where
  item_grows : (number : ℕ) (item : PlainItem) (before past : Rows) → IsItemRow tables number item before past → Grows before past
  item_grows number (Datum local task d at) before past (row, is_row, is) = subst (Grows before) (sym is) (datum_grows before (is_scalar_const d) (is_pers d.kind) row)
  item_grows number (Routine r) before past (row, is_row, is) = subst (Grows before) (sym is) (routine_grows before row)

  items_grow : (number : ℕ) (items : List PlainItem) (before past : Rows) → AreItemRows tables number items before past → Grows before past
  items_grow number [] before past is = subst (Grows before) (sym is) (same_grow before)
  items_grow number (item ∷ items) before past (middle, one, rest) = then_grow before middle past (item_grows number item before middle one) (items_grow number items middle past rest)

  modules_grow : (number : ℕ) (ms : List PlainModule) (before past : Rows) → AreModuleRows tables number ms before past → Grows before past
  modules_grow number [] before past is = subst (Grows before) (sym is) (same_grow before)
  modules_grow number (m ∷ ms) before past (middle, here, rest) = then_grow before middle past (items_grow number m.items before middle here) (modules_grow (number + 1) ms middle past rest)

  -- the rows of a routine's data come after those before
  record Later (before past : List DatumRow) : Type 0 where
    pub later : List DatumRow
    pub is : past ≡ before ++ later

  locals_later : (number routine : ℕ) (ds : List PlainDatum) (before past : List DatumRow) → AreLocalRows tables number routine ds before past → Later before past
  locals_later number routine [] before past is = record { later = []; is = is ∙ sym (append-nil before) }
  locals_later number routine (d ∷ ds) before past (row, is_row, rest) =
      let h = locals_later number routine ds (before ++ row ∷ []) past rest in
      record { later = row ∷ h.later; is = h.is ∙ append_assoc before (row ∷ []) h.later }

  pub params_long : (number routine : ℕ) (ps : List PlainParam) (before past : List ParamRow) → AreParamRows tables number routine ps before past → length past ≡ length before + length ps
  params_long number routine [] before past is = let e = ap length is in omega (arith, e)
  params_long number routine (p ∷ ps) before past (sort, is_sort, rest) =
      let row : ParamRow = record { mode = p.mode; sort = sort } in
      let h = params_long number routine ps (before ++ row ∷ []) past rest in
      let long = length-append before (row ∷ []) in
      omega (arith, h, long)

-- an array has a length, and nothing else has one
len_alike : (names : Names) (number : ℕ) (routine : Option ℕ) (known : Elements) (e : Option PlainExpr) (len : Option ℕ) → IsLen names number routine known e len → is_some len ≡ is_some e
len_alike names number routine known None len is = ap is_some is
len_alike names number routine known (Some e) len (n, is_length, is) = ap is_some is

initial_alike : (names : Names) (number : ℕ) (routine : Option ℕ) (known : Elements) (sort : Sort) (d : PlainDatum) (i : Initial) → IsInitial names number routine known sort d i → is_some i.len ≡ is_some d.len
initial_alike names number routine known sort d i (has, is_len, are_values) = len_alike names number routine known d.len i.len is_len

-- a datum is a constant if its row says since when it is known
no_since : (constant : Bool) (since : Since) → not constant ≡ not (is_some (if constant then Some since else None))
no_since true since = refl
no_since false since = refl

variable_row : (number : ℕ) (d : PlainDatum) (row : DatumRow) → row.since ≡ since_of number d → not (is_const d.kind) ≡ not (is_some row.since)
variable_row number d row e =
    no_since (is_const d.kind) (record { «module» = number; at = value_at d.name d.first }) ∙ ap (λ (o : Option Since). not (is_some o)) (sym e)

has_some_values : (names : Names) (number : ℕ) (routine : Option ℕ) (known : Elements) (sort : Sort) (len : Option ℕ) (e : PlainExpr) (vs : List Value)
    → AreInitialValues (site_of names number routine e) known sort len e vs → has_values sort ≡ true
has_some_values names number routine known sort None e vs are = are.0
has_some_values names number routine known sort (Some n) e vs are = are.0

first_valued : (names : Names) (number : ℕ) (routine : Option ℕ) (known : Elements) (sort : Sort) (len : Option ℕ) (first : Option PlainExpr) (values : Option (List Value)) (constant : Bool)
    → (is_some first || not constant) ≡ true → AreValues names number routine known sort len first values → not constant ≡ false → has_values sort ≡ true
first_valued names number routine known sort len first values false some are e = absurd cc
first_valued names number routine known sort len None values true some are e = absurd cc
first_valued names number routine known sort len (Some first) values true some are e = has_some_values names number routine known sort len first are.0 are.1

const_valued : (names : Names) (number : ℕ) (routine : Option ℕ) (known : Elements) (sort : Sort) (d : PlainDatum) (i : Initial) → IsInitial names number routine known sort d i
    → IsFixed (not (is_const d.kind)) sort
const_valued names number routine known sort d i (has, is_len, are_values) = first_valued names number routine known sort i.len d.first i.values (is_const d.kind) has are_values

-- the type of the row added after these
sort_there : (rows all : List DatumRow) (row : DatumRow) (n : ℕ) → IsFront (rows ++ row ∷ []) all → n ≡ length rows → sort_in (slice_get all n) ≡ row.sort
sort_there rows all row n front e = ap sort_in (ap (slice_get all) e ∙ front (length rows) row (between rows [] row))

pub place_behind : (row : RoutineRow) (k n : ℕ) → n ≡ length row.params + k → own_row row n ≡ slice_get row.locals k
place_behind row k n e =
    let le : length row.params ≤ n = omega (arith, e) in
    let past : nat_lt n (length row.params) ≡ false = le-ltb n (length row.params) le in
    let rest : n - length row.params ≡ k = omega (arith, e) in
    ap (λ (b : Bool). if b then option_map value_row (slice_get row.params n) else slice_get row.locals (n - length row.params)) past ∙ ap (slice_get row.locals) rest

-- what is true of the data so far, and in a routine of its data so far, at each declaration
pub record Visits (names : Names) (K : Progress → Type 0) (L : List (Option (List Value)) → Inner → Type 0) : Type 0 where
  pub on_const : (number : ℕ) (d : PlainDatum) (p : Progress) (i : Initial) (row : DatumRow) → IsLike names p.names → slice_get names.rows.consts p.consts ≡ Some row
      → IsInitial p.names number None (of_modules p) row.sort d i → K p → K (with_const p i)
  pub on_pers : (number : ℕ) (own : Bool) (d : PlainDatum) (p : Progress) (sort : Sort) (i : Initial) → K p → K (with_pers p number own d sort i)
  pub on_slot : (number : ℕ) (d : PlainDatum) (p : Progress) (sort : Sort) (i : Initial) → IsLike names p.names → IsInitial p.names number None (of_modules p) sort d i → K p → K (with_slot p d sort i)
  pub on_enter : (p : Progress) (params : List PlainParam) → K p → L p.known (entered p params)
  pub on_local : (number routine : ℕ) (slots : List (Option (List Value))) (d : PlainDatum) (n : Inner) (i : Initial) (row : DatumRow) → IsLike names n.names
      → (is_scalar_const d ≡ true → slice_get names.rows.consts n.consts ≡ Some row)
      → IsInitial n.names number (Some routine) (record { slots = slots; locals = n.known }) row.sort d i → L slots n → L slots (with_local n d row.sort i)
  pub on_leave : (p : Progress) (n : Inner) → K p → L p.known n → K (left p n)

module _ (tables : Tables) (names : Names) (K : Progress → Type 0) (L : List (Option (List Value)) → Inner → Type 0) (visits : Visits names K L) where
  pub record Aligned (rows : Rows) (p : Progress) : Type 0 where
    pub like : IsLike names p.names
    pub slots : AreEach SlotAlike rows.slots p.slots
    pub pers : AreEach PersAlike rows.pers p.pers
    pub routines : AreEach LocalsAlike rows.routines p.locals
    pub consts : p.consts ≡ length rows.consts
    pub held : K p

  datum_aligned : (number : ℕ) (own : Bool) (d : PlainDatum) (row : DatumRow) (rows : Rows) (p q : Progress) (scalar pers : Bool) → row.array ≡ is_some d.len → row.since ≡ since_of number d
      → Grows (rows_by rows scalar pers row) names.rows
      → ByKind scalar pers number own d p q → Aligned rows p → Aligned (rows_by rows scalar pers row) q
  datum_aligned number own d row rows p q true pers array since grows (i, initial, is) h =
      let there : slice_get names.rows.consts p.consts ≡ Some row = ap (slice_get names.rows.consts) h.consts ∙ grows.consts (length rows.consts) row (between rows.consts [] row) in
      let used : sort_in (slice_get p.names.rows.consts p.consts) ≡ row.sort = ap (λ (r : Rows). sort_in (slice_get r.consts p.consts)) h.like.rows ∙ ap sort_in there in
      let long = length-append rows.consts (row ∷ []) in
      let before = h.consts in
      subst (Aligned (rows_by rows true pers row)) (sym is) (record {
        like = keeping_like names p.names p.consts i.values h.like;
        slots = h.slots;
        pers = h.pers;
        routines = h.routines;
        consts = omega (arith, before, long);
        held = visits.on_const number d p i row h.like there (subst (λ (s : Sort). IsInitial p.names number None (of_modules p) s d i) used initial) h.held;
      })
  datum_aligned number own d row rows p q false true array since grows (i, initial, is) h =
      let sort : Sort = sort_in (slice_get p.names.rows.pers (length p.pers)) in
      let long : length p.pers ≡ length rows.pers = sym (each_length PersAlike rows.pers p.pers h.pers) in
      let used : sort ≡ row.sort = ap (λ (r : Rows). sort_in (slice_get r.pers (length p.pers))) h.like.rows ∙ sort_there rows.pers names.rows.pers row (length p.pers) grows.pers long in
      subst (Aligned (rows_by rows false true row)) (sym is) (record {
        like = h.like;
        slots = h.slots;
        pers = each_more PersAlike rows.pers p.pers row _ h.pers (used, initial_alike p.names number None (of_modules p) sort d i initial ∙ sym array);
        routines = h.routines;
        consts = h.consts;
        held = visits.on_pers number own d p sort i h.held;
      })
  datum_aligned number own d row rows p q false false array since grows (i, initial, is) h =
      let sort : Sort = sort_in (slice_get p.names.rows.slots (length p.slots)) in
      let long : length p.slots ≡ length rows.slots = sym (each_length SlotAlike rows.slots p.slots h.slots) in
      let used : sort ≡ row.sort = ap (λ (r : Rows). sort_in (slice_get r.slots (length p.slots))) h.like.rows ∙ sort_there rows.slots names.rows.slots row (length p.slots) grows.slots long in
      subst (Aligned (rows_by rows false false row)) (sym is) (record {
        like = h.like;
        slots = each_more SlotAlike rows.slots p.slots row _ h.slots (
          used,
          initial_alike p.names number None (of_modules p) sort d i initial ∙ sym array,
          variable_row number d row since,
          subst (IsFixed (not (is_const d.kind))) used (const_valued p.names number None (of_modules p) sort d i initial),
        );
        pers = h.pers;
        routines = h.routines;
        consts = h.consts;
        held = visits.on_slot number d p sort i h.like initial h.held;
      })

  -- in a routine whose row has these rows of data before
  record Within (rows : Rows) (row : RoutineRow) (slots : List (Option (List Value))) (before : List DatumRow) (n : Inner) : Type 0 where
    pub like : IsLike names n.names
    pub each : AreEach LocalAlike before n.rows
    pub places : length n.known ≡ length row.params + length before
    pub consts : n.consts ≡ length rows.consts + length (scalar_rows before)
    pub held : L slots n

  abbrev local_by : Inner → PlainDatum → Sort → Initial → Bool → Inner
  local_by n d sort i scalar =
      if scalar then with_inner_row (with_inner_const n i.values) (inner_row d sort i) false i else with_inner_row n (inner_row d sort i) (is_const d.kind) i

  record Added (n : Inner) (t : TypedLocal) (more : ℕ) (m : Inner) : Type 0 where
    pub like : IsLike names m.names
    pub rows : m.rows ≡ n.rows ++ t ∷ []
    pub longer : length m.known ≡ length n.known + 1
    pub consts : m.consts ≡ n.consts + more

  local_added : (n : Inner) (d : PlainDatum) (sort : Sort) (i : Initial) (scalar : Bool) → IsLike names n.names → Added n (inner_row d sort i) (one_if scalar) (local_by n d sort i scalar)
  local_added n d sort i true like = record { like = keeping_like names n.names n.consts i.values like; rows = refl; longer = length-append n.known (None ∷ []); consts = refl }
  local_added n d sort i false like = record { like = like; rows = refl; longer = length-append n.known (known_elements (is_const d.kind) i.values ∷ []); consts = omega arith }

  module _ (rows : Rows) (row : RoutineRow) (number routine : ℕ) (slots : List (Option (List Value))) (there : slice_get names.rows.routines routine ≡ Some row)
      (consts_there : IsFront (rows.consts ++ scalar_rows row.locals) names.rows.consts) where
    local_step : (before later : List DatumRow) (f : DatumRow) (d : PlainDatum) (n : Inner) (i : Initial) → row.locals ≡ before ++ f ∷ later → f.array ≡ is_some d.len → f.since ≡ since_of number d
        → IsInitial n.names number (Some routine) (record { slots = slots; locals = n.known }) (sort_in (local_of n.names.rows (Some routine) (length n.known))) d i → Within rows row slots before n
        → Within rows row slots (before ++ f ∷ []) (with_local n d (sort_in (local_of n.names.rows (Some routine) (length n.known))) i)
    local_step before later f d n i are array since initial h =
        let known : Elements = record { slots = slots; locals = n.known } in
        let sort : Sort = sort_in (local_of n.names.rows (Some routine) (length n.known)) in
        let found : local_of n.names.rows (Some routine) (length n.known) ≡ Some f =
        ap (λ (r : Rows). local_of r (Some routine) (length n.known)) h.like.rows
        ∙ ap (option_and_then (λ x. own_row x (length n.known))) there
        ∙ place_behind row (length before) (length n.known) h.places
        ∙ ap (λ (ls : List DatumRow). slice_get ls (length before)) are
        ∙ between before later f in
        let used : sort ≡ f.sort = ap sort_in found in
        let scalar : is_scalar f ≡ is_scalar_const d = row_scalar number d f array since in
        let const_there : is_scalar_const d ≡ true → slice_get names.rows.consts n.consts ≡ Some f =
        λ is. ap (slice_get names.rows.consts) h.consts
        ∙ consts_there (length rows.consts + length (scalar_rows before)) f
        (at_right rows.consts (scalar_rows row.locals) (length (scalar_rows before)) ∙ ap (λ (ls : List DatumRow). slice_get (scalar_rows ls) (length (scalar_rows before))) are ∙ scalar_there before later f (scalar ∙ is)) in
        let first : IsInitial n.names number (Some routine) known f.sort d i = subst (λ (s : Sort). IsInitial n.names number (Some routine) known s d i) used initial in
        subst (λ (s : Sort). Within rows row slots (before ++ f ∷ []) (with_local n d s i)) (sym used)
        (next before f d n i h (local_added n d f.sort i (is_scalar_const d) h.like) (sym (ap one_if scalar))
        (initial_alike n.names number (Some routine) known f.sort d i first ∙ sym array) (variable_row number d f since) (const_valued n.names number (Some routine) known f.sort d i first) (visits.on_local number routine slots d n i f h.like const_there first h.held))
      where
        next : (before : List DatumRow) (f : DatumRow) (d : PlainDatum) (n : Inner) (i : Initial) → Within rows row slots before n → Added n (inner_row d f.sort i) (one_if (is_scalar_const d)) (with_local n d f.sort i)
            → one_if (is_scalar_const d) ≡ one_if (is_scalar f) → is_some i.len ≡ f.array → not (is_const d.kind) ≡ not (is_some f.since) → IsFixed (not (is_const d.kind)) f.sort → L slots (with_local n d f.sort i) → Within rows row slots (before ++ f ∷ []) (with_local n d f.sort i)
        next before f d n i h added one array variable fixed held =
            let t : TypedLocal = inner_row d f.sort i in
            let long = length-append before (f ∷ []) in
            let more = scalars_more before f in
            let places = h.places in
            let consts = h.consts in
            let longer = added.longer in
            let counted = added.consts in
            record {
              like = added.like;
              each = subst (AreEach LocalAlike (before ++ f ∷ [])) (sym added.rows) (each_more LocalAlike before n.rows f t h.each (refl, array, variable, fixed));
              places = omega (arith, places, longer, long);
              consts = omega (arith, consts, counted, more, one);
              held = held;
            }

    locals_aligned : (ds : List PlainDatum) (before : List DatumRow) (n m : Inner) → AreLocalRows tables number routine ds before row.locals → AreLocalsData number routine slots ds n m
        → Within rows row slots before n → Within rows row slots row.locals m
    locals_aligned [] before n m is same h = subst (Within rows row slots row.locals) (sym same) (subst (λ (ls : List DatumRow). Within rows row slots ls n) (sym is) h)
    locals_aligned (d ∷ ds) before n m (f, (sort, is_sort, is_row), rest) (i, initial, more) h =
        let behind = locals_later tables number routine ds (before ++ f ∷ []) row.locals rest in
        let are : row.locals ≡ before ++ f ∷ behind.later = behind.is ∙ append_assoc before (f ∷ []) behind.later in
        locals_aligned ds (before ++ f ∷ []) (with_local n d (sort_in (local_of n.names.rows (Some routine) (length n.known))) i) m rest more
        (local_step before behind.later f d n i are (ap (λ x. x.array) is_row) (ap (λ x. x.since) is_row) initial h)

  routine_aligned : (number : ℕ) (r : PlainRoutine) (row : RoutineRow) (rows : Rows) (p q : Progress) → IsRoutineRow tables number (length rows.routines) r row → Grows (with_routine rows row) names.rows
      → IsItemData number (Routine r) p q → Aligned rows p → Aligned (with_routine rows row) q
  routine_aligned number r row rows p q (result, params, locals, is_result, are_params, are_locals, is_row) grows (n, are, is) h =
      let k : ℕ = length rows.routines in
      let long : length p.locals ≡ k = sym (each_length LocalsAlike rows.routines p.locals h.routines) in
      let there : slice_get names.rows.routines k ≡ Some row = grows.routines k row (between rows.routines [] row) in
      let many : length row.params ≡ 0 + length r.params = ap (λ x. length x.params) is_row ∙ params_long tables number k r.params [] params are_params in
      let none = length-replicate {A = Option (List Value)} (length r.params) None in
      let before = h.consts in
      let start : Within rows row p.known [] (entered p r.params) =
      record { like = h.like; each = tt; places = omega (arith, many, none); consts = omega (arith, before); held = visits.on_enter p r.params h.held } in
      let inner : Within rows row p.known row.locals n =
      locals_aligned rows row number k p.known there grows.consts r.locals [] (entered p r.params) n
      (subst (AreLocalRows tables number k r.locals []) (sym (ap (λ x. x.locals) is_row)) are_locals)
      (subst (λ (j : ℕ). AreLocalsData number j p.known r.locals (entered p r.params) n) long are) start in
      let counted = inner.consts in
      let joined = length-append rows.consts (scalar_rows row.locals) in
      subst (Aligned (with_routine rows row)) (sym is) (record {
        like = inner.like;
        slots = h.slots;
        pers = h.pers;
        routines = each_more LocalsAlike rows.routines p.locals row n.rows h.routines inner.each;
        consts = omega (arith, counted, joined);
        held = visits.on_leave p n h.held inner.held;
      })

  item_aligned : (number : ℕ) (item : PlainItem) (rows more : Rows) (p q : Progress) → IsItemRow tables number item rows more → Grows more names.rows → IsItemData number item p q → Aligned rows p → Aligned more q
  item_aligned number (Datum local task d at) rows more p q (row, (sort, is_sort, is_row), is) grows data_is h =
      subst (λ (m : Rows). Aligned m q) (sym is)
      (datum_aligned number (local || task) d row rows p q (is_scalar_const d) (is_pers d.kind) (ap (λ x. x.array) is_row) (ap (λ x. x.since) is_row) (subst (λ (m : Rows). Grows m names.rows) is grows) data_is h)
  item_aligned number (Routine r) rows more p q (row, is_row, is) grows data_is h =
      subst (λ (m : Rows). Aligned m q) (sym is) (routine_aligned number r row rows p q is_row (subst (λ (m : Rows). Grows m names.rows) is grows) data_is h)

  items_aligned : (number : ℕ) (items : List PlainItem) (rows more : Rows) (p q : Progress) → AreItemRows tables number items rows more → Grows more names.rows → AreItemsData number items p q → Aligned rows p → Aligned more q
  items_aligned number [] rows more p q is grows same h = subst (Aligned more) (sym same) (subst (λ (m : Rows). Aligned m p) (sym is) h)
  items_aligned number (item ∷ items) rows more p q (middle, one, rest) grows (next, first, others) h =
      items_aligned number items middle more next q rest grows others
      (item_aligned number item rows middle p next one (then_grow middle more names.rows (items_grow tables number items middle more rest) grows) first h)

  pub modules_aligned : (number : ℕ) (ms : List PlainModule) (rows more : Rows) (p q : Progress) → AreModuleRows tables number ms rows more → Grows more names.rows → AreModulesData number ms p q → Aligned rows p → Aligned more q
  modules_aligned number [] rows more p q is grows same h = subst (Aligned more) (sym same) (subst (λ (m : Rows). Aligned m p) (sym is) h)
  modules_aligned number (m ∷ ms) rows more p q (middle, here, rest) grows (next, first, others) h =
      modules_aligned (number + 1) ms middle more next q rest grows others
      (items_aligned number m.items rows middle p next here (then_grow middle more names.rows (modules_grow tables (number + 1) ms middle more rest) grows) first h)
