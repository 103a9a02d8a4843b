-- Initial data and constant values are full ones of their types.
use Rattle.std.proofs.Common.{◌≡◌, ℕ, zero, suc, Bool, true, false, List, [], ◌∷◌, length, map, replicate, Option, Some, None, slice_get, refl, sym, ap, subst, ◌∙◌, if◌then◌else◌, IsTrue}
use Rattle.std.specs.List.{All, list_all}
use Rattle.std.proofs.Math.Logic.{⊎_elim}
use Rattle.std.proofs.lemmas.Bool.{and_from, and_parts}
use Rattle.std.proofs.lemmas.List.{length-map, length-replicate}
use Rattle.std.proofs.lemmas.List.Elements.{All-cons, All-nil, All-push, All-replicate}
use Rattle.raw_trees.specs.Plain.{PlainDatum, PlainExpr, PlainExprs, PlainModule, Aggregate, Group, NoExprs, MoreExprs}
use Rattle.rapid_model.specs.Lengths.{is_full}
use Rattle.rapid_model.specs.Paths.{has_sort}
use Rattle.rapid_model.specs.Sorts.{is_value_of, width}
use Rattle.rapid_model.specs.declared.signal_row.SignalRow.{SignalRow}
use Rattle.rapid_model.specs.declared.sort.Sort.{Sort}
use Rattle.rapid_model.specs.declared.sort.Sort.TheVariants as sorts
use Rattle.rapid_model.specs.declared.value.Value.{Value}
use Rattle.rapid_model.proofs.FullValues.{all_have_sort}
use Rattle.typed_trees.specs.Plain.{TypedExprs, TypedLocal, TypedSlot}
use Rattle.typed_trees.specs.declared.datum.Datum.TheVariants as datums
use Rattle.constant_meaning.specs.Constants.{Elements, Outcomes}
use Rattle.constant_meaning.specs.declared.outcome.Outcome.{Outcome}
use Rattle.data_scopes.specs.declared.data_row.DatumRow.{DatumRow}
use Rattle.data_scopes.specs.Numbers.{is_const, is_scalar_const}
use Rattle.data_scopes.specs.Scopes.{Names}
use Rattle.data_scopes.proofs.All.{all_more}
use Rattle.named_data.specs.declared.wanted.Wanted.TheVariants.{Is}
use Rattle.named_data.specs.Rules.{Site}
use Rattle.decl_types.specs.Data.{Inner, Progress, inner_row, keeping, known_elements, of_modules}
use Rattle.decl_types.specs.Parts.{with_inner_const, with_inner_row}
use Rattle.decl_types.specs.Values.{Initial, first_data, site_of, start_datum}
use Rattle.type_laws.specs.Data.{AreArrayElements, AreArrayValues, AreBrackets, AreInitialValues, AreValues, IsInitial, IsSingle}
use Rattle.tree_typing.specs.Kinds.{Kind}
use Rattle.tree_typing.specs.Setting.{Setting}
use Rattle.tree_typing.specs.WellTyped.{AreFirst, is_datum_of}
use Rattle.accepted_cells.proofs.Arguments.{typed_as}
use Rattle.accepted_cells.proofs.Expressions.{expr_right}
use Rattle.accepted_cells.proofs.Facts.{Facts, Kept, kinds_at, suits}
use Rattle.accepted_cells.proofs.Full.{AreSome, items_full, known_full, outcome_full, outcomes_full, value_full, values_full}
use Rattle.accepted_cells.proofs.Lists.{set_cases}
use Rattle.accepted_cells.proofs.Named.{Suits}
use Rattle.accepted_cells.proofs.Rows.{IsLike, Visits}

-- data without an initial value
start_right : (sort : Sort) → IsTrue (is_datum_of sort (start_datum sort))
start_right sorts.Num = refl
start_right _ = refl

-- values of a type as data of it
all_plain : (sort : Sort) (vs : List Value) → list_all (has_sort sort) vs ≡ true → All (λ x. IsTrue (is_datum_of sort x)) (map datums.Plain vs)
all_plain sort [] h = All-nil (λ x. IsTrue (is_datum_of sort x))
all_plain sort (v ∷ vs) h =
    let parts = and_parts (has_sort sort v) (list_all (has_sort sort) vs) h in
    All-cons (λ x. IsTrue (is_datum_of sort x)) (datums.Plain v) (map datums.Plain vs) parts.0 (all_plain sort vs parts.1)

full_all : (sort : Sort) (vs : List Value) → list_all (has_sort sort) vs ≡ true → list_all is_full vs ≡ true
full_all sort [] h = refl
full_all sort (v ∷ vs) h =
    let parts = and_parts (has_sort sort v) (list_all (has_sort sort) vs) h in
    and_from (is_full v) (list_all is_full vs) (and_parts (is_value_of sort v) (is_full v) parts.0).1 (full_all sort vs parts.1)

-- as many values as a datum has, each a full one of its type
pub record AreRight (sort : Sort) (len : Option ℕ) (vs : List Value) : Type 0 where
  pub long : length vs ≡ width len
  pub typed : list_all (has_sort sort) vs ≡ true

abbrev pub AreGiven : Sort → Option ℕ → Option (List Value) → Type 0
AreGiven sort len None = Unit {0}
AreGiven sort len (Some vs) = AreRight sort len vs

given_full : (sort : Sort) (len : Option ℕ) (values : Option (List Value)) → AreGiven sort len values → items_full values ≡ true
given_full sort len None h = refl
given_full sort len (Some vs) h = full_all sort vs h.typed

-- so are the data made of them
given_first : (sort : Sort) (len : Option ℕ) (values : Option (List Value)) → AreGiven sort len values → AreFirst sort len (first_data sort len values)
given_first sort len (Some vs) h = (length-map vs datums.Plain ∙ h.long, all_plain sort vs h.typed)
given_first sort len None h = (length-replicate (width len) (start_datum sort), All-replicate (λ x. IsTrue (is_datum_of sort x)) (width len) (start_datum sort) (start_right sort))

module _ (c : Setting) (kinds : List Kind) (s : Site) (here : Suits c kinds s) (known : Elements) (slots : known_full known.slots ≡ true) (locals : known_full known.locals ≡ true) where
  single_right : (sort : Sort) (e : PlainExpr) (vs : List Value) → IsSingle s known sort e vs → AreRight sort None vs
  single_right sort e vs (t, v, typed, constant, value, fits, is) =
      let full : is_full v ≡ true =
      subst (λ (o : Outcome). outcome_full o ≡ true) value (value_full c kinds known slots locals t sort (typed_as c kinds sort t (expr_right c kinds s here e (Is sort) t typed))) in
      subst (AreRight sort None) (sym is) (record { long = refl; typed = and_from (has_sort sort v) true (and_from (is_value_of sort v) (is_full v) fits full) refl })

  elements_some : (sort : Sort) (es : PlainExprs) (ts : TypedExprs) → AreArrayElements s sort es ts → AreSome c kinds ts
  elements_some sort NoExprs ts is = subst (AreSome c kinds) (sym is) tt
  elements_some sort (MoreExprs e es) ts (u, us, typed, rest, is) =
      subst (AreSome c kinds) (sym is) (sort, typed_as c kinds sort u (expr_right c kinds s here e (Is sort) u typed), elements_some sort es us rest)

  brackets_some : (sort : Sort) (e : PlainExpr) (ts : TypedExprs) → AreBrackets s sort e ts → AreSome c kinds ts
  brackets_some sort (Aggregate at es) ts h = elements_some sort es ts h
  brackets_some sort (Group at e) ts h = brackets_some sort e ts h
  brackets_some sort _ ts h = absurd h

  array_right : (sort : Sort) (len : ℕ) (e : PlainExpr) (vs : List Value) → AreArrayValues s known sort len e vs → AreRight sort (Some len) vs
  array_right sort len e vs (ts, brackets, constant, values, fits, long) =
      let full : list_all is_full vs ≡ true = subst (λ (o : Outcomes). outcomes_full o ≡ true) values (values_full c kinds known slots locals ts (brackets_some sort e ts brackets)) in
      record { long = long; typed = all_have_sort sort vs fits full }

  values_right : (sort : Sort) (len : Option ℕ) (e : PlainExpr) (vs : List Value) → AreInitialValues s known sort len e vs → AreRight sort len vs
  values_right sort None e vs h = single_right sort e vs h.1
  values_right sort (Some len) e vs h = array_right sort len e vs h.1

-- the values of a CONST that is kept
keeping_kept : (consts : List DatumRow) (names : Names) (constant : ℕ) (row : DatumRow) (len : Option ℕ) (values : Option (List Value)) → slice_get consts constant ≡ Some row → AreGiven row.sort len values → Kept consts names.kept
    → Kept consts (keeping names constant values).kept
keeping_kept consts names constant row len None there h kept k r w is so = kept k r w is so
keeping_kept consts names constant row len (Some []) there h kept k r w is so = kept k r w is so
keeping_kept consts names constant row len (Some (v ∷ vs)) there h kept k r w is so =
    ⊎_elim
    (λ both.
    let same_row : row ≡ r = let e : Some row ≡ Some r = sym there ∙ ap (slice_get consts) (sym both.0) ∙ is in cc in
    let same : v ≡ w = let e = both.1 in cc in
    let typed : IsTrue (has_sort row.sort v) = (and_parts (has_sort row.sort v) (list_all (has_sort row.sort) vs) h.typed).0 in
    subst (λ (x : DatumRow). IsTrue (has_sort x.sort w)) same_row (subst (λ (x : Value). IsTrue (has_sort row.sort x)) same typed))
    (λ old. kept k r w is old) (set_cases names.kept constant k (Some v) (Some w) so)

abbrev pub SlotFirst : TypedSlot → Type 0
SlotFirst row = AreFirst row.sort row.len row.first

abbrev pub LocalFirst : TypedLocal → Type 0
LocalFirst row = AreFirst row.sort row.len row.first

-- of the data so far
pub record Valued (consts : List DatumRow) (p : Progress) : Type 0 where
  pub kept : Kept consts p.names.kept
  pub known : known_full p.known ≡ true
  pub slots : All SlotFirst p.slots
  pub locals : All (All LocalFirst) p.locals

-- of the data of a routine so far
pub record InnerValued (consts : List DatumRow) (slots : List (Option (List Value))) (n : Inner) : Type 0 where
  pub kept : Kept consts n.names.kept
  pub modules : known_full slots ≡ true
  pub known : known_full n.known ≡ true
  pub rows : All LocalFirst n.rows

elements_full : (const : Bool) (values : Option (List Value)) → items_full values ≡ true → items_full (known_elements const values) ≡ true
elements_full true values h = h
elements_full false values h = refl

none_full : (n : ℕ) → known_full (replicate n None) ≡ true
none_full zero = refl
none_full (suc n) = none_full n

module _ (modules : List PlainModule) (signals : List SignalRow) (c : Setting) (names : Names) (facts : Facts modules signals c names) where
  abbrev consts : List DatumRow
  consts = names.rows.consts

  initial_right : (other : Names) (number : ℕ) (routine : Option ℕ) (known : Elements) (sort : Sort) (d : PlainDatum) (i : Initial) → IsLike names other → Kept consts other.kept → known_full known.slots ≡ true
      → known_full known.locals ≡ true → IsInitial other number routine known sort d i → AreGiven sort i.len i.values
  initial_right other number routine known sort d i like kept slots locals (has, is_len, values) = by d.first i.values values
    where
      by : (first : Option PlainExpr) (vs : Option (List Value)) → AreValues other number routine known sort i.len first vs → AreGiven sort i.len vs
      by None vs is = subst (AreGiven sort i.len) (sym is) tt
      by (Some e) vs (ws, are, is) =
          let s : Site = site_of other number routine e in
          subst (AreGiven sort i.len) (sym is)
          (values_right c (kinds_at c.tree routine) s (suits modules signals c names facts other like kept s.spot) known slots locals sort i.len e ws are)

  local_valued : (slots : List (Option (List Value))) (d : PlainDatum) (n : Inner) (i : Initial) (row : DatumRow) (scalar : Bool) → (scalar ≡ true → slice_get consts n.consts ≡ Some row) → AreGiven row.sort i.len i.values
      → InnerValued consts slots n
      → InnerValued consts slots (if scalar then with_inner_row (with_inner_const n i.values) (inner_row d row.sort i) false i else with_inner_row n (inner_row d row.sort i) (is_const d.kind) i)
  local_valued slots d n i row true there given h = record {
    kept = keeping_kept consts n.names n.consts row i.len i.values (there refl) given h.kept;
    modules = h.modules;
    known = all_more items_full n.known None h.known refl;
    rows = All-push LocalFirst n.rows (inner_row d row.sort i) h.rows (given_first row.sort i.len i.values given);
  }
  local_valued slots d n i row false there given h = record {
    kept = h.kept;
    modules = h.modules;
    known = all_more items_full n.known (known_elements (is_const d.kind) i.values) h.known (elements_full (is_const d.kind) i.values (given_full row.sort i.len i.values given));
    rows = All-push LocalFirst n.rows (inner_row d row.sort i) h.rows (given_first row.sort i.len i.values given);
  }

  pub data_visits : Visits names (Valued consts) (InnerValued consts)
  data_visits = record {
    on_const = λ number d p i row like there initial h.
        let given = initial_right p.names number None (of_modules p) row.sort d i like h.kept h.known refl initial in
        record { kept = keeping_kept consts p.names p.consts row i.len i.values there given h.kept; known = h.known; slots = h.slots; locals = h.locals };
    on_pers = λ number own d p sort i h. record { kept = h.kept; known = h.known; slots = h.slots; locals = h.locals };
    on_slot = λ number d p sort i like initial h.
        let given = initial_right p.names number None (of_modules p) sort d i like h.kept h.known refl initial in
        record {
          kept = h.kept;
          known = all_more items_full p.known (known_elements (is_const d.kind) i.values) h.known (elements_full (is_const d.kind) i.values (given_full sort i.len i.values given));
          slots = All-push SlotFirst p.slots _ h.slots (given_first sort i.len i.values given);
          locals = h.locals;
        };
    on_enter = λ p params h. record { kept = h.kept; modules = h.known; known = none_full (length params); rows = All-nil LocalFirst };
    on_local = λ number routine slots d n i row like there initial h.
        local_valued slots d n i row (is_scalar_const d) there (initial_right n.names number (Some routine) (record { slots = slots; locals = n.known }) row.sort d i like h.kept h.modules h.known initial) h;
    on_leave = λ p n h k. record { kept = k.kept; known = h.known; slots = h.slots; locals = All-push (All LocalFirst) p.locals n.rows h.locals k.rows };
  }
