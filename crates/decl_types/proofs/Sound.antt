-- Data that pass checking are sound: lengths are within bounds, values are of their types, and so are the persistents.
use Rattle.std.proofs.Common.{◌≡◌, ℕ, ℤ, zero, suc, ◌+◌, Bool, true, false, ◌||◌, ◌==◌, nat_le, List, [], ◌∷◌, length, Option, Some, None, slice_get, Ok, refl, sym, ap, subst, ◌∙◌, if◌then◌else◌}
use Rattle.std.specs.List.{list_all}
use Rattle.std.proofs.lemmas.Bool.{and_from, and_parts, le-leb}
use Rattle.rapid_limits.specs.declared.TheConstants.{LONGEST_ARRAY}
use Rattle.raw_trees.specs.Plain.{PlainDatum, PlainExpr, PlainItem, PlainModule, Datum, Routine}
use Rattle.rapid_model.specs.Limits.{is_within, holds_where_there}
use Rattle.rapid_model.specs.Sorts.{has_values, is_value_of, are_values_of}
use Rattle.rapid_model.specs.declared.signal_row.SignalRow.{SignalRow}
use Rattle.rapid_model.specs.declared.sort.Sort.{Sort}
use Rattle.rapid_model.specs.declared.sort.Sort.TheVariants as sorts
use Rattle.rapid_model.specs.declared.value.Value.{Value}
use Rattle.rapid_model.specs.declared.value.Value.TheVariants as values
use Rattle.typed_trees.specs.Sound.{is_sound}
use Rattle.rapid_values.specs.Elements.{element_number}
use Rattle.rapid_values.proofs.Elements.{element_within}
use Rattle.constant_meaning.specs.Constants.{Elements, Outcomes, all, stops, constant_value, constant_values, is_constant, are_constant}
use Rattle.constant_meaning.specs.declared.outcome.Outcome.{Outcome}
use Rattle.constant_meaning.specs.declared.outcome.Outcome.TheVariants as outcomes
use Rattle.data_scopes.specs.declared.data_row.DatumRow.{DatumRow}
use Rattle.rule_checks.specs.declared.rule.TypeRule.TheVariants.{NotConst, ConstFault, DimRange}
use Rattle.data_scopes.specs.Called.{local_of}
use Rattle.rule_checks.specs.TypeChecks.{Checked}
use Rattle.data_scopes.specs.Naming.{names_of}
use Rattle.data_scopes.specs.Numbers.{is_pers, is_scalar_const}
use Rattle.data_scopes.specs.Rows.{begin_of}
use Rattle.data_scopes.specs.Scopes.{Names, Rows}
use Rattle.data_scopes.proofs.All.{all_more}
use Rattle.data_scopes.proofs.Rowed.{has_valued_sort, are_numbered}
use Rattle.rule_checks.proofs.Steps.{behind, ok_same}
use Rattle.named_data.specs.declared.wanted.Wanted.TheVariants.{Is, Nothing}
use Rattle.rule_checks.specs.Checks.{must}
use Rattle.named_data.specs.Rules.{Site, at_byte}
use Rattle.expr_types.specs.Typing.{typed}
use Rattle.decl_types.specs.Data.{Progress, Inner, beginning, sort_in, keeping, with_const, with_slot, with_pers, of_modules, datum_const, datum_pers, datum_slot, datum, with_local, local, locals, entered, left, routine, item, items, data_of}
use Rattle.decl_types.specs.Parts.{pers_row}
use Rattle.decl_types.specs.Values.{Initial, length_or_fault, whole_length, length_at, value_or_fault, single_value, brackets, how_many, values_or_fault, array_values, no_value, initial_values, site_of, values_at, len_of, init_rule, initial}
use Rattle.decl_types.proofs.Elements.{found, held_if}

-- a length is within bounds
abbrev is_short : ℕ → Bool
is_short len = is_within 1 1_000 len

number_short : (v : ℤ) (len : ℕ) → element_number LONGEST_ARRAY v ≡ Some len → is_short len ≡ true
number_short v len is =
    let within = element_within LONGEST_ARRAY v len is in
    and_from (nat_le 1 len) (nat_le len 1_000) (le-leb 1 len within.0) (le-leb len 1_000 within.1)

found_short : (s : Site) (at : ℕ) (number : Option ℕ) (len : ℕ) → ((n : ℕ) → number ≡ Some n → is_short n ≡ true) → length_or_fault s at number ≡ Ok len → is_short len ≡ true
found_short s at (Some n) len short is = subst (λ k. is_short k ≡ true) (ok_same n len is) (short n refl)
found_short s at None len short is = absurd cc

whole_short : (s : Site) (at : ℕ) (outcome : Outcome) (len : ℕ) → whole_length s at outcome ≡ Ok len → is_short len ≡ true
whole_short s at (outcomes.Value (values.Num v)) len is = found_short s at (element_number LONGEST_ARRAY v) len (number_short v) is
whole_short s at (outcomes.Value _) len is = absurd cc
whole_short s at other len is = absurd cc

length_short : (s : Site) (known : Elements) (e : PlainExpr) (len : ℕ) → length_at s known e ≡ Ok len → is_short len ≡ true
length_short s known e len is =
    let P : Type 0 = is_short len ≡ true in
    behind P len (typed s e (Is sorts.Num)) _ is (λ t typed_to rest.
    behind P len (must (is_constant known t) (at_byte s (begin_of e) NotConst)) _ rest (λ u constant last.
    whole_short s (begin_of e) (constant_value known t) len last))

len_short : (names : Names) (number : ℕ) (routine : Option ℕ) (known : Elements) (e : Option PlainExpr) (len : Option ℕ) → len_of names number routine known e ≡ Ok len → holds_where_there is_short len ≡ true
len_short names number routine known None len is = subst (λ l. holds_where_there is_short l ≡ true) (ok_same None len is) refl
len_short names number routine known (Some e) len is =
    let s : Site = site_of names number routine e in
    behind (holds_where_there is_short len ≡ true) len (length_at s known e) _ is (λ n found_it done.
    subst (λ l. holds_where_there is_short l ≡ true) (ok_same (Some n) len done) (length_short s known e n found_it))

single_fits : (s : Site) (known : Elements) (sort : Sort) (e : PlainExpr) (vs : List Value) → single_value s known sort e ≡ Ok vs → are_values_of sort None vs ≡ true
single_fits s known sort e vs is =
    let P : Type 0 = are_values_of sort None vs ≡ true in
    let at : ℕ = begin_of e in
    behind P vs (typed s e (Is sort)) _ is (λ t typed_to rest.
    behind P vs (must (is_constant known t) (at_byte s at NotConst)) _ rest (λ u constant more.
    behind P vs (value_or_fault s at sort (constant_value known t)) _ more (λ v comes_to done.
    subst (λ l. are_values_of sort None l ≡ true) (ok_same (v ∷ []) vs done) (and_from (is_value_of sort v) true (found s at sort v (constant_value known t) comes_to).fits refl))))

values_fit : (s : Site) (at : ℕ) (sort : Sort) (outcome : Outcomes) (vs : List Value) → values_or_fault s at sort outcome ≡ Ok vs → list_all (is_value_of sort) vs ≡ true
values_fit s at sort (all ws) vs is =
    let both = held_if s at ConstFault (list_all (is_value_of sort) ws) ws vs is in
    subst (λ l. list_all (is_value_of sort) l ≡ true) both.0 both.1
values_fit s at sort (stops other) vs is = absurd cc

array_fits : (s : Site) (known : Elements) (sort : Sort) (len : ℕ) (e : PlainExpr) (vs : List Value) → array_values s known sort len e ≡ Ok vs → are_values_of sort (Some len) vs ≡ true
array_fits s known sort len e vs is =
    let P : Type 0 = are_values_of sort (Some len) vs ≡ true in
    let at : ℕ = begin_of e in
    behind P vs (brackets s sort e) _ is (λ b bracketed rest.
    behind P vs (must (b.at == at || how_many b.elements == len) (at_byte s b.at DimRange)) _ rest (λ u fits others.
    behind P vs (must (are_constant known b.elements) (at_byte s at NotConst)) _ others (λ w constant more.
    behind P vs (values_or_fault s at sort (constant_values known b.elements)) _ more (λ ws come_to counted.
    let both = held_if s b.at DimRange (length ws == len) ws vs counted in
    subst (λ l. are_values_of sort (Some len) l ≡ true) both.0
    (and_from (length ws == len) (list_all (is_value_of sort) ws) both.1 (values_fit s at sort (constant_values known b.elements) ws come_to))))))

-- no value is given if the type has none
where_valued : (P : Type 0) (has : Bool) (given : Checked (List Value)) (s : Site) (e : PlainExpr) (vs : List Value) → (if has then given else no_value s e) ≡ Ok vs → (given ≡ Ok vs → P) → P
where_valued P true given s e vs is next = next is
where_valued P false given s e vs is next = behind P vs (typed s e Nothing) _ is (λ t typed_to failed. absurd cc)

given_fit : (s : Site) (known : Elements) (sort : Sort) (len : Option ℕ) (e : PlainExpr) (vs : List Value) → initial_values s known sort len e ≡ Ok vs → are_values_of sort len vs ≡ true
given_fit s known sort None e vs is = where_valued (are_values_of sort None vs ≡ true) (has_values sort) (single_value s known sort e) s e vs is (single_fits s known sort e vs)
given_fit s known sort (Some len) e vs is = where_valued (are_values_of sort (Some len) vs ≡ true) (has_values sort) (array_values s known sort len e) s e vs is (array_fits s known sort len e vs)

where_given_fit : (names : Names) (number : ℕ) (routine : Option ℕ) (known : Elements) (sort : Sort) (len : Option ℕ) (e : Option PlainExpr) (vs : Option (List Value))
    → values_at names number routine known sort len e ≡ Ok vs → holds_where_there (are_values_of sort len) vs ≡ true
where_given_fit names number routine known sort len None vs is = subst (λ l. holds_where_there (are_values_of sort len) l ≡ true) (ok_same None vs is) refl
where_given_fit names number routine known sort len (Some e) vs is =
    let s : Site = site_of names number routine e in
    behind (holds_where_there (are_values_of sort len) vs ≡ true) vs (initial_values s known sort len e) _ is (λ ws given done.
    subst (λ l. holds_where_there (are_values_of sort len) l ≡ true) (ok_same (Some ws) vs done) (given_fit s known sort len e ws given))

-- the length of a datum, and the values that its declaration gives
pub record IsSoundInitial (sort : Sort) (i : Initial) : Type 0 where
  pub short : holds_where_there is_short i.len ≡ true
  pub fit : holds_where_there (are_values_of sort i.len) i.values ≡ true

pub initial_sound : (names : Names) (number : ℕ) (routine : Option ℕ) (known : Elements) (sort : Sort) (d : PlainDatum) (i : Initial) → initial names number routine known sort d ≡ Ok i → IsSoundInitial sort i
initial_sound names number routine known sort d i is =
    let P : Type 0 = IsSoundInitial sort i in
    behind P i (init_rule names number routine d) _ is (λ u ruled rest.
    behind P i (len_of names number routine known d.len) _ rest (λ len len_is more.
    behind P i (values_at names number routine known sort len d.first) _ more (λ vs are done.
    subst (IsSoundInitial sort) (ok_same (record { len = len; values = vs }) i done) (record {
      short = len_short names number routine known d.len len len_is;
      fit = where_given_fit names number routine known sort len d.first vs are;
    }))))

-- the declared PERSs have types with values, and those so far are sound
pub record IsSoundSoFar (p : Progress) : Type 0 where
  pub valued : list_all has_valued_sort p.names.rows.pers ≡ true
  pub sound : list_all is_sound p.pers ≡ true

sort_valued : (rows : List DatumRow) (k : ℕ) → list_all has_valued_sort rows ≡ true → has_values (sort_in (slice_get rows k)) ≡ true
sort_valued [] k each = refl
sort_valued (row ∷ rows) zero each = (and_parts (has_valued_sort row) (list_all has_valued_sort rows) each).0
sort_valued (row ∷ rows) (suc k) each = sort_valued rows k (and_parts (has_valued_sort row) (list_all has_valued_sort rows) each).1

-- keeping a value leaves the rows unchanged
pub kept_rows : (names : Names) (constant : ℕ) (vs : Option (List Value)) → (keeping names constant vs).rows ≡ names.rows
kept_rows names constant None = refl
kept_rows names constant (Some []) = refl
kept_rows names constant (Some (v ∷ vs)) = refl

module _ (number : ℕ) where
  const_sound : (d : PlainDatum) (p q : Progress) → datum_const number d p ≡ Ok q → IsSoundSoFar p → IsSoundSoFar q
  const_sound d p q is h =
      let sort : Sort = sort_in (slice_get p.names.rows.consts p.consts) in
      behind (IsSoundSoFar q) q (initial p.names number None (of_modules p) sort d) _ is (λ i found_it done.
      subst IsSoundSoFar (ok_same (with_const p i) q done) (record {
        valued = subst (λ (rows : Rows). list_all has_valued_sort rows.pers ≡ true) (sym (kept_rows p.names p.consts i.values)) h.valued;
        sound = h.sound;
      }))

  pers_sound : (own : Bool) (d : PlainDatum) (p q : Progress) → datum_pers number own d p ≡ Ok q → IsSoundSoFar p → IsSoundSoFar q
  pers_sound own d p q is h =
      let sort : Sort = sort_in (slice_get p.names.rows.pers (length p.pers)) in
      behind (IsSoundSoFar q) q (initial p.names number None (of_modules p) sort d) _ is (λ i found_it done.
      let one = initial_sound p.names number None (of_modules p) sort d i found_it in
      let has : has_values sort ≡ true = sort_valued p.names.rows.pers (length p.pers) h.valued in
      subst IsSoundSoFar (ok_same (with_pers p number own d sort i) q done) (record {
        valued = h.valued;
        sound = all_more is_sound p.pers (pers_row number own d sort i) h.sound (and_from _ _ (and_from _ _ has one.short) one.fit);
      }))

  slot_sound : (d : PlainDatum) (p q : Progress) → datum_slot number d p ≡ Ok q → IsSoundSoFar p → IsSoundSoFar q
  slot_sound d p q is h =
      let sort : Sort = sort_in (slice_get p.names.rows.slots (length p.slots)) in
      behind (IsSoundSoFar q) q (initial p.names number None (of_modules p) sort d) _ is (λ i found_it done.
      subst IsSoundSoFar (ok_same (with_slot p d sort i) q done) (record { valued = h.valued; sound = h.sound }))

  by_kind : (P : Type 0) (single pers : Bool) (x y z : Checked Progress) (q : Progress) → (if single then x else if pers then y else z) ≡ Ok q → (x ≡ Ok q → P) → (y ≡ Ok q → P) → (z ≡ Ok q → P) → P
  by_kind P true pers x y z q is a b c = a is
  by_kind P false true x y z q is a b c = b is
  by_kind P false false x y z q is a b c = c is

  datum_sound : (own : Bool) (d : PlainDatum) (p q : Progress) → datum number own d p ≡ Ok q → IsSoundSoFar p → IsSoundSoFar q
  datum_sound own d p q is h =
      by_kind (IsSoundSoFar q) (is_scalar_const d) (is_pers d.kind) _ _ _ q is
      (λ found_it. const_sound d p q found_it h) (λ found_it. pers_sound own d p q found_it h) (λ found_it. slot_sound d p q found_it h)

  either_rows : (single : Bool) (a b : Inner) (rows : Rows) → a.names.rows ≡ rows → b.names.rows ≡ rows → (if single then a else b).names.rows ≡ rows
  either_rows true a b rows x y = x
  either_rows false a b rows x y = y

  -- the data of a routine leave the rows unchanged
  locals_rows : (routine : ℕ) (slots : List (Option (List Value))) (ds : List PlainDatum) (n m : Inner) → locals number routine slots ds n ≡ Ok m → m.names.rows ≡ n.names.rows
  locals_rows routine slots [] n m is = ap (λ n. n.names.rows) (sym (ok_same n m is))
  locals_rows routine slots (d ∷ ds) n m is =
      let sort : Sort = sort_in (local_of n.names.rows (Some routine) (length n.known)) in
      let P : Type 0 = m.names.rows ≡ n.names.rows in
      behind P m (local number routine slots d n) _ is (λ next one others.
      behind P next (initial n.names number (Some routine) (record { slots = slots; locals = n.known }) sort d) _ one (λ i found_it done.
      locals_rows routine slots ds next m others ∙ ap (λ n. n.names.rows) (sym (ok_same (with_local n d sort i) next done))
      ∙ either_rows (is_scalar_const d) _ _ n.names.rows (kept_rows n.names n.consts i.values) refl))

  item_sound : (i : PlainItem) (p q : Progress) → item number i p ≡ Ok q → IsSoundSoFar p → IsSoundSoFar q
  item_sound (Datum local task d at) p q is h = datum_sound (local || task) d p q is h
  item_sound (Routine r) p q is h =
      behind (IsSoundSoFar q) q (locals number (length p.locals) p.known r.locals (entered p r.params)) _ is (λ n found_it done.
      subst IsSoundSoFar (ok_same (left p n) q done) (record {
        valued = subst (λ (rows : Rows). list_all has_valued_sort rows.pers ≡ true) (sym (locals_rows (length p.locals) p.known r.locals (entered p r.params) n found_it)) h.valued;
        sound = h.sound;
      }))

  items_sound : (is : List PlainItem) (p q : Progress) → items number is p ≡ Ok q → IsSoundSoFar p → IsSoundSoFar q
  items_sound [] p q is h = subst IsSoundSoFar (ok_same p q is) h
  items_sound (i ∷ is) p q found_all h =
      behind (IsSoundSoFar q) q (item number i p) _ found_all (λ next one others. items_sound is next q others (item_sound i p next one h))

data_sound : (number : ℕ) (ms : List PlainModule) (p q : Progress) → data_of number ms p ≡ Ok q → IsSoundSoFar p → IsSoundSoFar q
data_sound number [] p q is h = subst IsSoundSoFar (ok_same p q is) h
data_sound number (m ∷ ms) p q is h =
    behind (IsSoundSoFar q) q (items number m.items p) _ is (λ next one others. data_sound (number + 1) ms next q others (items_sound number m.items p next one h))

-- the persistents of a task's modules
pub pers_are_sound : (modules : List PlainModule) (signals : List SignalRow) (axes : ℕ) (names : Names) (p : Progress) → names_of modules signals axes ≡ Ok names → data_of 0 modules (beginning names) ≡ Ok p → list_all is_sound p.pers ≡ true
pers_are_sound modules signals axes names p named is =
    (data_sound 0 modules (beginning names) p is (record { valued = (are_numbered modules signals axes names named).valued; sound = refl })).sound
