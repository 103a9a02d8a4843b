-- Each CONST, VAR, PERS and routine that the walk counts has its row, and the type of a PERS has values.
use Rattle.std.proofs.Common.{◌≡◌, ℕ, ◌+◌, Bool, true, false, not, ◌&&◌, ◌||◌, List, [], ◌∷◌, ◌++◌, length, Option, Some, None, is_some, is_none, sym, ap, subst, ◌∙◌, refl, if◌then◌else◌, length-append, Ok, arith}
use Rattle.std.proofs.Math.Bool.{or-false}
use Rattle.std.specs.List.{list_all}
use Rattle.rapid_model.specs.declared.sort.Sort.{Sort}
use Rattle.rapid_model.specs.Names.{is_among}
use Rattle.raw_trees.specs.Plain.{PlainExpr, PlainDatum, PlainRoutine, PlainItem, PlainModule, Datum, Routine}
use Rattle.data_scopes.specs.declared.counts.Counts.{Counts}
use Rattle.data_scopes.specs.declared.data_row.DatumRow.{DatumRow}
use Rattle.data_scopes.specs.declared.data_row.Since.{Since}
use Rattle.rule_checks.specs.declared.rule.TypeRule.TheVariants.{NameTwice, TypeClash, PersKind}
use Rattle.data_scopes.specs.declared.meant.Meant.TheVariants as meants
use Rattle.rule_checks.specs.Checks.{◌>>=◌, must}
use Rattle.rule_checks.specs.TypeChecks.{Checked, at_spot}
use Rattle.data_scopes.specs.Declarations.{spot_of, sort_at, datum_sort, datum_rules, item_rules, items_rules, module_rules, modules_rules}
use Rattle.data_scopes.specs.Numbers.{no_counts, tables_of, is_const, is_pers, is_scalar_const, scalar_consts, after_datum, after_routine, after_item, after_items}
use Rattle.data_scopes.specs.Rows.{datum_row, since_of, value_at, scalar_rows, result_row, param_rows, local_rows, routine_row, with_routine, item_rows, items_rows, modules_rows, no_rows, rows_by}
use Rattle.rapid_model.specs.declared.signal_row.SignalRow.{SignalRow}
use Rattle.data_scopes.specs.declared.meant.Meant.{Meant}
use Rattle.rule_checks.specs.declared.spot.Spot.{Spot}
use Rattle.data_scopes.specs.Naming.{names_of}
use Rattle.data_scopes.specs.Scopes.{Tables, Names, RoutineRow, Rows, meaning}
use Rattle.data_scopes.specs.Numbered.{HasRow}
use Rattle.data_scopes.proofs.Within.{after_by, after_modules, Fits, IsWithin, tables_within, meant_within}
use Rattle.rapid_model.specs.Sorts.{has_values}
use Rattle.data_scopes.proofs.All.{all_more}
use Rattle.rule_checks.proofs.Steps.{behind, ok_same, it_holds}

abbrev pub has_valued_sort : DatumRow → Bool
has_valued_sort row = has_values row.sort

-- this many of each kind have a row
pub record AreRowed (c : Counts) (rows : Rows) : Type 0 where
  pub consts : c.consts ≡ length rows.consts
  pub slots : c.slots ≡ length rows.slots
  pub pers : c.pers ≡ length rows.pers
  pub routines : c.routines ≡ length rows.routines

rowed_by : (c : Counts) (rows : Rows) (scalar pers : Bool) (row : DatumRow) → AreRowed c rows → AreRowed (after_by c scalar pers) (rows_by rows scalar pers row)
rowed_by c rows true pers row h = record {
  consts = omega (arith, h.consts, length-append rows.consts (row ∷ []));
  slots = h.slots;
  pers = h.pers;
  routines = h.routines;
}
rowed_by c rows false true row h = record {
  consts = h.consts;
  slots = h.slots;
  pers = omega (arith, h.pers, length-append rows.pers (row ∷ []));
  routines = h.routines;
}
rowed_by c rows false false row h = record {
  consts = h.consts;
  slots = omega (arith, h.slots, length-append rows.slots (row ∷ []));
  pers = h.pers;
  routines = h.routines;
}

scalar_if : (since array : Bool) (row : DatumRow) (a b : List DatumRow) → (if since then (if array then a ++ b else row ∷ (a ++ b)) else a ++ b) ≡ (if since then (if array then a else row ∷ a) else a) ++ b
scalar_if true true row a b = refl
scalar_if true false row a b = refl
scalar_if false array row a b = refl

scalar_append : (rows more : List DatumRow) → scalar_rows (rows ++ more) ≡ scalar_rows rows ++ scalar_rows more
scalar_append [] more = refl
scalar_append (row ∷ rows) more =
    ap (λ l. if is_some row.since then (if row.array then l else row ∷ l) else l) (scalar_append rows more)
    ∙ scalar_if (is_some row.since) row.array row (scalar_rows rows) (scalar_rows more)

abbrev row_of : ℕ → PlainDatum → Sort → DatumRow
row_of number d sort = record { sort = sort; array = is_some d.len; since = since_of number d }

-- a datum is one CONST that is not an array, or none
scalar_one : (const : Bool) (len : Option PlainExpr) (sort : Sort) (since : Since) →
    length (scalar_rows (record { sort = sort; array = is_some len; since = (if const then Some since else None) } ∷ [])) ≡ (if const && is_none len then 1 else 0)
scalar_one true None sort since = refl
scalar_one true (Some e) sort since = refl
scalar_one false len sort since = refl

one_more_scalar : (number : ℕ) (d : PlainDatum) (sort : Sort) (rows : List DatumRow) →
    length (scalar_rows (rows ++ row_of number d sort ∷ [])) ≡ length (scalar_rows rows) + (if is_scalar_const d then 1 else 0)
one_more_scalar number d sort rows =
    ap length (scalar_append rows (row_of number d sort ∷ []))
    ∙ length-append (scalar_rows rows) (scalar_rows (row_of number d sort ∷ []))
    ∙ ap (λ n. length (scalar_rows rows) + n) (scalar_one (is_const d.kind) d.len sort (record { «module» = number; at = value_at d.name d.first }))

module _ (tables : Tables) (number : ℕ) where
  abbrev type_of_datum : Option ℕ → PlainDatum → Checked Sort
  type_of_datum routine d = sort_at tables (spot_of number routine d.sort) d.sort

  locals_rowed : (routine : ℕ) (ds : List PlainDatum) (rows got : List DatumRow) → local_rows tables number routine ds rows ≡ Ok got → length (scalar_rows got) ≡ length (scalar_rows rows) + scalar_consts ds
  locals_rowed routine [] rows got r =
      let same : length (scalar_rows rows) ≡ length (scalar_rows got) = ap (λ (l : List DatumRow). length (scalar_rows l)) (ok_same rows got r) in
      omega arith
  locals_rowed routine (d ∷ ds) rows got r =
      let P : Type 0 = length (scalar_rows got) ≡ length (scalar_rows rows) + scalar_consts (d ∷ ds) in
      behind P got (datum_row tables number (Some routine) d) _ r (λ row found others.
      behind P row (type_of_datum (Some routine) d) _ found (λ sort is done.
      let one : length (scalar_rows (rows ++ row ∷ [])) ≡ length (scalar_rows rows) + (if is_scalar_const d then 1 else 0) =
      ap (λ x. length (scalar_rows (rows ++ x ∷ []))) (sym (ok_same (row_of number d sort) row done)) ∙ one_more_scalar number d sort rows in
      omega (arith, one, locals_rowed routine ds (rows ++ row ∷ []) got others)))

  routine_rowed : (c : Counts) (r : PlainRoutine) (rows : Rows) (row : RoutineRow) → routine_row tables number (length rows.routines) r ≡ Ok row → AreRowed c rows → AreRowed (after_routine c r) (with_routine rows row)
  routine_rowed c r rows row found h =
      let P : Type 0 = AreRowed (after_routine c r) (with_routine rows row) in
      let n = length rows.routines in
      behind P row (result_row tables number n r.result) _ found (λ result is more_rows.
      behind P row (param_rows tables number n r.params []) _ more_rows (λ params are locals_found.
      behind P row (local_rows tables number n r.locals []) _ locals_found (λ locals were done.
      let own : locals ≡ row.locals = ap (λ x. x.locals) (ok_same _ _ done) in
      let as_many : length (scalar_rows locals) ≡ scalar_consts r.locals = omega (arith, locals_rowed n r.locals [] locals were) in
      let same : length (scalar_rows locals) ≡ length (scalar_rows row.locals) = ap (λ l. length (scalar_rows l)) own in
      record {
        consts = omega (arith, h.consts, as_many, same, length-append rows.consts (scalar_rows row.locals));
        slots = h.slots;
        pers = h.pers;
        routines = omega (arith, h.routines, length-append rows.routines (row ∷ []));
      })))

  item_rowed : (c : Counts) (item : PlainItem) (rows got : Rows) → item_rows tables number item rows ≡ Ok got → AreRowed c rows → AreRowed (after_item c item) got
  item_rowed c (Datum local task d at) rows got r h =
      behind (AreRowed (after_datum c d) got) got (datum_row tables number None d) _ r (λ row is done.
      subst (AreRowed (after_datum c d)) (ok_same _ _ done) (rowed_by c rows (is_scalar_const d) (is_pers d.kind) row h))
  item_rowed c (Routine p) rows got r h =
      behind (AreRowed (after_routine c p) got) got (routine_row tables number (length rows.routines) p) _ r (λ row is done.
      subst (AreRowed (after_routine c p)) (ok_same _ _ done) (routine_rowed c p rows row is h))

  items_rowed : (c : Counts) (items : List PlainItem) (rows got : Rows) → items_rows tables number items rows ≡ Ok got → AreRowed c rows → AreRowed (after_items c items) got
  items_rowed c [] rows got r h = subst (AreRowed c) (ok_same _ _ r) h
  items_rowed c (item ∷ items) rows got r h =
      behind (AreRowed (after_items (after_item c item) items) got) got (item_rows tables number item rows) _ r (λ next found others.
      items_rowed (after_item c item) items next got others (item_rowed c item rows next found h))

  -- a PERS has a type with values
  datum_valued : (local : Bool) (c : Counts) (d : PlainDatum) (row : DatumRow) (t : Unit {0}) → datum_rules tables number local c d ≡ Ok t → datum_row tables number None d ≡ Ok row → (has_valued_sort row || not (is_pers d.kind)) ≡ true
  datum_valued local c d row t e r =
      let P : Type 0 = (has_valued_sort row || not (is_pers d.kind)) ≡ true in
      let spot = spot_of number None d.sort in
      behind P t (datum_sort tables number None d) _ e (λ sort is named.
      behind P sort (type_of_datum None d) _ is (λ s typed rest.
      behind P sort (must (has_values s || not (is_const d.kind)) (at_spot spot TypeClash)) _ rest (λ u fine last.
      behind P sort (must (has_values s || not (is_pers d.kind)) (at_spot spot PersKind)) _ last (λ v good done.
      let made : row_of number d s ≡ row = ok_same _ _ (ap (λ x. x >>= (λ o. Ok (row_of number d o))) (sym typed) ∙ r) in
      subst (λ x. (has_valued_sort x || not (is_pers d.kind)) ≡ true) made (it_holds (has_values s || not (is_pers d.kind)) (at_spot spot PersKind) v good)))))

  valued_by : (rows : Rows) (scalar pers : Bool) (row : DatumRow) → (has_valued_sort row || not pers) ≡ true → list_all has_valued_sort rows.pers ≡ true → list_all has_valued_sort (rows_by rows scalar pers row).pers ≡ true
  valued_by rows true pers row fine h = h
  valued_by rows false true row fine h = all_more has_valued_sort rows.pers row h (sym (or-false (has_valued_sort row)) ∙ fine)
  valued_by rows false false row fine h = h

  abbrev AreValued : Rows → Type 0
  AreValued rows = list_all has_valued_sort rows.pers ≡ true

  item_valued : (c : Counts) (item : PlainItem) (rows got : Rows) (t : Unit {0}) → item_rules tables number c item ≡ Ok t → item_rows tables number item rows ≡ Ok got → AreValued rows → AreValued got
  item_valued c (Datum local task d at) rows got t e r h =
      behind (AreValued got) got (datum_row tables number None d) _ r (λ row is done.
      subst AreValued (ok_same _ _ done) (valued_by rows (is_scalar_const d) (is_pers d.kind) row (datum_valued local c d row t e is) h))
  item_valued c (Routine p) rows got t e r h =
      behind (AreValued got) got (routine_row tables number (length rows.routines) p) _ r (λ row is done.
      subst AreValued (ok_same _ _ done) h)

  items_valued : (c : Counts) (items : List PlainItem) (rows got : Rows) (t : Unit {0}) → items_rules tables number c items ≡ Ok t → items_rows tables number items rows ≡ Ok got → AreValued rows → AreValued got
  items_valued c [] rows got t e r h = subst AreValued (ok_same _ _ r) h
  items_valued c (item ∷ items) rows got t e r h =
      behind (AreValued got) t (item_rules tables number c item) _ e (λ u is rest.
      behind (AreValued got) got (item_rows tables number item rows) _ r (λ next found others.
      items_valued (after_item c item) items next got t rest others (item_valued c item rows next u is found h)))

pub modules_rowed : (tables : Tables) (number : ℕ) (c : Counts) (ms : List PlainModule) (rows got : Rows) → modules_rows tables number ms rows ≡ Ok got → AreRowed c rows → AreRowed (after_modules c ms) got
modules_rowed tables number c [] rows got r h = subst (AreRowed c) (ok_same _ _ r) h
modules_rowed tables number c (m ∷ ms) rows got r h =
    behind (AreRowed (after_modules (after_items c m.items) ms) got) got (items_rows tables number m.items rows) _ r (λ next found others.
    modules_rowed tables (number + 1) (after_items c m.items) ms next got others (items_rowed tables number c m.items rows next found h))

-- without declarations, no rows are needed
pub none_rowed : AreRowed no_counts no_rows
none_rowed = record { consts = refl; slots = refl; pers = refl; routines = refl }

modules_valued : (tables : Tables) (number : ℕ) (before : List (List ℕ)) (c : Counts) (ms : List PlainModule) (rows got : Rows) (t : Unit {0})
    → modules_rules tables number before c ms ≡ Ok t → modules_rows tables number ms rows ≡ Ok got → list_all has_valued_sort rows.pers ≡ true → list_all has_valued_sort got.pers ≡ true
modules_valued tables number before c [] rows got t e r h = subst (λ x. list_all has_valued_sort x.pers ≡ true) (ok_same _ _ r) h
modules_valued tables number before c (m ∷ ms) rows got t e r h =
    let P : Type 0 = list_all has_valued_sort got.pers ≡ true in
    behind P t (module_rules tables number before c m) _ e (λ u is rest.
    behind P u (must (not (is_among m.name.text before)) (at_spot (spot_of number None m.name) NameTwice)) _ is (λ v fine ruled.
    behind P got (items_rows tables number m.items rows) _ r (λ next found others.
    modules_valued tables (number + 1) (before ++ (m.name.text ∷ [])) (after_items c m.items) ms next got t rest others
    (items_valued tables number c m.items rows next u ruled found h))))

-- this many of each kind have a row
abbrev rows_counts : Rows → Counts
rows_counts rows = record { slots = length rows.slots; pers = length rows.pers; consts = length rows.consts; routines = length rows.routines }

-- what is within the counts has its row
has_row : (rows : Rows) (meant : Meant) → IsWithin (rows_counts rows) meant → HasRow rows meant
has_row rows (meants.Slot k) within = within
has_row rows (meants.Pers k) within = within
has_row rows (meants.Routine k) within = within
has_row rows (meants.Const k) within = within
has_row rows (meants.Local k) within = tt
has_row rows (meants.Ref k) within = tt
has_row rows (meants.For k) within = tt
has_row rows (meants.Signal k) within = tt
has_row rows (meants.Instruction k) within = tt
has_row rows (meants.Function k) within = tt
has_row rows (meants.Predefined k) within = tt

-- what is known of the names of a task's modules
pub record AreNumbered (names : Names) : Type 0 where
  pub rows : (spot : Spot) (name : List ℕ) (meant : Meant) → meaning names.tables spot name ≡ Some meant → HasRow names.rows meant
  pub valued : list_all has_valued_sort names.rows.pers ≡ true

pub are_numbered : (modules : List PlainModule) (signals : List SignalRow) (axes : ℕ) (names : Names) → names_of modules signals axes ≡ Ok names → AreNumbered names
are_numbered modules signals axes names e =
    let tables = tables_of modules signals in
    behind (AreNumbered names) names (modules_rules tables 0 [] no_counts modules) _ e (λ u is rest.
    behind (AreNumbered names) names (modules_rows tables 0 modules no_rows) _ rest (λ rows found done.
    let rowed = modules_rowed tables 0 no_counts modules no_rows rows found none_rowed in
    let fits : Fits (after_modules no_counts modules) (rows_counts rows) =
    record { slots = omega (arith, rowed.slots); pers = omega (arith, rowed.pers); consts = omega (arith, rowed.consts); routines = omega (arith, rowed.routines) } in
    let within = tables_within (rows_counts rows) modules signals fits in
    subst AreNumbered (ok_same _ _ done) (record {
      rows = λ spot name meant means. has_row rows meant (meant_within (rows_counts rows) tables spot name meant within means);
      valued = modules_valued tables 0 [] no_counts modules no_rows rows u is found refl;
    })))
