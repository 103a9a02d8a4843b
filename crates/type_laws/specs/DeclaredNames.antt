-- Which declared names are valid: each has a type that suits it, and no earlier declaration in its scope has the name.
use Rattle.std.specs.Prelude.{◌≡◌, ℕ, ◌+◌, Bool, true, false, not, ◌||◌, List, [], ◌∷◌, ◌++◌, length, replicate, Option, Some, None, is_some, if◌then◌else◌}
use Rattle.raw_trees.specs.Plain.{PlainDatum, PlainParam, PlainRoutine, PlainItem, PlainModule, PlainName, Datum, Routine}
use Rattle.rapid_model.specs.declared.signal_row.SignalRow.{SignalRow}
use Rattle.rapid_model.specs.declared.sort.Sort.{Sort}
use Rattle.rapid_model.specs.Names.{is_among}
use Rattle.data_scopes.specs.declared.data_row.DatumRow.{DatumRow}
use Rattle.data_scopes.specs.declared.data_row.ParamRow.{ParamRow}
use Rattle.data_scopes.specs.declared.meant.Meant.{Meant}
use Rattle.data_scopes.specs.declared.meant.Meant.TheVariants as meants
use Rattle.rule_checks.specs.declared.spot.Spot.{Spot}
use Rattle.data_scopes.specs.Declarations.{spot_of, type_of, is_own, item_scope, takes_sort}
use Rattle.data_scopes.specs.Numbers.{Tally, no_counts, is_const, is_pers, is_scalar_const, datum_meant, after_item, after_items, param_meant, local_meant, tables_of}
use Rattle.data_scopes.specs.Rows.{since_of, no_rows, with_datum, with_routine, outputs_of}
use Rattle.data_scopes.specs.Scopes.{Tables, Names, RoutineRow, Rows, list_at, meant_in, meant_outside, meaning}
use Rattle.rapid_model.specs.Sorts.{has_values}

-- the name of a type
abbrev pub IsSort : Tables → Spot → PlainName → Sort → Type 0
IsSort tables spot name sort = (meant : Meant) × (meaning tables spot name.text ≡ Some meant) × (type_of meant ≡ Some sort)

-- the type of a datum, which suits its kind
abbrev pub IsDatumSort : Tables → ℕ → Option ℕ → PlainDatum → Sort → Type 0
IsDatumSort tables number routine d sort =
    IsSort tables (spot_of number routine d.sort) d.sort sort × ((has_values sort || not (is_const d.kind)) ≡ true)
    × ((has_values sort || not (is_pers d.kind)) ≡ true)

-- the name of an item is its own, and not that of a signal or a predefined one
abbrev pub IsItemName : Tables → ℕ → Bool → Meant → PlainName → Type 0
IsItemName tables number local own name =
    (is_own own (meant_in name.text (item_scope tables number local)) ≡ true) × (is_some (meant_outside tables name.text) ≡ false)

-- a parameter at this place of a routine
abbrev pub IsParam : Tables → ℕ → ℕ → ℕ → PlainParam → Type 0
IsParam tables number routine place p =
    (sort : Sort) × IsSort tables (spot_of number (Some routine) p.sort) p.sort sort × (takes_sort p.mode sort ≡ true)
    × (is_own (param_meant place p.mode) (meant_in p.name.text (list_at tables.inner routine)) ≡ true)

abbrev pub AreParams : Tables → ℕ → ℕ → ℕ → List PlainParam → Type 0
AreParams tables number routine place [] = Unit {0}
AreParams tables number routine place (p ∷ ps) = IsParam tables number routine place p × AreParams tables number routine (place + 1) ps

-- the data of a routine, given the place of the first and the number of CONSTs before it
abbrev pub AreLocals : Tables → ℕ → ℕ → ℕ → ℕ → List PlainDatum → Type 0
AreLocals tables number routine place consts [] = Unit {0}
AreLocals tables number routine place consts (d ∷ ds) =
    (sort : Sort) × IsDatumSort tables number (Some routine) d sort
    × (is_own (local_meant place consts d) (meant_in d.name.text (list_at tables.inner routine)) ≡ true)
    × AreLocals tables number routine (place + 1) (consts + (if is_scalar_const d then 1 else 0)) ds

-- the type of a function's result, which has values
abbrev pub IsResult : Tables → ℕ → ℕ → Option PlainName → Type 0
IsResult tables number routine None = Unit {0}
IsResult tables number routine (Some name) =
    (sort : Sort) × IsSort tables (spot_of number (Some routine) name) name sort × (has_values sort ≡ true)

abbrev pub IsItem : Tables → ℕ → Tally → PlainItem → Type 0
IsItem tables number c (Datum local task d at) =
    (sort : Sort) × IsDatumSort tables number None d sort × IsItemName tables number local (datum_meant c d) d.name
IsItem tables number c (Routine r) =
    IsResult tables number c.routines r.result × IsItemName tables number r.local (meants.Routine c.routines) r.name
    × AreParams tables number c.routines 0 r.params × AreLocals tables number c.routines (length r.params) c.consts r.locals

abbrev pub AreItems : Tables → ℕ → Tally → List PlainItem → Type 0
AreItems tables number c [] = Unit {0}
AreItems tables number c (i ∷ is) = IsItem tables number c i × AreItems tables number (after_item c i) is

-- modules, given the number of the first, after modules with these names
abbrev pub AreModules : Tables → ℕ → List (List ℕ) → Tally → List PlainModule → Type 0
AreModules tables number names c [] = Unit {0}
AreModules tables number names c (m ∷ ms) =
    (is_among m.name.text names ≡ false) × AreItems tables number c m.items
    × AreModules tables (number + 1) (names ++ m.name.text ∷ []) (after_items c m.items) ms

-- a datum by its type
abbrev pub IsDatumRow : Tables → ℕ → Option ℕ → PlainDatum → DatumRow → Type 0
IsDatumRow tables number routine d row =
    (sort : Sort) × IsSort tables (spot_of number routine d.sort) d.sort sort × (row ≡ record { sort = sort; array = is_some d.len; since = since_of number d })

abbrev pub AreParamRows : Tables → ℕ → ℕ → List PlainParam → List ParamRow → List ParamRow → Type 0
AreParamRows tables number routine [] before past = past ≡ before
AreParamRows tables number routine (p ∷ ps) before past =
    (sort : Sort) × IsSort tables (spot_of number (Some routine) p.sort) p.sort sort
    × AreParamRows tables number routine ps (before ++ record { mode = p.mode; sort = sort } ∷ []) past

abbrev pub AreLocalRows : Tables → ℕ → ℕ → List PlainDatum → List DatumRow → List DatumRow → Type 0
AreLocalRows tables number routine [] before past = past ≡ before
AreLocalRows tables number routine (d ∷ ds) before past =
    (row : DatumRow) × IsDatumRow tables number (Some routine) d row × AreLocalRows tables number routine ds (before ++ row ∷ []) past

abbrev pub IsResultRow : Tables → ℕ → ℕ → Option PlainName → Option Sort → Type 0
IsResultRow tables number routine None result = result ≡ None
IsResultRow tables number routine (Some name) result =
    (sort : Sort) × IsSort tables (spot_of number (Some routine) name) name sort × (result ≡ Some sort)

abbrev pub IsRoutineRow : Tables → ℕ → ℕ → PlainRoutine → RoutineRow → Type 0
IsRoutineRow tables number routine r row =
    (result : Option Sort) × (params : List ParamRow) × (locals : List DatumRow) × IsResultRow tables number routine r.result result
    × AreParamRows tables number routine r.params [] params × AreLocalRows tables number routine r.locals [] locals
    × (row ≡ record { kind = r.kind; result = result; params = params; locals = locals })

abbrev pub IsItemRow : Tables → ℕ → PlainItem → Rows → Rows → Type 0
IsItemRow tables number (Datum local task d at) before past = (row : DatumRow) × IsDatumRow tables number None d row × (past ≡ with_datum before d row)
IsItemRow tables number (Routine r) before past =
    (row : RoutineRow) × IsRoutineRow tables number (length before.routines) r row × (past ≡ with_routine before row)

abbrev pub AreItemRows : Tables → ℕ → List PlainItem → Rows → Rows → Type 0
AreItemRows tables number [] before past = past ≡ before
AreItemRows tables number (i ∷ is) before past = (middle : Rows) × IsItemRow tables number i before middle × AreItemRows tables number is middle past

abbrev pub AreModuleRows : Tables → ℕ → List PlainModule → Rows → Rows → Type 0
AreModuleRows tables number [] before past = past ≡ before
AreModuleRows tables number (m ∷ ms) before past =
    (middle : Rows) × AreItemRows tables number m.items before middle × AreModuleRows tables (number + 1) ms middle past

-- the names of modules, whose declared names are valid
pub record AreNames (modules : List PlainModule) (signals : List SignalRow) (axes : ℕ) (names : Names) : Type 0 where
  pub rows : Rows
  pub right : AreModules (tables_of modules signals) 0 [] no_counts modules
  pub are_rows : AreModuleRows (tables_of modules signals) 0 modules no_rows rows
  pub are_names : names ≡ record {
    tables = tables_of modules signals;
    kept = replicate (length rows.consts) None;
    rows = rows;
    outputs = outputs_of signals;
    axes = axes;
  }
