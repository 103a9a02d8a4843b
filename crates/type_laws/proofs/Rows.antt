-- The rows of declarations, and the names of a task's modules.
use Rattle.std.proofs.Common.{◌≡◌, ◌↔◌, ℕ, ◌+◌, Bool, List, [], ◌∷◌, ◌++◌, length, Option, Some, None, Ok}
use Rattle.raw_trees.specs.Plain.{PlainDatum, PlainParam, PlainRoutine, PlainItem, PlainModule, PlainName, Datum, Routine}
use Rattle.rapid_model.specs.declared.signal_row.SignalRow.{SignalRow}
use Rattle.rapid_model.specs.declared.sort.Sort.{Sort}
use Rattle.data_scopes.specs.declared.data_row.DatumRow.{DatumRow}
use Rattle.data_scopes.specs.declared.data_row.ParamRow.{ParamRow}
use Rattle.rule_checks.specs.declared.spot.Spot.{Spot}
use Rattle.data_scopes.specs.Declarations.{spot_of, sort_at, modules_rules}
use Rattle.data_scopes.specs.Naming.{names_of}
use Rattle.data_scopes.specs.Numbers.{no_counts, tables_of}
use Rattle.data_scopes.specs.Rows.{datum_row, param_rows, local_rows, result_row, routine_row, item_rows, items_rows, modules_rows, no_rows, with_datum, with_routine}
use Rattle.data_scopes.specs.Scopes.{Tables, Names, RoutineRow, Rows}
use Rattle.type_laws.proofs.Steps.{in_words, done, then}
use Rattle.type_laws.specs.DeclaredNames.{IsDatumRow, AreParamRows, AreLocalRows, IsResultRow, IsRoutineRow, IsItemRow, AreItemRows, AreModuleRows, AreNames}
use Rattle.type_laws.proofs.TaskSteps.{regrouped, where_they_hold}
use Rattle.type_laws.proofs.DeclaredNames.{sort_law, modules_law}

datum_row_law : (tables : Tables) (number : ℕ) (routine : Option ℕ) (d : PlainDatum) (row : DatumRow) → (datum_row tables number routine d ≡ Ok row) ↔ IsDatumRow tables number routine d row
datum_row_law tables number routine d row =
    let spot : Spot = spot_of number routine d.sort in
    then (sort_at tables spot d.sort) _ row (sort_law tables spot d.sort) (λ sort. done _ row)

param_rows_law : (tables : Tables) (number routine : ℕ) (ps : List PlainParam) (before past : List ParamRow) → (param_rows tables number routine ps before ≡ Ok past) ↔ AreParamRows tables number routine ps before past
param_rows_law tables number routine [] before past = done before past
param_rows_law tables number routine (p ∷ ps) before past =
    let spot : Spot = spot_of number (Some routine) p.sort in
    regrouped (sort_at tables spot p.sort) _ _ past (
    then (sort_at tables spot p.sort) _ past (sort_law tables spot p.sort) (λ sort.
    param_rows_law tables number routine ps (before ++ record { mode = p.mode; sort = sort } ∷ []) past))

local_rows_law : (tables : Tables) (number routine : ℕ) (ds : List PlainDatum) (before past : List DatumRow) → (local_rows tables number routine ds before ≡ Ok past) ↔ AreLocalRows tables number routine ds before past
local_rows_law tables number routine [] before past = done before past
local_rows_law tables number routine (d ∷ ds) before past =
    then (datum_row tables number (Some routine) d) _ past (datum_row_law tables number (Some routine) d) (λ row. local_rows_law tables number routine ds (before ++ row ∷ []) past)

result_row_law : (tables : Tables) (number routine : ℕ) (name : Option PlainName) (result : Option Sort) → (result_row tables number routine name ≡ Ok result) ↔ IsResultRow tables number routine name result
result_row_law tables number routine None result = done None result
result_row_law tables number routine (Some name) result =
    let spot : Spot = spot_of number (Some routine) name in
    then (sort_at tables spot name) _ result (sort_law tables spot name) (λ sort. done (Some sort) result)

routine_row_law : (tables : Tables) (number routine : ℕ) (r : PlainRoutine) (row : RoutineRow) → (routine_row tables number routine r ≡ Ok row) ↔ IsRoutineRow tables number routine r row
routine_row_law tables number routine r row =
    in_words
    (then (result_row tables number routine r.result) _ row (result_row_law tables number routine r.result) (λ result.
    then (param_rows tables number routine r.params []) _ row (param_rows_law tables number routine r.params []) (λ params.
    then (local_rows tables number routine r.locals []) _ row (local_rows_law tables number routine r.locals []) (λ locals.
    done (record { kind = r.kind; result = result; params = params; locals = locals }) row))))
    (λ (result, is_result, (params, are_params, (locals, are_locals, is))). (result, params, locals, is_result, are_params, are_locals, is))
    (λ (result, params, locals, is_result, are_params, are_locals, is). (result, is_result, (params, are_params, (locals, are_locals, is))))

item_rows_law : (tables : Tables) (number : ℕ) (i : PlainItem) (before past : Rows) → (item_rows tables number i before ≡ Ok past) ↔ IsItemRow tables number i before past
item_rows_law tables number (Datum local task d at) before past =
    then (datum_row tables number None d) _ past (datum_row_law tables number None d) (λ row. done (with_datum before d row) past)
item_rows_law tables number (Routine r) before past =
    let routine : ℕ = length before.routines in
    then (routine_row tables number routine r) _ past (routine_row_law tables number routine r) (λ row. done (with_routine before row) past)

items_rows_law : (tables : Tables) (number : ℕ) (is : List PlainItem) (before past : Rows) → (items_rows tables number is before ≡ Ok past) ↔ AreItemRows tables number is before past
items_rows_law tables number [] before past = done before past
items_rows_law tables number (i ∷ is) before past =
    then (item_rows tables number i before) _ past (item_rows_law tables number i before) (λ middle. items_rows_law tables number is middle past)

modules_rows_law : (tables : Tables) (number : ℕ) (ms : List PlainModule) (before past : Rows) → (modules_rows tables number ms before ≡ Ok past) ↔ AreModuleRows tables number ms before past
modules_rows_law tables number [] before past = done before past
modules_rows_law tables number (m ∷ ms) before past =
    then (items_rows tables number m.items before) _ past (items_rows_law tables number m.items before) (λ middle. modules_rows_law tables (number + 1) ms middle past)

pub names_law : (modules : List PlainModule) (signals : List SignalRow) (axes : ℕ) (names : Names) → (names_of modules signals axes ≡ Ok names) ↔ AreNames modules signals axes names
names_law modules signals axes names =
    let tables : Tables = tables_of modules signals in
    in_words
    (where_they_hold (modules_rules tables 0 [] no_counts modules) _ names (modules_law tables 0 [] no_counts modules) (
    then (modules_rows tables 0 modules no_rows) _ names (modules_rows_law tables 0 modules no_rows) (λ rows. done _ names)))
    (λ (right, (rows, are_rows, are)). record { rows = rows; right = right; are_rows = are_rows; are_names = are })
    (λ h. (h.right, (h.rows, h.are_rows, h.are_names)))
