-- What is declared, by its number among those of its kind: the types of data, and how routines are called.
use Rattle.std.specs.Prelude.{ℕ, ◌+◌, Bool, List, [], ◌∷◌, ◌++◌, length, map, Option, Some, None, is_some, Ok, if◌then◌else◌}
use Rattle.raw_trees.specs.Plain.{PlainExpr, PlainDatum, PlainParam, PlainRoutine, PlainItem, PlainModule, PlainName, Number, Quoted, Truth, Group, Aggregate, Invoke, Place, Not, Signed, Chain, Datum, Routine}
use Rattle.rapid_model.specs.declared.signal_row.SignalRow.{SignalRow}
use Rattle.rapid_model.specs.declared.sort.Sort.{Sort}
use Rattle.data_scopes.specs.declared.data_row.DatumRow.{DatumRow}
use Rattle.data_scopes.specs.declared.data_row.ParamRow.{ParamRow}
use Rattle.data_scopes.specs.declared.data_row.Since.{Since}
use Rattle.rule_checks.specs.Checks.{◌>>=◌}
use Rattle.rule_checks.specs.TypeChecks.{Checked}
use Rattle.data_scopes.specs.Declarations.{spot_of, sort_at}
use Rattle.data_scopes.specs.Numbers.{is_const, is_pers, is_scalar_const}
use Rattle.data_scopes.specs.Scopes.{Tables, RoutineRow, Rows}

-- the byte at which an expression starts
abbrev pub begin_of : PlainExpr → ℕ
begin_of (Number at text) = at
begin_of (Quoted at text) = at
begin_of (Truth at value) = at
begin_of (Group at e) = at
begin_of (Aggregate at es) = at
begin_of (Invoke at name args) = at
begin_of (Place at place) = at
begin_of (Not at e) = at
begin_of (Signed at minus e) = at
begin_of (Chain at e steps) = at

-- the byte at which the value of a datum starts, or that of its name if it has no value
abbrev pub value_at : PlainName → Option PlainExpr → ℕ
value_at name (Some e) = begin_of e
value_at name None = name.at

-- where a CONST is declared
abbrev pub since_of : ℕ → PlainDatum → Option Since
since_of number d = if is_const d.kind then Some (record { «module» = number; at = value_at d.name d.first }) else None

abbrev pub datum_row : Tables → ℕ → Option ℕ → PlainDatum → Checked DatumRow
datum_row tables number routine d =
    sort_at tables (spot_of number routine d.sort) d.sort >>= (λ sort.
    Ok (record { sort = sort; array = is_some d.len; since = since_of number d }))

abbrev pub no_rows : Rows
no_rows = record { consts = []; slots = []; pers = []; routines = [] }

-- these rows and one for a CONST that is not an array, a PERS, or another datum
abbrev pub rows_by : Rows → Bool → Bool → DatumRow → Rows
rows_by rows scalar pers row =
    if scalar then record { consts = rows.consts ++ row ∷ []; slots = rows.slots; pers = rows.pers; routines = rows.routines }
    else if pers then record { consts = rows.consts; slots = rows.slots; pers = rows.pers ++ row ∷ []; routines = rows.routines }
    else record { consts = rows.consts; slots = rows.slots ++ row ∷ []; pers = rows.pers; routines = rows.routines }

-- these rows and one for this datum
abbrev pub with_datum : Rows → PlainDatum → DatumRow → Rows
with_datum rows d row = rows_by rows (is_scalar_const d) (is_pers d.kind) row

abbrev pub param_row : Tables → ℕ → ℕ → PlainParam → Checked ParamRow
param_row tables number routine p =
    sort_at tables (spot_of number (Some routine) p.sort) p.sort >>= (λ sort. Ok (record { mode = p.mode; sort = sort }))

abbrev pub param_rows : Tables → ℕ → ℕ → List PlainParam → List ParamRow → Checked (List ParamRow)
param_rows tables number routine [] rows = Ok rows
param_rows tables number routine (p ∷ ps) rows =
    param_row tables number routine p >>= (λ row. param_rows tables number routine ps (rows ++ row ∷ []))

abbrev pub local_rows : Tables → ℕ → ℕ → List PlainDatum → List DatumRow → Checked (List DatumRow)
local_rows tables number routine [] rows = Ok rows
local_rows tables number routine (d ∷ ds) rows =
    datum_row tables number (Some routine) d >>= (λ row. local_rows tables number routine ds (rows ++ row ∷ []))

-- the rows of the CONSTs among a routine's data that are not arrays
abbrev pub scalar_rows : List DatumRow → List DatumRow
scalar_rows [] = []
scalar_rows (row ∷ rows) = if is_some row.since then (if row.array then scalar_rows rows else row ∷ scalar_rows rows) else scalar_rows rows

abbrev pub result_row : Tables → ℕ → ℕ → Option PlainName → Checked (Option Sort)
result_row tables number routine None = Ok None
result_row tables number routine (Some name) =
    sort_at tables (spot_of number (Some routine) name) name >>= (λ sort. Ok (Some sort))

abbrev pub routine_row : Tables → ℕ → ℕ → PlainRoutine → Checked RoutineRow
routine_row tables number routine r =
    result_row tables number routine r.result >>= (λ result.
    param_rows tables number routine r.params [] >>= (λ params.
    local_rows tables number routine r.locals [] >>= (λ locals.
    Ok (record { kind = r.kind; result = result; params = params; locals = locals }))))

abbrev pub with_routine : Rows → RoutineRow → Rows
with_routine rows row = record {
  consts = rows.consts ++ scalar_rows row.locals;
  slots = rows.slots;
  pers = rows.pers;
  routines = rows.routines ++ row ∷ [];
}

-- these rows and those of an item of a module
abbrev pub item_rows : Tables → ℕ → PlainItem → Rows → Checked Rows
item_rows tables number (Datum local task d at) rows = datum_row tables number None d >>= (λ row. Ok (with_datum rows d row))
item_rows tables number (Routine r) rows = routine_row tables number (length rows.routines) r >>= (λ row. Ok (with_routine rows row))

abbrev pub items_rows : Tables → ℕ → List PlainItem → Rows → Checked Rows
items_rows tables number [] rows = Ok rows
items_rows tables number (item ∷ items) rows = item_rows tables number item rows >>= (λ more. items_rows tables number items more)

-- these rows and those of the modules, given the number of the first
abbrev pub modules_rows : Tables → ℕ → List PlainModule → Rows → Checked Rows
modules_rows tables number [] rows = Ok rows
modules_rows tables number (m ∷ ms) rows =
    items_rows tables number m.items rows >>= (λ more. modules_rows tables (number + 1) ms more)

-- for each signal, whether it is an output
abbrev pub outputs_of : List SignalRow → List Bool
outputs_of signals = map (λ row. row.output) signals
