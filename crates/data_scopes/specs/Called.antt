-- The declarations, by number.
use Rattle.std.specs.Prelude.{ℕ, ◌+◌, ◌-◌, false, nat_lt, List, [], length, slice_get, Option, Some, None, if◌then◌else◌}
use Rattle.std.specs.Option.{option_and_then, option_map}
use Rattle.rapid_model.specs.declared.routine_kind.RoutineKind.{RoutineKind}
use Rattle.rapid_model.specs.declared.sort.Sort.{Sort}
use Rattle.data_scopes.specs.declared.data_row.DatumRow.{DatumRow}
use Rattle.data_scopes.specs.declared.data_row.ParamRow.{ParamRow}
use Rattle.data_scopes.specs.Scopes.{RoutineRow, Rows}

abbrev pub kind_of : Rows → ℕ → Option RoutineKind
kind_of rows routine = option_map (λ row. row.kind) (slice_get rows.routines routine)

-- the type of a function's result
abbrev pub result_of : Rows → ℕ → Option Sort
result_of rows routine = option_and_then (λ row. row.result) (slice_get rows.routines routine)

-- the parameters of a routine
abbrev pub params_in : Option RoutineRow → List ParamRow
params_in None = []
params_in (Some row) = row.params

abbrev pub params_of : Rows → ℕ → List ParamRow
params_of rows routine = params_in (slice_get rows.routines routine)

-- a by-value parameter as a datum
abbrev pub value_row : ParamRow → DatumRow
value_row param = record { sort = param.sort; array = false; since = None }

-- the datum at an index of a routine: its parameters come first, then its data
abbrev pub own_row : RoutineRow → ℕ → Option DatumRow
own_row row index =
    if nat_lt index (length row.params) then option_map value_row (slice_get row.params index)
    else slice_get row.locals (index - length row.params)

-- the same for the routine with a number
abbrev pub local_of : Rows → Option ℕ → ℕ → Option DatumRow
local_of rows routine index = option_and_then (λ r. option_and_then (λ row. own_row row index) (slice_get rows.routines r)) routine

-- the parameter at an index of a routine
abbrev pub param_of : Rows → Option ℕ → ℕ → Option ParamRow
param_of rows routine index = option_and_then (λ r. slice_get (params_of rows r) index) routine

-- how many parameters and data a routine has
abbrev pub data_count_in : Option RoutineRow → ℕ
data_count_in None = 0
data_count_in (Some row) = length row.params + length row.locals

abbrev pub data_count_of : Rows → Option ℕ → ℕ
data_count_of rows None = 0
data_count_of rows (Some routine) = data_count_in (slice_get rows.routines routine)
