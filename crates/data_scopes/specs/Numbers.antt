-- What each declaration of a task's modules means: its number among those of its kind, in the order of modules and
-- text.
use Rattle.std.specs.Prelude.{ℕ, ◌+◌, Bool, true, false, ◌&&◌, List, [], ◌∷◌, ◌++◌, length, is_none, if◌then◌else◌}
use Rattle.raw_trees.specs.Plain.{PlainDatum, PlainParam, PlainRoutine, PlainItem, PlainModule, PlainName, Datum, Routine}
use Rattle.raw_trees.specs.declared.raw_datum.DatumKind.{DatumKind}
use Rattle.raw_trees.specs.declared.raw_datum.DatumKind.TheVariants as kinds
use Rattle.rapid_model.specs.declared.mode.Mode.{Mode}
use Rattle.rapid_model.specs.declared.mode.Mode.TheVariants as modes
use Rattle.data_scopes.specs.declared.counts.Counts.{Counts}
use Rattle.data_scopes.specs.declared.meant.Meant.{Meant}
use Rattle.data_scopes.specs.declared.meant.Meant.TheVariants as meants
use Rattle.data_scopes.specs.Loops.{loops_in_routine}
use Rattle.data_scopes.specs.Scopes.{Scope, Loop, Tables, declare}
use Rattle.rapid_model.specs.declared.signal_row.SignalRow.{SignalRow}

-- how many of each kind come before
abbrev pub Tally : Type 0
Tally = Counts

abbrev pub is_const : DatumKind → Bool
is_const kinds.Const = true
is_const kinds.Var = false
is_const kinds.Pers = false

abbrev pub is_pers : DatumKind → Bool
is_pers kinds.Pers = true
is_pers kinds.Const = false
is_pers kinds.Var = false

-- a CONST that is not an array
abbrev pub is_scalar_const : PlainDatum → Bool
is_scalar_const d = is_const d.kind && is_none d.len

abbrev pub scalar_consts : List PlainDatum → ℕ
scalar_consts [] = 0
scalar_consts (d ∷ ds) = (if is_scalar_const d then 1 else 0) + scalar_consts ds

-- what a datum of a module means, given the counts before it
abbrev pub datum_meant : Counts → PlainDatum → Meant
datum_meant c d =
    if is_scalar_const d then meants.Const c.consts
    else if is_pers d.kind then meants.Pers c.pers
    else meants.Slot c.slots

abbrev pub after_datum : Counts → PlainDatum → Counts
after_datum c d =
    if is_scalar_const d then record { slots = c.slots; pers = c.pers; consts = c.consts + 1; routines = c.routines }
    else if is_pers d.kind then record { slots = c.slots; pers = c.pers + 1; consts = c.consts; routines = c.routines }
    else record { slots = c.slots + 1; pers = c.pers; consts = c.consts; routines = c.routines }

-- a routine, and the CONSTs among its data
abbrev pub after_routine : Counts → PlainRoutine → Counts
after_routine c r = record { slots = c.slots; pers = c.pers; consts = c.consts + scalar_consts r.locals; routines = c.routines + 1 }

abbrev pub item_name : PlainItem → PlainName
item_name (Datum local task d at) = d.name
item_name (Routine r) = r.name

abbrev pub is_local : PlainItem → Bool
is_local (Datum local task d at) = local
is_local (Routine r) = r.local

abbrev pub item_meant : Counts → PlainItem → Meant
item_meant c (Datum local task d at) = datum_meant c d
item_meant c (Routine r) = meants.Routine c.routines

abbrev pub after_item : Counts → PlainItem → Counts
after_item c (Datum local task d at) = after_datum c d
after_item c (Routine r) = after_routine c r

abbrev pub after_items : Counts → List PlainItem → Counts
after_items c [] = c
after_items c (item ∷ items) = after_items (after_item c item) items

-- a by-value parameter is a variable of the routine, any other a reference
abbrev pub param_meant : ℕ → Mode → Meant
param_meant index modes.Value = meants.Local index
param_meant index modes.Inout = meants.Ref index
param_meant index modes.Var = meants.Ref index
param_meant index modes.Pers = meants.Ref index

-- the parameters, given the index of the first
abbrev pub declare_params : ℕ → List PlainParam → Scope → Scope
declare_params index [] scope = scope
declare_params index (p ∷ ps) scope = declare_params (index + 1) ps (declare p.name.text (param_meant index p.mode) scope)

-- what a datum of a routine means, at this index among its parameters and data, with this many CONSTs before it
abbrev pub local_meant : ℕ → ℕ → PlainDatum → Meant
local_meant index consts d = if is_scalar_const d then meants.Const consts else meants.Local index

abbrev pub declare_locals : ℕ → ℕ → List PlainDatum → Scope → Scope
declare_locals index consts [] scope = scope
declare_locals index consts (d ∷ ds) scope =
    declare_locals (index + 1) (consts + (if is_scalar_const d then 1 else 0)) ds (declare d.name.text (local_meant index consts d) scope)

-- the parameters and data of a routine
abbrev pub routine_scope : Counts → PlainRoutine → Scope
routine_scope c r = declare_locals (length r.params) c.consts r.locals (declare_params 0 r.params [])

-- the LOCAL items of a module
abbrev pub own_items : Counts → List PlainItem → Scope → Scope
own_items c [] scope = scope
own_items c (item ∷ items) scope =
    own_items (after_item c item) items (if is_local item then declare (item_name item).text (item_meant c item) scope else scope)

-- the items that are not LOCAL
abbrev pub task_items : Counts → List PlainItem → Scope → Scope
task_items c [] scope = scope
task_items c (item ∷ items) scope =
    task_items (after_item c item) items (if is_local item then scope else declare (item_name item).text (item_meant c item) scope)

-- the scope of a routine
abbrev pub item_scopes : Counts → PlainItem → List Scope
item_scopes c (Datum local task d at) = []
item_scopes c (Routine r) = routine_scope c r ∷ []

-- the scopes of the routines of a module
abbrev pub routine_scopes : Counts → List PlainItem → List Scope
routine_scopes c [] = []
routine_scopes c (item ∷ items) = item_scopes c item ++ routine_scopes (after_item c item) items

-- over all modules
abbrev pub task_scope : Counts → List PlainModule → Scope → Scope
task_scope c [] scope = scope
task_scope c (m ∷ ms) scope = task_scope (after_items c m.items) ms (task_items c m.items scope)

abbrev pub own_scopes : Counts → List PlainModule → List Scope
own_scopes c [] = []
own_scopes c (m ∷ ms) = own_items c m.items [] ∷ own_scopes (after_items c m.items) ms

abbrev pub inner_scopes : Counts → List PlainModule → List Scope
inner_scopes c [] = []
inner_scopes c (m ∷ ms) = routine_scopes c m.items ++ inner_scopes (after_items c m.items) ms

-- the FORs of the routines
abbrev pub item_loops : PlainItem → List (List Loop)
item_loops (Datum local task d at) = []
item_loops (Routine r) = loops_in_routine r ∷ []

abbrev pub items_loops : List PlainItem → List (List Loop)
items_loops [] = []
items_loops (item ∷ items) = item_loops item ++ items_loops items

abbrev pub all_loops : List PlainModule → List (List Loop)
all_loops [] = []
all_loops (m ∷ ms) = items_loops m.items ++ all_loops ms

-- the signals, given the number of the first
abbrev pub signal_scope : ℕ → List SignalRow → Scope → Scope
signal_scope number [] scope = scope
signal_scope number (row ∷ rows) scope = signal_scope (number + 1) rows (declare row.name (meants.Signal number) scope)

abbrev pub no_counts : Counts
no_counts = record { slots = 0; pers = 0; consts = 0; routines = 0 }

-- the names of a task's modules, with these signals
abbrev pub tables_of : List PlainModule → List SignalRow → Tables
tables_of modules signals = record {
  task = task_scope no_counts modules [];
  own = own_scopes no_counts modules;
  inner = inner_scopes no_counts modules;
  loops = all_loops modules;
  signals = signal_scope 0 signals [];
}
