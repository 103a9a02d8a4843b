-- What a name means at a spot: the innermost declaration of its name that is visible there.
use Rattle.std.specs.Prelude.{ℕ, Bool, zero, suc, List, [], ◌∷◌, length, map, Option, Some, None, slice_get, if◌then◌else◌, bytes_eq}
use Rattle.std.specs.Option.{option_map, option_or}
use Rattle.std.specs.Str.{str_to_ascii_lowercase}
use Rattle.std.specs.declared.alloc.Global.{Global}
use Rattle.std.specs.declared.vec.Vec.{Vec}
use Rattle.name_tables.specs.Names.{NameList, found_in, entered}
use Rattle.rapid_model.specs.declared.sort.Sort.{Sort}
use Rattle.rapid_model.specs.declared.value.Value.{Value}
use Rattle.rapid_builtins.specs.Names.{instruction_of, function_of, predefined_of}
use Rattle.rapid_model.specs.declared.routine_kind.RoutineKind.{RoutineKind}
use Rattle.data_scopes.specs.declared.data_row.DatumRow.{DatumRow}
use Rattle.data_scopes.specs.declared.data_row.ParamRow.{ParamRow}
use Rattle.data_scopes.specs.declared.meant.Meant.{Meant}
use Rattle.data_scopes.specs.declared.meant.Meant.TheVariants as meants
use Rattle.rule_checks.specs.declared.spot.Spot.{Spot}

-- The names of a scope, in lower case, and what they mean.
abbrev pub Scope : Type 0
Scope = NameList Meant

-- what a name means in a scope, case-insensitively
abbrev pub meant_in : List ℕ → Scope → Option Meant
meant_in name scope = found_in name scope

-- the scope with one more declaration; of two with the same name, the first one wins
abbrev pub declare : List ℕ → Meant → Scope → Scope
declare name meant scope = entered name meant scope

-- a FOR: its variable in lower case, and the number of the FOR around it, if any
pub record Loop : Type 0 where
  pub name : List ℕ
  pub outer : Option ℕ

-- The names of a task's modules: the items that are not LOCAL; the LOCAL ones of each module; the parameters and data
-- of each routine, and its FORs in text order; the signals.
pub record Tables : Type 0 where
  pub task : Scope
  pub own : List Scope
  pub inner : List Scope
  pub loops : List (List Loop)
  pub signals : Scope

-- how a routine is called, and what its data are
pub record RoutineRow : Type 0 where
  pub kind : RoutineKind
  pub result : Option Sort
  pub params : List ParamRow
  pub locals : List DatumRow

-- The declarations by their numbers: the CONSTs that are not arrays, the VARs and CONST arrays of the modules, the
-- PERSs, and the routines.
pub record Rows : Type 0 where
  pub consts : List DatumRow
  pub slots : List DatumRow
  pub pers : List DatumRow
  pub routines : List RoutineRow

-- The names; the values kept so far for CONSTs that are not arrays; the declarations; for each signal whether it is an
-- output; and how many axes the task's arm has, 0 if it has none.
pub record Names : Type 0 where
  pub tables : Tables
  pub kept : List (Option Value)
  pub rows : Rows
  pub outputs : List Bool
  pub axes : ℕ

-- this FOR if its variable has the name, else an outer one
abbrev pub named_or : List ℕ → ℕ → Option Loop → (Option ℕ → Option ℕ) → Option ℕ
named_or key number None further = None
named_or key number (Some loop) further = if bytes_eq key loop.name then Some number else further loop.outer

-- the FOR with this variable, searched outward from the FOR with this number; there are no more steps than FORs
abbrev pub loop_named : ℕ → List ℕ → List Loop → Option ℕ → Option ℕ
loop_named zero key loops number = None
loop_named (suc steps) key loops None = None
loop_named (suc steps) key loops (Some number) = named_or key number (slice_get loops number) (loop_named steps key loops)

-- the FORs of routines as lists
abbrev pub loop_rows : List (Vec Loop Global) → List (List Loop)
loop_rows lists = map (λ rows. rows.items) lists

-- the list at this index, or the empty one
abbrev pub list_at : {A : Type 0} → List (List A) → ℕ → List A
list_at [] index = []
list_at (xs ∷ more) zero = xs
list_at (xs ∷ more) (suc index) = list_at more index

-- in a routine: the variables of the enclosing FORs, then its parameters and data
abbrev pub meant_in_routine : Tables → List ℕ → Option ℕ → Option ℕ → Option Meant
meant_in_routine tables name None within = None
meant_in_routine tables name (Some routine) within =
    let loops = list_at tables.loops routine in
    option_or (option_map meants.For (loop_named (length loops) (str_to_ascii_lowercase name) loops within)) (meant_in name (list_at tables.inner routine))

-- a predefined name
unfoldable pub meant_predefined : List ℕ → Option Meant
meant_predefined name =
    option_or (option_map meants.Instruction (instruction_of name))
    (option_or (option_map meants.Function (function_of name)) (option_map meants.Predefined (predefined_of name)))

-- a signal or a predefined name
abbrev pub meant_outside : Tables → List ℕ → Option Meant
meant_outside tables name = option_or (meant_in name tables.signals) (meant_predefined name)

-- what a name means at a spot
abbrev pub meaning : Tables → Spot → List ℕ → Option Meant
meaning tables spot name =
    option_or (meant_in_routine tables name spot.routine spot.within)
    (option_or (meant_in name (list_at tables.own spot.«module»)) (option_or (meant_in name tables.task) (meant_outside tables name)))
