-- Which row of a typed tree is that of a declaration: it has the same name, type and kind, and says whether it is an
-- array; for a persistent and a routine, also the same module and byte.
use Rattle.std.specs.Prelude.{◌≡◌, ℕ, Bool, true, false, not, length, Some, None, is_some}
use Rattle.raw_trees.specs.Plain.{PlainDatum, PlainParam, PlainRoutine}
use Rattle.typed_trees.specs.Plain.{TypedParam, TypedLocal, TypedRoutine, TypedSlot, TypedPers}
use Rattle.data_scopes.specs.Declarations.{spot_of}
use Rattle.data_scopes.specs.Loops.{loops_in_routine}
use Rattle.data_scopes.specs.Numbers.{is_const, is_pers, is_scalar_const}
use Rattle.data_scopes.specs.Scopes.{Tables}
use Rattle.name_laws.specs.Declared.{IsType, IsResultType, AreEach}

-- a VAR or an array CONST of the module with this number
pub record IsSlotRow (tables : Tables) (number : ℕ) (d : PlainDatum) (row : TypedSlot) : Type 0 where
  pub no_constant : is_scalar_const d ≡ false
  pub no_persistent : is_pers d.kind ≡ false
  pub name : row.name ≡ d.name.text
  pub variable : row.variable ≡ not (is_const d.kind)
  pub sort : IsType tables (spot_of number None d.sort) d.sort row.sort
  pub array : is_some row.len ≡ is_some d.len

-- a PERS of the module with this number; a LOCAL or a TASK one is the task's own
pub record IsPersRow (tables : Tables) (number : ℕ) (owned : Bool) (d : PlainDatum) (row : TypedPers) : Type 0 where
  pub persistent : is_pers d.kind ≡ true
  pub name : row.name ≡ d.name.text
  pub «module» : row.«module» ≡ number
  pub at : row.at ≡ d.name.at
  pub own : row.own ≡ owned
  pub sort : IsType tables (spot_of number None d.sort) d.sort row.sort
  pub array : is_some row.len ≡ is_some d.len

-- a parameter of the routine with this number
pub record IsParamRow (tables : Tables) (number routine : ℕ) (p : PlainParam) (row : TypedParam) : Type 0 where
  pub name : row.name ≡ p.name.text
  pub mode : row.mode ≡ p.mode
  pub sort : IsType tables (spot_of number (Some routine) p.sort) p.sort row.sort

-- a datum of the routine with this number
pub record IsLocalRow (tables : Tables) (number routine : ℕ) (d : PlainDatum) (row : TypedLocal) : Type 0 where
  pub name : row.name ≡ d.name.text
  pub variable : row.variable ≡ not (is_const d.kind)
  pub sort : IsType tables (spot_of number (Some routine) d.sort) d.sort row.sort
  pub array : is_some row.len ≡ is_some d.len

-- a routine with this number, with its parameters and its data, and the number of its FORs
pub record IsRoutineRow (tables : Tables) (number routine : ℕ) (r : PlainRoutine) (row : TypedRoutine) : Type 0 where
  pub name : row.name ≡ r.name.text
  pub «module» : row.«module» ≡ number
  pub at : row.at ≡ r.at
  pub kind : row.kind ≡ r.kind
  pub result : IsResultType tables (spot_of number (Some routine)) r.result row.result
  pub params : AreEach (IsParamRow tables number routine) r.params row.params
  pub locals : AreEach (IsLocalRow tables number routine) r.locals row.locals
  pub loops : row.loops ≡ length (loops_in_routine r)
