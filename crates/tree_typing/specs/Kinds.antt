-- The data of a routine: its parameters, its own data and its FORs, row by row and place by place.
use Rattle.std.specs.Prelude.{ℕ, zero, suc, Bool, true, false, List, [], ◌∷◌, ◌++◌, map, replicate, flat_map, drop, Option, None, slice_get}
use Rattle.rapid_model.specs.Sorts.{width}
use Rattle.rapid_model.specs.declared.sort.Sort.{Sort}
use Rattle.rapid_model.specs.declared.sort.Sort.TheVariants as sorts
use Rattle.rapid_model.specs.declared.mode.Mode.{Mode}
use Rattle.rapid_model.specs.declared.mode.Mode.TheVariants as modes
use Rattle.rapid_builtins.specs.declared.need.Need.{Need}
use Rattle.rapid_builtins.specs.Parameters.{parameter_need}
use Rattle.typed_trees.specs.Plain.{TypedLocal, TypedParam, TypedRoutine, TypedSlot, TypedTree}
use Rattle.typed_trees.specs.declared.datum.Datum.{Datum}

-- Owns: the routine's own variable, with its type, and its length if it is an array. Keeps: the same for a constant,
-- with its data. Refers: a place of a type that the caller passed by reference. Counts: the variable, the last value
-- and the step of a FOR.
pub data Kind : Type 0 where
  Owns : Sort → Option ℕ → Kind
  Keeps : Sort → Option ℕ → List Datum → Kind
  Refers : Sort → Kind
  Counts : Kind

abbrev pub kind_by : Mode → Sort → Kind
kind_by modes.Value sort = Owns sort None
kind_by mode sort = Refers sort

abbrev pub kind_of : TypedParam → Kind
kind_of param = kind_by param.mode param.sort

-- a row of data, of a variable or of a constant
abbrev pub kind_in : Bool → Sort → Option ℕ → List Datum → Kind
kind_in true sort len first = Owns sort len
kind_in false sort len first = Keeps sort len first

abbrev pub local_kind : TypedLocal → Kind
local_kind row = kind_in row.variable row.sort row.len row.first

abbrev pub slot_kind : TypedSlot → Kind
slot_kind row = kind_in row.variable row.sort row.len row.first

-- the rows of a routine: its parameters, its data, its FORs
abbrev pub kinds_of : TypedRoutine → List Kind
kinds_of routine = map kind_of routine.params ++ (map local_kind routine.locals ++ replicate routine.loops Counts)

-- what a parameter needs as its argument
abbrev pub need_of : TypedParam → Need
need_of param = parameter_need param.mode param.sort

-- what one place holds: a datum of a type; one fixed datum of a type; or the place of a datum of a type
pub data Cell : Type 0 where
  Holds : Sort → Cell
  Fixes : Sort → Option Datum → Cell
  Lends : Sort → Cell

-- the places of a constant, each with its datum
abbrev pub fixed_cells : Sort → ℕ → List Datum → List Cell
fixed_cells sort zero first = []
fixed_cells sort (suc n) first = Fixes sort (slice_get first 0) ∷ fixed_cells sort n (drop 1 first)

abbrev pub cells_of : Kind → List Cell
cells_of (Owns sort len) = replicate (width len) (Holds sort)
cells_of (Keeps sort len first) = fixed_cells sort (width len) first
cells_of (Refers sort) = Lends sort ∷ []
cells_of Counts = replicate 3 (Holds sorts.Num)

-- the places of a routine's data, and those of the modules'
abbrev pub local_cells : TypedRoutine → List Cell
local_cells routine = flat_map cells_of (kinds_of routine)

abbrev pub slot_cells : TypedTree → List Cell
slot_cells tree = flat_map cells_of (map slot_kind tree.slots)
