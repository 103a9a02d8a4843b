-- The numbers that have a row among the declarations of a task's modules.
use Rattle.std.specs.Prelude.{◌<◌, length}
use Rattle.data_scopes.specs.declared.meant.Meant.{Meant}
use Rattle.data_scopes.specs.declared.meant.Meant.TheVariants as meants
use Rattle.data_scopes.specs.Scopes.{Rows}

-- a VAR or CONST array of a module, a PERS, a CONST that is not an array, or a routine has its row
abbrev pub HasRow : Rows → Meant → Type 0
HasRow rows (meants.Slot number) = number < length rows.slots
HasRow rows (meants.Pers number) = number < length rows.pers
HasRow rows (meants.Const number) = number < length rows.consts
HasRow rows (meants.Routine number) = number < length rows.routines
HasRow rows _ = Unit {0}
