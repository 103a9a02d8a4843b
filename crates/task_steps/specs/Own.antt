-- Places of the task's own data.
use Rattle.std.specs.Prelude.{◌≡◌, ℕ, ◌-◌, ℤ, length, Option, Some}
use Rattle.std.specs.Option.{option_and_then}
use Rattle.rapid_model.specs.declared.part_name.PartName.TheVariants as parts
use Rattle.rapid_model.specs.declared.value.Value.TheVariants as values
use Rattle.typed_trees.specs.declared.datum.Datum.TheVariants.{Plain}
use Rattle.typed_trees.specs.declared.datum.Lvalue.{Lvalue}
use Rattle.typed_trees.specs.declared.datum.Root.{Root}
use Rattle.typed_trees.specs.declared.datum.Root.TheVariants as roots
use Rattle.rapid_meaning.specs.Data.{Data, datum_at}
use Rattle.machine_stacks.specs.Forms.{as_num}

-- no persistent, which is the cell's
abbrev pub IsOwn : Root → Type 0
IsOwn (roots.Slot slot) = Unit {0}
IsOwn (roots.Frame frame at) = Unit {0}
IsOwn (roots.Pers pers index) = ⊥

-- the place is all of a datum of the task's own, which is this num
pub record IsNumAt (d : Data) (place : Lvalue) (n : ℤ) : Type 0 where
  pub whole : place.part ≡ parts.Whole
  pub num : datum_at place.root d ≡ Some (Plain (values.Num n))

-- the num that the innermost frame has at an index, if it has one
abbrev pub own_num_in : ℕ → Data → Option ℤ
own_num_in at d = option_and_then as_num (datum_at (roots.Frame (length d.frames - 1) at) d)
