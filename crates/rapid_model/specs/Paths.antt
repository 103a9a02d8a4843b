-- The parts of persistents and their values.
use Rattle.std.specs.Prelude.{ℕ, Bool, false, ◌&&◌, nat_le, nat_lt, Option, Some, None, is_some, ◌==◌, if◌then◌else◌}
use Rattle.rapid_limits.specs.declared.TheConstants.{MOST_AXES, ROBOT_AXES}
use Rattle.rapid_model.specs.Lengths.{is_full}
use Rattle.rapid_model.specs.Limits.{is_within}
use Rattle.rapid_model.specs.Sorts.{is_value_of}
use Rattle.rapid_model.specs.declared.part_name.PartName.{PartName}
use Rattle.rapid_model.specs.declared.part_name.PartName.TheVariants as parts
use Rattle.rapid_model.specs.declared.path.Path.{Path}
use Rattle.rapid_model.specs.declared.pers_cell.PersCell.{PersCell}
use Rattle.rapid_model.specs.declared.sort.Sort.{Sort}
use Rattle.rapid_model.specs.declared.sort.Sort.TheVariants as sorts
use Rattle.rapid_model.specs.declared.value.Value.{Value}

abbrev pub num_where : Bool → Option Sort
num_where there = if there then Some sorts.Num else None

-- the type of a part of a value of this type; None if it has no such part
abbrev pub part_sort : Sort → PartName → Option Sort
part_sort sort parts.Whole = Some sort
part_sort sorts.JointTarget parts.Robax = Some sorts.RobJoint
part_sort sorts.JointTarget parts.Extax = Some sorts.ExtJoint
part_sort sorts.JointTarget (parts.Axis number) = num_where (nat_lt number MOST_AXES)
part_sort sorts.RobJoint (parts.Axis number) = num_where (nat_lt number 6)
part_sort sorts.ExtJoint (parts.Axis number) = num_where (nat_le ROBOT_AXES number && nat_lt number MOST_AXES)
part_sort sorts.SpeedData (parts.SpeedPart number) = num_where (nat_lt number 4)
part_sort sorts.Tasks parts.Taskname = Some sorts.Text
part_sort _ _ = None

-- an element of a datum of this length: 0 if it is not an array, else its number from 1
abbrev pub has_element : Option ℕ → ℕ → Bool
has_element None index = index == 0
has_element (Some len) index = is_within 1 len index

-- a value of the type, with the type's number of nums
abbrev pub has_sort : Sort → Value → Bool
has_sort sort value = is_value_of sort value && is_full value

-- the value has the type of this part of a value of this type
abbrev pub fits_part : Sort → PartName → Value → Bool
fits_part sort part value = fits (part_sort sort part)
  where
    fits : Option Sort → Bool
    fits None = false
    fits (Some inner) = has_sort inner value

-- the persistent has the element and the part at the path
abbrev pub has_path : PersCell → Path → Bool
has_path row path = has_element row.len path.index && is_some (part_sort row.sort path.part)
