-- The start value of each type, the parts of a value, and a value with one part replaced.
use Rattle.std.specs.Prelude.{ℕ, ◌+◌, ◌-◌, false, nat_lt, ℤ, pos, List, [], ◌∷◌, ◌++◌, length, take, drop, replicate, slice_get, Option, None, Some, if◌then◌else◌, ◌==◌}
use Rattle.std.specs.Option.{option_map}
use Rattle.rapid_model.specs.declared.sort.Sort.{Sort}
use Rattle.rapid_model.specs.declared.sort.Sort.TheVariants as sorts
use Rattle.rapid_model.specs.declared.value.Value.{Value}
use Rattle.rapid_model.specs.declared.value.Value.TheVariants as values
use Rattle.rapid_model.specs.declared.part_name.PartName.{PartName}
use Rattle.rapid_model.specs.declared.part_name.PartName.TheVariants as parts

-- zero, FALSE or the empty string in every part; none for the types without values
abbrev pub start_value : Sort → Option Value
start_value sorts.Num = Some (values.Num (pos 0))
start_value sorts.Bool = Some (values.Bool false)
start_value sorts.Text = Some (values.Text [])
start_value sorts.Tasks = Some (values.Text [])
start_value sorts.RobJoint = Some (values.Rob (replicate 6 (pos 0)))
start_value sorts.ExtJoint = Some (values.Ext (replicate 6 (pos 0)))
start_value sorts.JointTarget = Some (values.Target (record { axis = replicate 12 (pos 0) }))
start_value sorts.SpeedData = Some (values.Speed (replicate 4 (pos 0)))
start_value _ = None

-- a num of a list
abbrev pub num_at : List ℤ → ℕ → Option Value
num_at nums index = option_map values.Num (slice_get nums index)

-- a part of a value; axes are numbered from 0 over both joints, those of an extjoint from 6
abbrev pub part_of : Value → PartName → Option Value
part_of value parts.Whole = Some value
part_of (values.Target joints) parts.Robax = Some (values.Rob (take 6 joints.axis))
part_of (values.Target joints) parts.Extax = Some (values.Ext (drop 6 joints.axis))
part_of (values.Target joints) (parts.Axis number) = num_at joints.axis number
part_of (values.Rob axes) (parts.Axis number) = num_at axes number
part_of (values.Ext axes) (parts.Axis number) = if nat_lt number 6 then None else num_at axes (number - 6)
part_of (values.Speed nums) (parts.SpeedPart number) = num_at nums number
part_of (values.Text text) parts.Taskname = Some (values.Text text)
part_of _ _ = None

-- the list with the num at an index replaced, if it has that index
abbrev pub with_num : List ℤ → ℕ → Value → Option (List ℤ)
with_num nums index (values.Num n) = if nat_lt index (length nums) then Some (take index nums ++ n ∷ drop (index + 1) nums) else None
with_num nums index _ = None

abbrev pub with_axes : List ℤ → Value
with_axes axes = values.Target (record { axis = axes })

-- the value with one part replaced and the others unchanged; none if the value has no such part, or the new part does
-- not have the part's type. The whole may be replaced by any value.
abbrev pub put_part : Value → PartName → Value → Option Value
put_part value parts.Whole new = Some new
put_part (values.Target joints) parts.Robax (values.Rob axes) = Some (with_axes (axes ++ drop 6 joints.axis))
put_part (values.Target joints) parts.Extax (values.Ext axes) = Some (with_axes (take 6 joints.axis ++ axes))
put_part (values.Target joints) (parts.Axis number) new = option_map with_axes (with_num joints.axis number new)
put_part (values.Rob axes) (parts.Axis number) new = option_map values.Rob (with_num axes number new)
put_part (values.Ext axes) (parts.Axis number) new = if nat_lt number 6 then None else option_map values.Ext (with_num axes (number - 6) new)
put_part (values.Speed nums) (parts.SpeedPart number) new = option_map values.Speed (with_num nums number new)
put_part (values.Text text) parts.Taskname (values.Text new) = Some (values.Text new)
put_part _ _ _ = None

-- the nums of values, if all of them are nums
abbrev pub nums_of : List Value → Option (List ℤ)
nums_of [] = Some []
nums_of (values.Num n ∷ vs) = option_map (λ ns. n ∷ ns) (nums_of vs)
nums_of _ = None

abbrev pub so_many : ℕ → (List ℤ → Value) → Option (List ℤ) → Option Value
so_many count make None = None
so_many count make (Some nums) = if length nums == count then Some (make nums) else None

-- the value of a record type with these components, in order
abbrev pub made_of : Sort → List Value → Option Value
made_of sorts.RobJoint vs = so_many 6 values.Rob (nums_of vs)
made_of sorts.ExtJoint vs = so_many 6 values.Ext (nums_of vs)
made_of sorts.SpeedData vs = so_many 4 values.Speed (nums_of vs)
made_of sorts.JointTarget (values.Rob rob ∷ values.Ext ext ∷ []) = Some (with_axes (rob ++ ext))
made_of sorts.Tasks (values.Text text ∷ []) = Some (values.Text text)
made_of _ _ = None
