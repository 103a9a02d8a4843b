-- Values of the data types.
use Rattle.std.specs.Prelude.{ℕ, Bool, true, false, ◌&&◌, ◌==◌, List, length, Option, Some, None}
use Rattle.std.specs.List.{list_all}
use Rattle.rapid_model.specs.declared.sort.Sort.{Sort}
use Rattle.rapid_model.specs.declared.sort.Sort.TheVariants as sorts
use Rattle.rapid_model.specs.declared.value.Value.{Value}
use Rattle.rapid_model.specs.declared.value.Value.TheVariants as values

-- data of the type have values in expressions
abbrev pub has_values : Sort → Bool
has_values sorts.IntNum = false
has_values sorts.SyncIdent = false
has_values sorts.ShapeData = false
has_values sorts.WzTemporary = false
has_values sorts.WzStationary = false
has_values _ = true

-- values of the type can be compared with `=` and `<>` (RAPID Overview, expressions)
abbrev pub is_compared : Sort → Bool
is_compared sorts.Num = true
is_compared sorts.Bool = true
is_compared sorts.Text = true
is_compared sorts.RobJoint = true
is_compared sorts.ExtJoint = true
is_compared sorts.JointTarget = true
is_compared sorts.SpeedData = true
is_compared _ = false

-- a value of the type; the value of a tasks is the text of its only component
abbrev pub is_value_of : Sort → Value → Bool
is_value_of sorts.Num (values.Num n) = true
is_value_of sorts.Bool (values.Bool b) = true
is_value_of sorts.Text (values.Text t) = true
is_value_of sorts.Tasks (values.Text t) = true
is_value_of sorts.RobJoint (values.Rob axes) = true
is_value_of sorts.ExtJoint (values.Ext axes) = true
is_value_of sorts.JointTarget (values.Target joints) = true
is_value_of sorts.SpeedData (values.Speed parts) = true
is_value_of _ _ = false

-- the number of elements of a datum: its length if it is an array, else one
abbrev pub width : Option ℕ → ℕ
width None = 1
width (Some n) = n

-- a value of the type for each element
abbrev pub are_values_of : Sort → Option ℕ → List Value → Bool
are_values_of sort len vs = length vs == width len && list_all (is_value_of sort) vs
