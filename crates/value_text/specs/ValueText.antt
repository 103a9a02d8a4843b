-- How values are written, as RAPID writes them, without spaces; and the names of their parts and types.
use Rattle.std.specs.Prelude.{ℕ, Bool, true, false, ℤ, List, [], ◌∷◌, ◌++◌, ◌==◌, ◌||◌, flat_map, take, drop, codes, slice_get, if◌then◌else◌}
use Rattle.std.specs.Option.{unwrap_or}
use Rattle.rapid_limits.specs.declared.TheConstants.{ROBOT_AXES}
use Rattle.rapid_num.specs.NumText.{shortest_text}
use Rattle.rapid_model.specs.declared.part_name.PartName.{PartName}
use Rattle.rapid_model.specs.declared.part_name.PartName.TheVariants as parts
use Rattle.rapid_model.specs.declared.sort.Sort.{Sort}
use Rattle.rapid_model.specs.declared.sort.Sort.TheVariants as sorts
use Rattle.rapid_model.specs.declared.value.Value.{Value}
use Rattle.rapid_model.specs.declared.value.Value.TheVariants as values

-- values

abbrev pub truth_text : Bool → List ℕ
truth_text true = codes "TRUE"
truth_text false = codes "FALSE"

-- in quotes, a quote or a backslash is doubled
abbrev pub quoted_byte : ℕ → List ℕ
quoted_byte b = if b == 34 || b == 92 then b ∷ b ∷ [] else b ∷ []

abbrev pub quoted_text : List ℕ → List ℕ
quoted_text bytes = 34 ∷ flat_map quoted_byte bytes ++ 34 ∷ []

-- nums in brackets, with commas between
abbrev pub nums_text : List ℤ → List ℕ
nums_text [] = codes "[]"
nums_text (z ∷ zs) = 91 ∷ shortest_text z ++ (flat_map (λ y. 44 ∷ shortest_text y) zs ++ 93 ∷ [])

-- of a jointtarget: the axes of its robjoint, and those of its extjoint
abbrev pub target_text : List ℤ → List ℕ
target_text axes = 91 ∷ nums_text (take ROBOT_AXES axes) ++ (44 ∷ nums_text (drop ROBOT_AXES axes) ++ 93 ∷ [])

abbrev pub value_text : Value → List ℕ
value_text (values.Num n) = shortest_text n
value_text (values.Bool b) = truth_text b
value_text (values.Text text) = quoted_text text
value_text (values.Rob axes) = nums_text axes
value_text (values.Ext axes) = nums_text axes
value_text (values.Target joints) = target_text joints.axis
value_text (values.Speed parts) = nums_text parts

-- parts of values: each component after a dot, and nothing for the whole

abbrev pub axis_names : List (List ℕ)
axis_names =
    codes ".robax.rax_1" ∷ codes ".robax.rax_2" ∷ codes ".robax.rax_3" ∷ codes ".robax.rax_4" ∷ codes ".robax.rax_5" ∷ codes ".robax.rax_6"
    ∷ codes ".extax.eax_a" ∷ codes ".extax.eax_b" ∷ codes ".extax.eax_c" ∷ codes ".extax.eax_d" ∷ codes ".extax.eax_e" ∷ codes ".extax.eax_f" ∷ []

abbrev pub speed_names : List (List ℕ)
speed_names = codes ".v_tcp" ∷ codes ".v_ori" ∷ codes ".v_leax" ∷ codes ".v_reax" ∷ []

-- numbered from 0; there are no others
abbrev pub axis_text : ℕ → List ℕ
axis_text number = unwrap_or (slice_get axis_names number) []

abbrev pub speed_text : ℕ → List ℕ
speed_text number = unwrap_or (slice_get speed_names number) []

abbrev pub part_text : PartName → List ℕ
part_text parts.Whole = []
part_text parts.Robax = codes ".robax"
part_text parts.Extax = codes ".extax"
part_text (parts.Axis number) = axis_text number
part_text (parts.SpeedPart number) = speed_text number
part_text parts.Taskname = codes ".taskname"

-- types

abbrev pub sort_text : Sort → List ℕ
sort_text sorts.Num = codes "num"
sort_text sorts.Bool = codes "bool"
sort_text sorts.Text = codes "string"
sort_text sorts.RobJoint = codes "robjoint"
sort_text sorts.ExtJoint = codes "extjoint"
sort_text sorts.JointTarget = codes "jointtarget"
sort_text sorts.SpeedData = codes "speeddata"
sort_text sorts.Tasks = codes "tasks"
sort_text sorts.IntNum = codes "intnum"
sort_text sorts.SyncIdent = codes "syncident"
sort_text sorts.ShapeData = codes "shapedata"
sort_text sorts.WzTemporary = codes "wztemporary"
sort_text sorts.WzStationary = codes "wzstationary"
