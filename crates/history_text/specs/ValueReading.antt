-- Reading values, positions of an arm, shapes, and parts of persistents. These definitions are internal to proofs.
use Rattle.std.specs.Prelude.{ℕ, ◌+◌, ◌-◌, ◌^◌, ℤ, Bool, true, false, ◌&&◌, nat_le, nat_lt, if◌then◌else◌, List, [], ◌∷◌, ◌++◌, length, codes, Option, Some, None}
use Rattle.rapid_limits.specs.declared.TheConstants.{MOST_AXES}
use Rattle.rapid_num.specs.Reach.{absent_axes}
use Rattle.rapid_num.specs.declared.joints.Joints.{Joints}
use Rattle.rapid_num.specs.declared.shape.Bound.{Bound}
use Rattle.rapid_num.specs.declared.shape.Shape.{Shape}
use Rattle.rapid_model.specs.declared.part_name.PartName.{PartName}
use Rattle.rapid_model.specs.declared.part_name.PartName.TheVariants as parts
use Rattle.rapid_model.specs.declared.path.Path.{Path}
use Rattle.rapid_model.specs.declared.sort.Sort.{Sort}
use Rattle.rapid_model.specs.declared.sort.Sort.TheVariants as sorts
use Rattle.rapid_model.specs.declared.value.Value.{Value}
use Rattle.rapid_model.specs.declared.value.Value.TheVariants as values
use Rattle.history_text.specs.Reading.{◌>>=◌, after_word, few_at, many_at, next_num, nums_at, or_else, whole_at, num_at, truth_at, quoted_at}

-- nums in brackets: one, and this many more after commas
unfoldable pub nums_in_brackets : ℕ → List ℕ → Option (List ℤ × List ℕ)
nums_in_brackets more text = do
  first ← after_word (codes "[") text
  nums ← nums_at 44 more first
  rest ← after_word (codes "]") nums.1
  Some (nums.0, rest)

-- a jointtarget: its robjoint and its extjoint in brackets
unfoldable pub target_at : List ℕ → Option (Joints × List ℕ)
target_at text = do
  first ← after_word (codes "[") text
  robax ← nums_in_brackets 5 first
  comma ← after_word (codes ",") robax.1
  extax ← nums_in_brackets 5 comma
  rest ← after_word (codes "]") extax.1
  Some (record { axis = robax.0 ++ extax.0 }, rest)

-- a text as a value
abbrev pub text_value : List ℕ → Option (Value × List ℕ)
text_value text = quoted_at text >>= (λ t. Some (values.Text t.0, t.1))

-- a value of a type
unfoldable pub value_at : Sort → List ℕ → Option (Value × List ℕ)
value_at sorts.Num text = num_at text >>= (λ n. Some (values.Num n.0, n.1))
value_at sorts.Bool text = truth_at text >>= (λ b. Some (values.Bool b.0, b.1))
value_at sorts.Text text = text_value text
value_at sorts.Tasks text = text_value text
value_at sorts.RobJoint text = nums_in_brackets 5 text >>= (λ s. Some (values.Rob s.0, s.1))
value_at sorts.ExtJoint text = nums_in_brackets 5 text >>= (λ s. Some (values.Ext s.0, s.1))
value_at sorts.JointTarget text = target_at text >>= (λ t. Some (values.Target t.0, t.1))
value_at sorts.SpeedData text = nums_in_brackets 3 text >>= (λ s. Some (values.Speed s.0, s.1))
value_at _ text = None

-- a position whose first axes are these; the others are not given
abbrev pub place_of_axes : List ℤ → Joints
place_of_axes axes = record { axis = axes ++ absent_axes (MOST_AXES - length axes) }

-- a position of an arm, with as many axes as there are nums
unfoldable pub place_at : List ℕ → Option (Joints × List ℕ)
place_at text = do
  first ← num_at text
  Some (place_of_axes (first.0 ∷ (few_at (next_num 32) (MOST_AXES - 1) first.1).0), (few_at (next_num 32) (MOST_AXES - 1) first.1).1)

-- one of six axes: the number of the first one, and the byte that names it
unfoldable pub axis_at : ℕ → ℕ → List ℕ → Option (PartName × List ℕ)
axis_at first byte [] = None
axis_at first byte (b ∷ rest) = if nat_le byte b && nat_lt b (byte + 6) then Some (parts.Axis (b - byte + first), rest) else None

-- a part of a speed
unfoldable pub speed_at : List ℕ → Option (PartName × List ℕ)
speed_at text =
    or_else (after_word (codes ".v_tcp") text) (λ rest. Some (parts.SpeedPart 0, rest))
    (or_else (after_word (codes ".v_ori") text) (λ rest. Some (parts.SpeedPart 1, rest))
    (or_else (after_word (codes ".v_leax") text) (λ rest. Some (parts.SpeedPart 2, rest))
    (or_else (after_word (codes ".v_reax") text) (λ rest. Some (parts.SpeedPart 3, rest)) (Some (parts.Whole, text)))))

-- a part of a persistent
unfoldable pub part_at : List ℕ → Option (PartName × List ℕ)
part_at text =
    or_else (after_word (codes ".robax.rax_") text) (λ rest. axis_at 0 49 rest)
    (or_else (after_word (codes ".extax.eax_") text) (λ rest. axis_at 6 97 rest)
    (or_else (after_word (codes ".robax") text) (λ rest. Some (parts.Robax, rest))
    (or_else (after_word (codes ".extax") text) (λ rest. Some (parts.Extax, rest))
    (or_else (after_word (codes ".taskname") text) (λ rest. Some (parts.Taskname, rest)) (speed_at text)))))

-- an element in braces
unfoldable pub element_at : List ℕ → Option (ℕ × List ℕ)
element_at text =
    or_else (after_word (codes "{") text) (λ digits. whole_at (2 ^ 16) digits >>= (λ n. after_word (codes "}") n.1 >>= (λ rest. Some (n.0, rest)))) (Some (0, text))

-- the number of a persistent, and a part of it
unfoldable pub path_at : List ℕ → Option ((ℕ × Path) × List ℕ)
path_at text = do
  digits ← after_word (codes "P") text
  pers ← whole_at (2 ^ 32) digits
  element ← element_at pers.1
  part ← part_at element.1
  Some ((pers.0, record { index = element.0; part = part.0 }), part.1)

-- the bounds of an axis
unfoldable pub limits_at : List ℕ → Option (Bound × List ℕ)
limits_at text = do
  low ← num_at text
  second ← after_word (codes ":") low.1
  high ← num_at second
  Some (record { low = low.0; high = high.0 }, high.1)

-- the same, or a minus that belongs to no num, after a space
unfoldable pub bound_at : List ℕ → Option (Option Bound × List ℕ)
bound_at text =
    after_word (codes " ") text >>= (λ first. or_else (limits_at first) (λ b. Some (Some b.0, b.1)) (after_word (codes "-") first >>= (λ rest. Some (None, rest))))

unfoldable pub side_at : List ℕ → Option (Bool × List ℕ)
side_at text = or_else (after_word (codes "Inside") text) (λ rest. Some (true, rest)) (after_word (codes "Outside") text >>= (λ rest. Some (false, rest)))

-- the side, and twelve bounds
unfoldable pub shape_at : List ℕ → Option (Shape × List ℕ)
shape_at text = do
  side ← side_at text
  bounds ← many_at bound_at MOST_AXES side.1
  Some (record { inside = side.0; bounds = bounds.0 }, bounds.1)
