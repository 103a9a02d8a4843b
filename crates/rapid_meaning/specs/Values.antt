-- The expected form of a value, and the results of operators.
use Rattle.std.specs.Prelude.{ℕ, ◌*◌, Bool, true, false, not, ℤ, pos, neg_ℤ, List, ◌∷◌, Option, None, Some, if◌then◌else◌}
use Rattle.std.specs.Ordering.{int_eq}
use Rattle.rapid_num.specs.declared.joints.Joints.{Joints}
use Rattle.rapid_num.specs.declared.shape.Shape.{Shape}
use Rattle.rapid_model.specs.declared.fate.Fault.TheVariants.{NumRange, SignalValue}
use Rattle.rapid_model.specs.declared.value.Value.{Value}
use Rattle.rapid_model.specs.declared.value.Value.TheVariants as values
use Rattle.rapid_model.specs.declared.operator.Operator.{Operator}
use Rattle.rapid_values.specs.Operators.{apply, decides}
use Rattle.rapid_values.specs.declared.applied.Applied.{Applied}
use Rattle.rapid_values.specs.declared.applied.Applied.TheVariants as applies
use Rattle.typed_trees.specs.declared.datum.Datum.{Datum}
use Rattle.typed_trees.specs.declared.datum.Datum.TheVariants.{Plain, Mark, Shape as OfShape}
use Rattle.rapid_meaning.specs.Doings.{Doing, Gives, Raises, Misfit, fault, ◌>>=◌}

abbrev pub value_in : Datum → Doing Value
value_in (Plain v) = Gives v
value_in _ = Misfit

abbrev pub mark_in : Datum → Doing ℕ
mark_in (Mark number) = Gives number
mark_in _ = Misfit

abbrev pub shape_in : Datum → Doing (Option Shape)
shape_in (OfShape shape) = Gives shape
shape_in _ = Misfit

abbrev pub num_in : Value → Doing ℤ
num_in (values.Num n) = Gives n
num_in _ = Misfit

abbrev pub truth_in : Value → Doing Bool
truth_in (values.Bool b) = Gives b
truth_in _ = Misfit

abbrev pub text_in : Value → Doing (List ℕ)
text_in (values.Text text) = Gives text
text_in _ = Misfit

abbrev pub target_in : Value → Doing Joints
target_in (values.Target joints) = Gives joints
target_in _ = Misfit

-- the tool's speed, the first component of a speeddata
abbrev pub tool_speed_in : Value → Doing ℤ
tool_speed_in (values.Speed (tool ∷ others)) = Gives tool
tool_speed_in _ = Misfit

-- the value of a signal, which is 0 or 1
abbrev pub bit_in : Value → Doing Bool
bit_in (values.Num n) =
    if int_eq n (pos 0) then Gives false
    else if int_eq n (pos 1_000) then Gives true
    else fault SignalValue
bit_in _ = Misfit

-- a whole number as a num
abbrev pub whole : ℕ → Value
whole n = values.Num (pos (n * 1_000))

abbrev pub of_bit : Bool → Value
of_bit true = whole 1
of_bit false = whole 0

-- a num, or the fault of one out of range
abbrev pub in_range : Option ℤ → Doing Value
in_range (Some n) = Gives (values.Num n)
in_range None = fault NumRange

abbrev pub applied : Applied → Doing Value
applied (applies.Gives v) = Gives v
applied (applies.Raises n) = Raises n
applied applies.OutOfRange = fault NumRange
applied applies.Unfit = Misfit

abbrev pub unless_decided : Option Bool → Value → Doing Value → Doing Value
unless_decided None v more = Misfit
unless_decided (Some true) v more = Gives v
unless_decided (Some false) v more = more

-- a binary operator; its right operand is skipped if the left one decides
abbrev pub between : Operator → Value → Doing Value → Doing Value
between o v right = unless_decided (decides o v) v (right >>= λ w. applied (apply o v w))

abbrev pub opposite : Value → Doing Value
opposite (values.Bool b) = Gives (values.Bool (not b))
opposite _ = Misfit

-- a leading sign
abbrev pub with_sign : Bool → Value → Doing Value
with_sign minus (values.Num n) = Gives (values.Num (if minus then neg_ℤ n else n))
with_sign minus _ = Misfit
