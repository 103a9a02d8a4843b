-- The results of operators (RAPID Overview, expressions; RAPID Kernel, operators; the arithmetic of nums is this
-- profile's own).
use Rattle.std.specs.Prelude.{ℕ, Bool, false, not, ◌&&◌, ◌||◌, nat_le, ℤ, pos, int_lt, List, ◌++◌, length, Option, Some, None, if◌then◌else◌}
use Rattle.std.specs.Ordering.{int_eq}
use Rattle.rapid_limits.specs.declared.TheConstants.{LONGEST_STRING}
use Rattle.rapid_num.specs.Arithmetic.{sum_of, difference_of, product_of, quotient_of, whole_quotient_of, remainder_of}
use Rattle.rapid_model.specs.declared.operator.Operator.{Operator}
use Rattle.rapid_model.specs.declared.operator.Operator.TheVariants as operators
use Rattle.rapid_model.specs.declared.value.Value.{Value}
use Rattle.rapid_model.specs.declared.value.Value.TheVariants as values
use Rattle.rapid_values.specs.declared.applied.Applied.{Applied}
use Rattle.rapid_values.specs.declared.applied.Applied.TheVariants.{Gives, Raises, OutOfRange, Unfit}
use Rattle.rapid_model.specs.Truths.{same_truth}
use Rattle.rapid_model.specs.declared.errors.TheConstants.{ERR_DIVZERO, ERR_STRTOOLNG}
use Rattle.rapid_values.specs.Equality.{same, are_alike}

-- a num if it is in range, else a fault
abbrev pub num_or_fault : Option ℤ → Applied
num_or_fault (Some n) = Gives (values.Num n)
num_or_fault None = OutOfRange

-- a division, unless the divisor is zero
abbrev pub unless_zero : ℤ → Applied → Applied
unless_zero divisor applied = if int_eq divisor (pos 0) then Raises ERR_DIVZERO else applied

-- two strings concatenated: at most 80 characters, else an error
abbrev pub joined : List ℕ → List ℕ → Applied
joined s t = if nat_le (length (s ++ t)) LONGEST_STRING then Gives (values.Text (s ++ t)) else Raises ERR_STRTOOLNG

abbrev pub of_nums : Operator → ℤ → ℤ → Applied
of_nums operators.Add m n = num_or_fault (sum_of m n)
of_nums operators.Sub m n = num_or_fault (difference_of m n)
of_nums operators.Mul m n = num_or_fault (product_of m n)
of_nums operators.Div m n = unless_zero n (num_or_fault (quotient_of m n))
of_nums operators.IntDiv m n = unless_zero n (num_or_fault (whole_quotient_of m n))
of_nums operators.Mod m n = unless_zero n (Gives (values.Num (remainder_of m n)))
of_nums operators.Less m n = Gives (values.Bool (int_lt m n))
of_nums operators.Greater m n = Gives (values.Bool (int_lt n m))
of_nums operators.LessEqual m n = Gives (values.Bool (not (int_lt n m)))
of_nums operators.GreaterEqual m n = Gives (values.Bool (not (int_lt m n)))
of_nums _ m n = Unfit

abbrev pub of_truths : Operator → Bool → Bool → Applied
of_truths operators.And a b = Gives (values.Bool (a && b))
of_truths operators.Or a b = Gives (values.Bool (a || b))
of_truths operators.Xor a b = Gives (values.Bool (not (same_truth a b)))
of_truths _ a b = Unfit

abbrev pub of_texts : Operator → List ℕ → List ℕ → Applied
of_texts operators.Add s t = joined s t
of_texts _ s t = Unfit

-- the operators other than = and <>
abbrev pub of_form : Operator → Value → Value → Applied
of_form o (values.Num m) (values.Num n) = of_nums o m n
of_form o (values.Bool a) (values.Bool b) = of_truths o a b
of_form o (values.Text s) (values.Text t) = of_texts o s t
of_form o _ _ = Unfit

-- whether the left operand decides the result, as FALSE does before AND, and TRUE before OR; both take bools only
abbrev pub decides : Operator → Value → Option Bool
decides operators.And (values.Bool b) = Some (not b)
decides operators.And v = None
decides operators.Or (values.Bool b) = Some b
decides operators.Or v = None
decides o v = Some false

-- the result of an operator on its left and right operands
abbrev pub apply : Operator → Value → Value → Applied
apply operators.Equal v w = if are_alike v w then Gives (values.Bool (same v w)) else Unfit
apply operators.NotEqual v w = if are_alike v w then Gives (values.Bool (not (same v w))) else Unfit
apply o v w = of_form o v w
