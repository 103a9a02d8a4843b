-- The value of an expression that is known before the run (RAPID Kernel, constant expressions), by recursion on its
-- tree.
use Rattle.std.specs.Prelude.{ℕ, ◌-◌, Bool, true, false, not, ◌&&◌, neg_ℤ, List, [], ◌∷◌, length, map, is_some, slice_get, Option, None, Some, unwrap_or, if◌then◌else◌}
use Rattle.std.specs.Option.{option_and_then, option_map}
use Rattle.std.specs.declared.alloc.Global.{Global}
use Rattle.std.specs.declared.vec.Vec.{Vec}
use Rattle.rapid_model.specs.declared.sort.Sort.{Sort}
use Rattle.rapid_model.specs.declared.value.Value.{Value}
use Rattle.rapid_model.specs.declared.value.Value.TheVariants as values
use Rattle.rapid_model.specs.declared.operator.Operator.{Operator}
use Rattle.rapid_values.specs.declared.applied.Applied.{Applied}
use Rattle.rapid_values.specs.declared.applied.Applied.TheVariants.{Gives, Raises, OutOfRange, Unfit}
use Rattle.rapid_values.specs.Elements.{element_number}
use Rattle.rapid_values.specs.Operators.{apply, decides as decides_by_type}
use Rattle.rapid_values.specs.Values.{part_of, made_of}
use Rattle.rapid_model.specs.declared.part_name.PartName.{PartName}
use Rattle.typed_trees.specs.Plain.{TypedExpr, TypedExprs, TypedSteps, Known, ErrorNumber, SignalValue, Stored, Group, Aggregate, Builtin, Invoke, Not, Signed, Chain, NoExprs, MoreExprs, NoSteps, MoreSteps, NotHeld, Held, PlaceOf}
use Rattle.typed_trees.specs.declared.expr.TreeRoot.{TreeRoot}
use Rattle.typed_trees.specs.declared.expr.TreeRoot.TheVariants as roots
use Rattle.constant_meaning.specs.declared.arrays.Arrays.{Arrays}
use Rattle.constant_meaning.specs.declared.outcome.Outcome.{Outcome}
use Rattle.constant_meaning.specs.declared.outcome.Outcome.TheVariants as outcomes

-- the elements of constant arrays, by the number of their slot or their index in the routine
pub record Elements : Type 0 where
  pub slots : List (Option (List Value))
  pub locals : List (Option (List Value))

-- the elements of an array, if they are known
abbrev pub items_of : Option (Vec Value Global) → Option (List Value)
items_of elements = option_map (λ v. v.items) elements

-- the arrays passed to an evaluation
abbrev pub elements_of : Arrays → Elements
elements_of arrays = record { slots = map items_of arrays.slots.now; locals = map items_of arrays.locals.now }

-- several outcomes in turn: all values, or the first outcome that is not a value
pub data Outcomes : Type 0 where
  all : List Value → Outcomes
  stops : Outcome → Outcomes

abbrev pub flat : {A : Type 0} → Option (Option A) → Option A
flat None = None
flat (Some x) = x

abbrev pub array_of : Elements → TreeRoot → Option (List Value)
array_of known (roots.Slot k) = flat (slice_get known.slots k)
array_of known (roots.Local k) = flat (slice_get known.locals k)
array_of known (roots.Ref k) = None
array_of known (roots.Pers k) = None

abbrev pub value_or_not_known : Option Value → Outcome
value_or_not_known (Some v) = outcomes.Value v
value_or_not_known None = outcomes.NotKnown

abbrev pub element_part : List Value → PartName → Option ℕ → Outcome
element_part elements part None = outcomes.OutOfArray
element_part elements part (Some number) = value_or_not_known (option_and_then (λ v. part_of v part) (slice_get elements (number - 1)))

-- a part of an element, given the outcome of its index
abbrev pub element_at : Option (List Value) → PartName → Outcome → Outcome
element_at None part index = outcomes.NotKnown
element_at (Some elements) part (outcomes.Value (values.Num n)) = element_part elements part (element_number (length elements) n)
element_at (Some elements) part (outcomes.Value v) = outcomes.NotKnown
element_at (Some elements) part other = other

abbrev pub applied : Applied → Outcome
applied (Gives v) = outcomes.Value v
applied (Raises n) = outcomes.Raises n
applied OutOfRange = outcomes.OutOfRange
applied Unfit = outcomes.NotKnown

-- the left operand decides; one of a type that the operator does not take decides nothing
abbrev pub decides : Operator → Value → Bool
decides o v = unwrap_or (decides_by_type o v) false

abbrev pub on_right : Operator → Value → Outcome → Outcome
on_right o v (outcomes.Value w) = applied (apply o v w)
on_right o v other = other

-- an operator on the outcomes of its operands; the right one is skipped if the left one decides
abbrev pub between : Operator → Outcome → Outcome → Outcome
between o (outcomes.Value v) right = if decides o v then outcomes.Value v else on_right o v right
between o other right = other

abbrev pub opposite : Outcome → Outcome
opposite (outcomes.Value (values.Bool b)) = outcomes.Value (values.Bool (not b))
opposite (outcomes.Value v) = outcomes.NotKnown
opposite other = other

abbrev pub with_sign : Bool → Outcome → Outcome
with_sign true (outcomes.Value (values.Num n)) = outcomes.Value (values.Num (neg_ℤ n))
with_sign false (outcomes.Value (values.Num n)) = outcomes.Value (values.Num n)
with_sign minus (outcomes.Value v) = outcomes.NotKnown
with_sign minus other = other

abbrev pub and_more : Outcome → Outcomes → Outcomes
and_more (outcomes.Value v) (all vs) = all (v ∷ vs)
and_more (outcomes.Value v) (stops other) = stops other
and_more other more = stops other

abbrev pub made : Sort → Outcomes → Outcome
made sort (all vs) = value_or_not_known (made_of sort vs)
made sort (stops other) = other

unfoldable mutual
  pub constant_value : Elements → TypedExpr → Outcome
  constant_value known (Known at sort v) = outcomes.Value v
  constant_value known (ErrorNumber at sort) = outcomes.NotKnown
  constant_value known (SignalValue at sort signal) = outcomes.NotKnown
  constant_value known (Stored at sort (PlaceOf root NotHeld part kind)) = outcomes.NotKnown
  constant_value known (Stored at sort (PlaceOf root (Held index) part kind)) = element_at (array_of known root) part (constant_value known index)
  constant_value known (Group at sort e) = constant_value known e
  constant_value known (Aggregate at sort es) = made sort (constant_values known es)
  constant_value known (Builtin at sort function args) = outcomes.NotKnown
  constant_value known (Invoke at sort routine args) = outcomes.NotKnown
  constant_value known (Not at sort e) = opposite (constant_value known e)
  constant_value known (Signed at sort minus e) = with_sign minus (constant_value known e)
  constant_value known (Chain at sort e steps) = along known (constant_value known e) steps

  pub constant_values : Elements → TypedExprs → Outcomes
  constant_values known NoExprs = all []
  constant_values known (MoreExprs e es) = and_more (constant_value known e) (constant_values known es)

  pub along : Elements → Outcome → TypedSteps → Outcome
  along known left NoSteps = left
  along known left (MoreSteps o e steps) = along known (between o left (constant_value known e)) steps

-- everything in it is known before the run: no variable, persistent, signal or call, not even in parts that are skipped
unfoldable mutual
  pub is_constant : Elements → TypedExpr → Bool
  is_constant known (Known at sort v) = true
  is_constant known (ErrorNumber at sort) = false
  is_constant known (SignalValue at sort signal) = false
  is_constant known (Stored at sort (PlaceOf root NotHeld part kind)) = false
  is_constant known (Stored at sort (PlaceOf root (Held index) part kind)) = is_some (array_of known root) && is_constant known index
  is_constant known (Group at sort e) = is_constant known e
  is_constant known (Aggregate at sort es) = are_constant known es
  is_constant known (Builtin at sort function args) = false
  is_constant known (Invoke at sort routine args) = false
  is_constant known (Not at sort e) = is_constant known e
  is_constant known (Signed at sort minus e) = is_constant known e
  is_constant known (Chain at sort e steps) = is_constant known e && are_constant_steps known steps

  pub are_constant : Elements → TypedExprs → Bool
  are_constant known NoExprs = true
  are_constant known (MoreExprs e es) = is_constant known e && are_constant known es

  pub are_constant_steps : Elements → TypedSteps → Bool
  are_constant_steps known NoSteps = true
  are_constant_steps known (MoreSteps o e steps) = is_constant known e && are_constant_steps known steps
