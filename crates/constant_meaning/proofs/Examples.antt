-- Constant expressions worked by hand.
use Rattle.std.proofs.Common.{◌≡◌, refl, Bool, true, false, ℤ, pos, negsuc, [], ◌∷◌, Some}
use Rattle.rapid_model.specs.declared.operator.Operator.{Operator}
use Rattle.rapid_model.specs.declared.operator.Operator.TheVariants as operators
use Rattle.rapid_model.specs.declared.sort.Sort.TheVariants as sorts
use Rattle.rapid_model.specs.declared.value.Value.TheVariants as values
use Rattle.rapid_model.specs.declared.part_name.PartName.TheVariants as parts
use Rattle.typed_trees.specs.declared.expr.TreeRoot.TheVariants as roots
use Rattle.typed_trees.specs.Plain.{TypedExpr, Known, Stored, Aggregate, Not, Signed, Chain, NoExprs, MoreExprs, NoSteps, MoreSteps, NotHeld, Held, PlaceOf}
use Rattle.constant_meaning.specs.declared.outcome.Outcome.TheVariants as outcomes
use Rattle.constant_meaning.specs.Constants.{Elements, constant_value, is_constant}

-- the module's first datum is the constant array [10, 20, 30]
known : Elements
known = record { slots = Some (values.Num (pos 10_000) ∷ values.Num (pos 20_000) ∷ values.Num (pos 30_000) ∷ []) ∷ []; locals = [] }

num : ℤ → TypedExpr
num n = Known 0 sorts.Num (values.Num n)

truth : Bool → TypedExpr
truth b = Known 0 sorts.Bool (values.Bool b)

-- a variable num
variable : TypedExpr
variable = Stored 0 sorts.Num (PlaceOf (roots.Slot 1) NotHeld parts.Whole sorts.Num)

-- two operands and the operator between them
chained : TypedExpr → Operator → TypedExpr → TypedExpr
chained left o right = Chain 0 sorts.Num left (MoreSteps o right NoSteps)

-- the element of the constant array
element : TypedExpr → TypedExpr
element index = Stored 0 sorts.Num (PlaceOf (roots.Slot 0) (Held index) parts.Whole sorts.Num)

-- 1 / 0 = 1
faulty : TypedExpr
faulty = chained (chained (num (pos 1_000)) operators.Div (num (pos 0))) operators.Equal (num (pos 1_000))

-- 1 + 2 * 3
product_first : constant_value known (chained (num (pos 1_000)) operators.Add (chained (num (pos 2_000)) operators.Mul (num (pos 3_000)))) ≡ outcomes.Value (values.Num (pos 7_000))
unfolding constant_value num chained
product_first = refl

-- 10 - 3 - 2
left_to_right : constant_value known (Chain 0 sorts.Num (num (pos 10_000)) (MoreSteps operators.Sub (num (pos 3_000)) (MoreSteps operators.Sub (num (pos 2_000)) NoSteps))) ≡ outcomes.Value (values.Num (pos 5_000))
unfolding constant_value num
left_to_right = refl

by_zero : constant_value known (chained (num (pos 1_000)) operators.Div (num (pos 0))) ≡ outcomes.Raises 101
unfolding constant_value num chained
by_zero = refl

-- FALSE AND (1 / 0 = 1)
skipped : constant_value known (chained (truth false) operators.And faulty) ≡ outcomes.Value (values.Bool false)
unfolding constant_value num truth chained faulty
skipped = refl

-- (1 / 0 = 1) AND FALSE
not_skipped : constant_value known (chained faulty operators.And (truth false)) ≡ outcomes.Raises 101
unfolding constant_value num truth chained faulty
not_skipped = refl

-- [0, -30, 0, 0, 90, 0] of robjoint
robjoint : constant_value known (Aggregate 0 sorts.RobJoint (MoreExprs (num (pos 0)) (MoreExprs (Signed 0 sorts.Num true (num (pos 30_000))) (MoreExprs (num (pos 0)) (MoreExprs (num (pos 0)) (MoreExprs (num (pos 90_000)) (MoreExprs (num (pos 0)) NoExprs)))))))
    ≡ outcomes.Value (values.Rob (pos 0 ∷ negsuc 29_999 ∷ pos 0 ∷ pos 0 ∷ pos 90_000 ∷ pos 0 ∷ []))
unfolding constant_value num
robjoint = refl

second : constant_value known (element (num (pos 2_000))) ≡ outcomes.Value (values.Num (pos 20_000))
unfolding constant_value known num element
second = refl

before_the_first : constant_value known (element (num (pos 0))) ≡ outcomes.OutOfArray
unfolding constant_value known num element
before_the_first = refl

past_the_last : constant_value known (element (num (pos 4_000))) ≡ outcomes.OutOfArray
unfolding constant_value known num element
past_the_last = refl

-- 1.5
between_elements : constant_value known (element (num (pos 1_500))) ≡ outcomes.OutOfArray
unfolding constant_value known num element
between_elements = refl

-- NOT TRUE
opposite : constant_value known (Not 0 sorts.Bool (truth true)) ≡ outcomes.Value (values.Bool false)
unfolding constant_value truth
opposite = refl

-- FALSE AND v = 1 has a value, but is not constant
skipped_variable : constant_value known (chained (truth false) operators.And (chained variable operators.Equal (num (pos 1_000)))) ≡ outcomes.Value (values.Bool false)
unfolding constant_value num truth chained variable
skipped_variable = refl

not_constant : is_constant known (chained (truth false) operators.And (chained variable operators.Equal (num (pos 1_000)))) ≡ false
unfolding is_constant num truth chained variable
not_constant = refl

constant_element : is_constant known (element (num (pos 0))) ≡ true
unfolding is_constant known num element
constant_element = refl
