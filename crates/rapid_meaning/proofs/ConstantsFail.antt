-- If evaluating an expression before the run gives an error or a fault, the run ends with that too.
use Rattle.std.proofs.Common.{◌≡◌, ◌≢◌, ◌⊎◌, inl, inr, refl, sym, ap, ◌∙◌, subst, ℕ, ◌-◌, Bool, true, false, ℤ, List, [], ◌∷◌, length, Option, Some, None, if◌then◌else◌, slice_get}
use Rattle.std.specs.Prelude.{⊤}
use Rattle.std.specs.Option.{option_and_then}
use Rattle.rapid_model.specs.Fits.{Fitting, fits_request}
use Rattle.rapid_model.specs.declared.answer.Answer.{Answer}
use Rattle.rapid_model.specs.declared.fate.Fate.TheVariants as fates
use Rattle.rapid_model.specs.declared.fate.Fault.{Fault}
use Rattle.rapid_model.specs.declared.fate.Fault.TheVariants as faults
use Rattle.rapid_model.specs.declared.part_name.PartName.{PartName}
use Rattle.rapid_model.specs.declared.request.Request.TheVariants.{End}
use Rattle.rapid_model.specs.declared.sort.Sort.{Sort}
use Rattle.rapid_model.specs.declared.value.Value.{Value}
use Rattle.rapid_model.specs.declared.value.Value.TheVariants as values
use Rattle.rapid_model.specs.declared.operator.Operator.{Operator}
use Rattle.rapid_model.specs.declared.operator.Operator.TheVariants as operators
use Rattle.rapid_values.specs.Elements.{element_number}
use Rattle.rapid_values.specs.Operators.{apply}
use Rattle.rapid_values.specs.declared.applied.Applied.{Applied}
use Rattle.rapid_values.specs.declared.applied.Applied.TheVariants as applies
use Rattle.rapid_values.specs.Values.{made_of, part_of}
use Rattle.constant_meaning.specs.Constants as constants
use Rattle.constant_meaning.specs.Constants.{Elements, Outcomes, all, stops, constant_value, constant_values, array_of}
use Rattle.constant_meaning.specs.declared.outcome.Outcome.{Outcome}
use Rattle.constant_meaning.specs.declared.outcome.Outcome.TheVariants as outcomes
use Rattle.typed_trees.specs.Plain.{TypedExpr, TypedExprs, TypedRoutine, TypedSteps, TypedTree, Known, ErrorNumber, SignalValue, Stored, Group, Aggregate, Builtin, Invoke, Not, Signed, Chain, NoExprs, MoreExprs, NoSteps, MoreSteps, NotHeld, Held, PlaceOf}
use Rattle.typed_trees.specs.declared.datum.Lvalue.{Lvalue}
use Rattle.typed_trees.specs.declared.expr.TreeRoot.{TreeRoot}
use Rattle.rapid_meaning.specs.Answering as answering
use Rattle.rapid_meaning.specs.Answering.{Asking, Misfits, Raised, Run, joined, performed}
use Rattle.rapid_meaning.specs.Constants.{HoldsArrays}
use Rattle.rapid_meaning.specs.Data.{Data}
use Rattle.rapid_meaning.specs.Doings.{Doing, Gives, Raises, Misfit, after, fault, or_misfit}
use Rattle.rapid_meaning.specs.Expressions.{along, expr, exprs}
use Rattle.rapid_meaning.specs.Layouts.{length_at}
use Rattle.rapid_meaning.specs.Places.{at_root, element_or_fault, indexed, part_at, read_value, rooted}
use Rattle.rapid_meaning.specs.Values as meaning
use Rattle.rapid_meaning.proofs.Composing.{Comes, performed_after}
use Rattle.rapid_meaning.proofs.ConstantsAgree.{between_comes, expr_comes, is_rooted}

-- how a doing stops without a result
data Stop : Type 0 where
  by_error : ℕ → Stop
  by_fault : Fault → Stop
  by_misfit : Stop

abbrev stopped : {A : Type 0} → Stop → Doing A
stopped (by_error n) = Raises n
stopped (by_fault f) = fault f
stopped by_misfit = Misfit

-- it stops so for all answers
abbrev Stops : (A : Type 0) → Doing A → Data → Stop → Type 0
Stops A m d stop = (by : Bool → Fitting) (run : Run) (left : List Answer) → performed by run m d left ≡ performed by run (stopped {A = A} stop) d left

when_joined : {A B : Type 0} (b : Bool) (d : Data) (f : A → Data → List Answer → answering.Outcome B) (h : ℕ → Data → List Answer → answering.Outcome B)
    → joined (if b then answering.Ended d else answering.Unfit) f h ≡ (if b then answering.Ended d else answering.Unfit)
when_joined true d f h = refl
when_joined false d f h = refl

-- what follows is skipped
stop_stays : {A B : Type 0} (by : Bool → Fitting) (run : Run) (stop : Stop) (next : A → Doing B) (d : Data) (left : List Answer)
    → joined (performed by run (stopped {A = A} stop) d left) (λ v e rest. performed by run (next v) e rest) (λ n e rest. performed by run (Raises n) e rest)
    ≡ performed by run (stopped {A = B} stop) d left
unfolding performed
stop_stays by run (by_error n) next d left = refl
stop_stays by run (by_fault f) next d [] = refl
stop_stays {A} {B} by run (by_fault f) next d (a ∷ left) =
    when_joined {A = A} {B = B} (fits_request (by d.trapped) (End (fates.Fault f)) a) d (λ v e rest. performed by run (next v) e rest) (λ n e rest. performed by run (Raises n) e rest)
stop_stays by run by_misfit next d left = refl

stops_after : (A B : Type 0) (m : Doing A) (next : A → Doing B) (d : Data) (stop : Stop) → Stops A m d stop → Stops B (after m next Raises) d stop
stops_after A B m next d stop s = λ by run left.
    performed_after by run m next Raises d left
    ∙ ap (λ (o : answering.Outcome A). joined o (λ v e rest. performed by run (next v) e rest) (λ n e rest. performed by run (Raises n) e rest)) (s by run left)
    ∙ stop_stays by run stop next d left

comes_then_stops : (A B : Type 0) (m : Doing A) (next : A → Doing B) (d : Data) (v : A) (stop : Stop) → Comes m d v → Stops B (next v) d stop → Stops B (after m next Raises) d stop
comes_then_stops A B m next d v stop comes s = λ by run left.
    performed_after by run m next Raises d left
    ∙ ap (λ (o : answering.Outcome A). joined o (λ v e rest. performed by run (next v) e rest) (λ n e rest. performed by run (Raises n) e rest)) (comes by run left)
    ∙ s by run left

-- it stops so, or misfits
abbrev StopsOr : (A : Type 0) → Doing A → Data → Stop → Type 0
StopsOr A m d stop = Stops A m d stop ⊎ Stops A m d by_misfit

-- if the constant value is an error or a fault, it stops with that, or misfits
abbrev FailsAs : (A : Type 0) → Doing A → Data → Outcome → Type 0
FailsAs A m d (outcomes.Value v) = ⊤
FailsAs A m d (outcomes.Raises n) = StopsOr A m d (by_error n)
FailsAs A m d outcomes.OutOfRange = StopsOr A m d (by_fault faults.NumRange)
FailsAs A m d outcomes.OutOfArray = StopsOr A m d (by_fault faults.IndexRange)
FailsAs A m d outcomes.NotKnown = ⊤

or_after : (A B : Type 0) (m : Doing A) (next : A → Doing B) (d : Data) (stop : Stop) → StopsOr A m d stop → StopsOr B (after m next Raises) d stop
or_after A B m next d stop (inl s) = inl (stops_after A B m next d stop s)
or_after A B m next d stop (inr s) = inr (stops_after A B m next d by_misfit s)

then_or : (A B : Type 0) (m : Doing A) (next : A → Doing B) (d : Data) (v : A) (stop : Stop) → Comes m d v → StopsOr B (next v) d stop → StopsOr B (after m next Raises) d stop
then_or A B m next d v stop comes (inl s) = inl (comes_then_stops A B m next d v stop comes s)
then_or A B m next d v stop comes (inr s) = inr (comes_then_stops A B m next d v by_misfit comes s)

fails_after : (A B : Type 0) (m : Doing A) (next : A → Doing B) (d : Data) (o : Outcome) → FailsAs A m d o → FailsAs B (after m next Raises) d o
fails_after A B m next d (outcomes.Value v) f = tt
fails_after A B m next d (outcomes.Raises n) f = or_after A B m next d (by_error n) f
fails_after A B m next d outcomes.OutOfRange f = or_after A B m next d (by_fault faults.NumRange) f
fails_after A B m next d outcomes.OutOfArray f = or_after A B m next d (by_fault faults.IndexRange) f
fails_after A B m next d outcomes.NotKnown f = tt

then_fails : (A B : Type 0) (m : Doing A) (next : A → Doing B) (d : Data) (v : A) (o : Outcome) → Comes m d v → FailsAs B (next v) d o → FailsAs B (after m next Raises) d o
then_fails A B m next d v (outcomes.Value w) comes f = tt
then_fails A B m next d v (outcomes.Raises n) comes f = then_or A B m next d v (by_error n) comes f
then_fails A B m next d v outcomes.OutOfRange comes f = then_or A B m next d v (by_fault faults.NumRange) comes f
then_fails A B m next d v outcomes.OutOfArray comes f = then_or A B m next d v (by_fault faults.IndexRange) comes f
then_fails A B m next d v outcomes.NotKnown comes f = tt

misfit_fails : (A : Type 0) (d : Data) (o : Outcome) → FailsAs A Misfit d o
misfit_fails A d (outcomes.Value v) = tt
misfit_fails A d (outcomes.Raises n) = inr (λ by run left. refl)
misfit_fails A d outcomes.OutOfRange = inr (λ by run left. refl)
misfit_fails A d outcomes.OutOfArray = inr (λ by run left. refl)
misfit_fails A d outcomes.NotKnown = tt

known_or_not : (A : Type 0) (m : Doing A) (d : Data) (o : Option Value) → FailsAs A m d (constants.value_or_not_known o)
known_or_not A m d (Some v) = tt
known_or_not A m d None = tt

applied_fails : (d : Data) (a : Applied) → FailsAs Value (meaning.applied a) d (constants.applied a)
applied_fails d (applies.Gives v) = tt
applied_fails d (applies.Raises n) = inl (λ by run left. refl)
applied_fails d applies.OutOfRange = inl (λ by run left. refl)
applied_fails d applies.Unfit = tt

-- what an outcome says of a doing: the value that it gives, or how it fails
record Agrees (m : Doing Value) (d : Data) (o : Outcome) : Type 0 where
  comes : (v : Value) → o ≡ outcomes.Value v → Comes m d v
  fails : FailsAs Value m d o

right_fails : (d : Data) (o : Operator) (u : Value) (r : Outcome) (right : Doing Value) → Agrees right d r
    → FailsAs Value (after right (λ w. meaning.applied (apply o u w)) Raises) d (constants.on_right o u r)
right_fails d o u (outcomes.Value w) right agrees =
    then_fails Value Value right (λ x. meaning.applied (apply o u x)) d w (constants.applied (apply o u w)) (agrees.comes w refl) (applied_fails d (apply o u w))
right_fails d o u (outcomes.Raises n) right agrees = fails_after Value Value right (λ x. meaning.applied (apply o u x)) d (outcomes.Raises n) agrees.fails
right_fails d o u outcomes.OutOfRange right agrees = fails_after Value Value right (λ x. meaning.applied (apply o u x)) d outcomes.OutOfRange agrees.fails
right_fails d o u outcomes.OutOfArray right agrees = fails_after Value Value right (λ x. meaning.applied (apply o u x)) d outcomes.OutOfArray agrees.fails
right_fails d o u outcomes.NotKnown right agrees = tt

between_fails : (d : Data) (o : Operator) (u : Value) (r : Outcome) (right : Doing Value) → Agrees right d r
    → FailsAs Value (meaning.between o u right) d (constants.between o (outcomes.Value u) r)
between_fails d operators.And (values.Bool true) r right agrees = right_fails d operators.And (values.Bool true) r right agrees
between_fails d operators.And (values.Bool false) r right agrees = tt
between_fails d operators.And u r right agrees = misfit_fails Value d (constants.between operators.And (outcomes.Value u) r)
between_fails d operators.Or (values.Bool true) r right agrees = tt
between_fails d operators.Or (values.Bool false) r right agrees = right_fails d operators.Or (values.Bool false) r right agrees
between_fails d operators.Or u r right agrees = misfit_fails Value d (constants.between operators.Or (outcomes.Value u) r)
between_fails d o u r right agrees = right_fails d o u r right agrees

opposite_fails : (m : Doing Value) (d : Data) (o : Outcome) → FailsAs Value m d o → FailsAs Value (after m meaning.opposite Raises) d (constants.opposite o)
opposite_fails m d (outcomes.Value (values.Bool b)) f = tt
opposite_fails m d (outcomes.Value u) f = tt
opposite_fails m d (outcomes.Raises n) f = fails_after Value Value m meaning.opposite d (outcomes.Raises n) f
opposite_fails m d outcomes.OutOfRange f = fails_after Value Value m meaning.opposite d outcomes.OutOfRange f
opposite_fails m d outcomes.OutOfArray f = fails_after Value Value m meaning.opposite d outcomes.OutOfArray f
opposite_fails m d outcomes.NotKnown f = tt

signed_fails : (minus : Bool) (m : Doing Value) (d : Data) (o : Outcome) → FailsAs Value m d o → FailsAs Value (after m (meaning.with_sign minus) Raises) d (constants.with_sign minus o)
signed_fails true m d (outcomes.Value (values.Num n)) f = tt
signed_fails false m d (outcomes.Value (values.Num n)) f = tt
signed_fails true m d (outcomes.Value u) f = tt
signed_fails false m d (outcomes.Value u) f = tt
signed_fails true m d (outcomes.Raises n) f = fails_after Value Value m (meaning.with_sign true) d (outcomes.Raises n) f
signed_fails false m d (outcomes.Raises n) f = fails_after Value Value m (meaning.with_sign false) d (outcomes.Raises n) f
signed_fails true m d outcomes.OutOfRange f = fails_after Value Value m (meaning.with_sign true) d outcomes.OutOfRange f
signed_fails false m d outcomes.OutOfRange f = fails_after Value Value m (meaning.with_sign false) d outcomes.OutOfRange f
signed_fails true m d outcomes.OutOfArray f = fails_after Value Value m (meaning.with_sign true) d outcomes.OutOfArray f
signed_fails false m d outcomes.OutOfArray f = fails_after Value Value m (meaning.with_sign false) d outcomes.OutOfArray f
signed_fails true m d outcomes.NotKnown f = tt
signed_fails false m d outcomes.NotKnown f = tt

-- an outcome that is not a value passes through a chain unchanged
abbrev IsValue : Outcome → Type 0
IsValue (outcomes.Value v) = ⊤
IsValue o = ⊥

along_stays : (known : Elements) (o : Outcome) (steps : TypedSteps) → (IsValue o → ⊥) → o ≡ constants.along known o steps
unfolding constants.along
along_stays known o NoSteps none = refl
along_stays known (outcomes.Value v) (MoreSteps op e steps) none = absurd (none tt)
along_stays known (outcomes.Raises n) (MoreSteps op e steps) none = along_stays known (outcomes.Raises n) steps none
along_stays known outcomes.OutOfRange (MoreSteps op e steps) none = along_stays known outcomes.OutOfRange steps none
along_stays known outcomes.OutOfArray (MoreSteps op e steps) none = along_stays known outcomes.OutOfArray steps none
along_stays known outcomes.NotKnown (MoreSteps op e steps) none = along_stays known outcomes.NotKnown steps none

stays_failed : (A : Type 0) (m : Doing A) (d : Data) (known : Elements) (o : Outcome) (steps : TypedSteps) → (IsValue o → ⊥) → FailsAs A m d o → FailsAs A m d (constants.along known o steps)
stays_failed A m d known o steps none f = subst (λ (x : Outcome). FailsAs A m d x) (along_stays known o steps none) f

-- a list of expressions fails with the outcome that stops it
abbrev FailAs : Doing (List Value) → Data → Outcomes → Type 0
FailAs m d (all vs) = ⊤
FailAs m d (stops o) = FailsAs (List Value) m d o

made_fails : (sort : Sort) (m : Doing (List Value)) (d : Data) (more : Outcomes) → FailAs m d more → FailsAs Value (after m (λ vs. or_misfit (made_of sort vs)) Raises) d (constants.made sort more)
made_fails sort m d (all vs) f = known_or_not Value (after m (λ us. or_misfit (made_of sort us)) Raises) d (made_of sort vs)
made_fails sort m d (stops o) f = fails_after (List Value) Value m (λ us. or_misfit (made_of sort us)) d o f

more_fail : (m : Doing Value) (ms : Doing (List Value)) (d : Data) (o : Outcome) (more : Outcomes) → Agrees m d o → FailAs ms d more
    → FailAs (after m (λ v. after ms (λ vs. Gives (v ∷ vs)) Raises) Raises) d (constants.and_more o more)
more_fail m ms d (outcomes.Value v) (all vs) agrees f = tt
more_fail m ms d (outcomes.Value v) (stops o) agrees f =
    then_fails Value (List Value) m (λ u. after ms (λ vs. Gives (u ∷ vs)) Raises) d v o (agrees.comes v refl) (fails_after (List Value) (List Value) ms (λ vs. Gives (v ∷ vs)) d o f)
more_fail m ms d (outcomes.Raises n) more agrees f = fails_after Value (List Value) m (λ u. after ms (λ vs. Gives (u ∷ vs)) Raises) d (outcomes.Raises n) agrees.fails
more_fail m ms d outcomes.OutOfRange more agrees f = fails_after Value (List Value) m (λ u. after ms (λ vs. Gives (u ∷ vs)) Raises) d outcomes.OutOfRange agrees.fails
more_fail m ms d outcomes.OutOfArray more agrees f = fails_after Value (List Value) m (λ u. after ms (λ vs. Gives (u ∷ vs)) Raises) d outcomes.OutOfArray agrees.fails
more_fail m ms d outcomes.NotKnown more agrees f = tt

-- an element: first the index, then whether that element exists
abbrev element : TypedTree → TypedRoutine → TreeRoot → TypedExpr → PartName → Doing Value
element tree routine root index part =
    after (after (rooted tree routine root) (λ p. after (expr tree routine index) (λ v. after (indexed (length_at tree routine root) p v) (λ q. part_at part q) Raises) Raises) Raises) read_value Raises

outside_fails : (len : Option ℕ) (p : Lvalue) (count : ℕ) (n : ℤ) (d : Data) → len ≡ Some count → element_number count n ≡ None → Stops Lvalue (indexed len p (values.Num n)) d (by_fault faults.IndexRange)
unfolding after
outside_fails len p count n d is past =
    subst (λ (l : Option ℕ). Stops Lvalue (indexed l p (values.Num n)) d (by_fault faults.IndexRange)) (sym is)
    (subst (λ (l : Option ℕ). Stops Lvalue (element_or_fault p l) d (by_fault faults.IndexRange)) (sym past) (λ by run left. refl))

-- first the start of the array, then its index
from_index : (tree : TypedTree) (routine : TypedRoutine) (known : Elements) (d : Data) → HoldsArrays tree routine known d → (root : TreeRoot) (elements : List Value)
    → array_of known root ≡ Some elements → (index : TypedExpr) (part : PartName) (o : Outcome)
    → ((p : Lvalue) → FailsAs Lvalue (after (expr tree routine index) (λ v. after (indexed (length_at tree routine root) p v) (λ q. part_at part q) Raises) Raises) d o)
    → FailsAs Value (element tree routine root index part) d o
from_index tree routine known d held root elements is index part o f =
    let r = is_rooted tree routine known d held root elements is in
    fails_after Lvalue Value (after (rooted tree routine root) (λ p. after (expr tree routine index) (λ v. after (indexed (length_at tree routine root) p v) (λ q. part_at part q) Raises) Raises) Raises) read_value d o
    (then_fails Lvalue Lvalue (rooted tree routine root) (λ p. after (expr tree routine index) (λ v. after (indexed (length_at tree routine root) p v) (λ q. part_at part q) Raises) Raises) d (at_root r.start) o
    r.comes (f (at_root r.start)))

numbered_fails : (tree : TypedTree) (routine : TypedRoutine) (known : Elements) (d : Data) → HoldsArrays tree routine known d → (root : TreeRoot) (elements : List Value)
    → array_of known root ≡ Some elements → (index : TypedExpr) (part : PartName) (n : ℤ) → Comes (expr tree routine index) d (values.Num n)
    → (number : Option ℕ) → element_number (length elements) n ≡ number → FailsAs Value (element tree routine root index part) d (constants.element_part elements part number)
numbered_fails tree routine known d held root elements is index part n comes (Some number) e =
    known_or_not Value (element tree routine root index part) d (option_and_then (λ v. part_of v part) (slice_get elements (number - 1)))
numbered_fails tree routine known d held root elements is index part n comes None e =
    from_index tree routine known d held root elements is index part outcomes.OutOfArray
    (λ p. inl (comes_then_stops Value Lvalue (expr tree routine index) (λ v. after (indexed (length_at tree routine root) p v) (λ q. part_at part q) Raises) d (values.Num n) (by_fault faults.IndexRange) comes
    (stops_after Lvalue Lvalue (indexed (length_at tree routine root) p (values.Num n)) (λ q. part_at part q) d (by_fault faults.IndexRange)
    (outside_fails (length_at tree routine root) p (length elements) n d (held.lengths root elements is) e))))

element_fails : (tree : TypedTree) (routine : TypedRoutine) (known : Elements) (d : Data) → HoldsArrays tree routine known d → (root : TreeRoot) (index : TypedExpr) (part : PartName)
    (array : Option (List Value)) → array_of known root ≡ array → (o : Outcome) → Agrees (expr tree routine index) d o
    → FailsAs Value (element tree routine root index part) d (constants.element_at array part o)
element_fails tree routine known d held root index part None is o agrees = tt
element_fails tree routine known d held root index part (Some elements) is (outcomes.Value (values.Num n)) agrees =
    numbered_fails tree routine known d held root elements is index part n (agrees.comes (values.Num n) refl) (element_number (length elements) n) refl
element_fails tree routine known d held root index part (Some elements) is (outcomes.Value u) agrees = tt
element_fails tree routine known d held root index part (Some elements) is (outcomes.Raises n) agrees =
    from_index tree routine known d held root elements is index part (outcomes.Raises n)
    (λ p. fails_after Value Lvalue (expr tree routine index) (λ v. after (indexed (length_at tree routine root) p v) (λ q. part_at part q) Raises) d (outcomes.Raises n) agrees.fails)
element_fails tree routine known d held root index part (Some elements) is outcomes.OutOfRange agrees =
    from_index tree routine known d held root elements is index part outcomes.OutOfRange
    (λ p. fails_after Value Lvalue (expr tree routine index) (λ v. after (indexed (length_at tree routine root) p v) (λ q. part_at part q) Raises) d outcomes.OutOfRange agrees.fails)
element_fails tree routine known d held root index part (Some elements) is outcomes.OutOfArray agrees =
    from_index tree routine known d held root elements is index part outcomes.OutOfArray
    (λ p. fails_after Value Lvalue (expr tree routine index) (λ v. after (indexed (length_at tree routine root) p v) (λ q. part_at part q) Raises) d outcomes.OutOfArray agrees.fails)
element_fails tree routine known d held root index part (Some elements) is outcomes.NotKnown agrees = tt

agrees_by : (tree : TypedTree) (routine : TypedRoutine) (known : Elements) (d : Data) → HoldsArrays tree routine known d → (e : TypedExpr)
    → FailsAs Value (expr tree routine e) d (constant_value known e) → Agrees (expr tree routine e) d (constant_value known e)
agrees_by tree routine known d held e f = record { comes = λ v is. expr_comes tree routine known d held e v is; fails = f }

mutual
  unfolding constant_value

  expr_fails : (tree : TypedTree) (routine : TypedRoutine) (known : Elements) (d : Data) → HoldsArrays tree routine known d → (e : TypedExpr)
      → FailsAs Value (expr tree routine e) d (constant_value known e)
  expr_fails tree routine known d held (Known at sort v) = tt
  expr_fails tree routine known d held (ErrorNumber at sort) = tt
  expr_fails tree routine known d held (SignalValue at sort signal) = tt
  expr_fails tree routine known d held (Stored at sort (PlaceOf root NotHeld part kind)) = tt
  expr_fails tree routine known d held (Stored at sort (PlaceOf root (Held index) part kind)) =
      element_fails tree routine known d held root index part (array_of known root) refl (constant_value known index)
      (agrees_by tree routine known d held index (expr_fails tree routine known d held index))
  expr_fails tree routine known d held (Group at sort e) = expr_fails tree routine known d held e
  expr_fails tree routine known d held (Aggregate at sort es) =
      made_fails sort (exprs tree routine es) d (constant_values known es) (exprs_fail tree routine known d held es)
  expr_fails tree routine known d held (Builtin at sort function args) = tt
  expr_fails tree routine known d held (Invoke at sort called args) = tt
  expr_fails tree routine known d held (Not at sort e) = opposite_fails (expr tree routine e) d (constant_value known e) (expr_fails tree routine known d held e)
  expr_fails tree routine known d held (Signed at sort minus e) = signed_fails minus (expr tree routine e) d (constant_value known e) (expr_fails tree routine known d held e)
  expr_fails tree routine known d held (Chain at sort e steps) =
      chain_fails tree routine known d held steps (expr tree routine e) (constant_value known e) (agrees_by tree routine known d held e (expr_fails tree routine known d held e))

  exprs_fail : (tree : TypedTree) (routine : TypedRoutine) (known : Elements) (d : Data) → HoldsArrays tree routine known d → (es : TypedExprs)
      → FailAs (exprs tree routine es) d (constant_values known es)
  exprs_fail tree routine known d held NoExprs = tt
  exprs_fail tree routine known d held (MoreExprs e es) =
      more_fail (expr tree routine e) (exprs tree routine es) d (constant_value known e) (constant_values known es)
      (agrees_by tree routine known d held e (expr_fails tree routine known d held e)) (exprs_fail tree routine known d held es)

  -- a chain that starts with an operand
  chain_fails : (tree : TypedTree) (routine : TypedRoutine) (known : Elements) (d : Data) → HoldsArrays tree routine known d → (steps : TypedSteps) (m : Doing Value) (o : Outcome)
      → Agrees m d o → FailsAs Value (after m (λ u. along tree routine steps u) Raises) d (constants.along known o steps)
  chain_fails tree routine known d held NoSteps m o agrees = fails_after Value Value m (λ u. Gives u) d o agrees.fails
  chain_fails tree routine known d held (MoreSteps op e steps) m (outcomes.Value u) agrees =
      let right : Agrees (expr tree routine e) d (constant_value known e) = agrees_by tree routine known d held e (expr_fails tree routine known d held e) in
      then_fails Value Value m (λ x. along tree routine (MoreSteps op e steps) x) d u (constants.along known (constants.between op (outcomes.Value u) (constant_value known e)) steps) (agrees.comes u refl)
      (chain_fails tree routine known d held steps (meaning.between op u (expr tree routine e)) (constants.between op (outcomes.Value u) (constant_value known e))
      (record {
        comes = λ v is. between_comes d op u v (constant_value known e) (expr tree routine e) (λ w named. expr_comes tree routine known d held e w named) is;
        fails = between_fails d op u (constant_value known e) (expr tree routine e) right;
      }))
  chain_fails tree routine known d held (MoreSteps op e steps) m (outcomes.Raises n) agrees =
      stays_failed Value (after m (λ u. along tree routine (MoreSteps op e steps) u) Raises) d known (outcomes.Raises n) steps (λ h. h)
      (fails_after Value Value m (λ u. along tree routine (MoreSteps op e steps) u) d (outcomes.Raises n) agrees.fails)
  chain_fails tree routine known d held (MoreSteps op e steps) m outcomes.OutOfRange agrees =
      stays_failed Value (after m (λ u. along tree routine (MoreSteps op e steps) u) Raises) d known outcomes.OutOfRange steps (λ h. h)
      (fails_after Value Value m (λ u. along tree routine (MoreSteps op e steps) u) d outcomes.OutOfRange agrees.fails)
  chain_fails tree routine known d held (MoreSteps op e steps) m outcomes.OutOfArray agrees =
      stays_failed Value (after m (λ u. along tree routine (MoreSteps op e steps) u) Raises) d known outcomes.OutOfArray steps (λ h. h)
      (fails_after Value Value m (λ u. along tree routine (MoreSteps op e steps) u) d outcomes.OutOfArray agrees.fails)
  chain_fails tree routine known d held (MoreSteps op e steps) m outcomes.NotKnown agrees =
      stays_failed Value (after m (λ u. along tree routine (MoreSteps op e steps) u) Raises) d known outcomes.NotKnown steps (λ h. h) tt

-- one of two, and not the second
not_misfit : (A : Type 0) (m : Doing A) (d : Data) (stop : Stop) (by : Bool → Fitting) (run : Run) (left : List Answer) → StopsOr A m d stop
    → performed by run m d left ≢ Misfits → performed by run m d left ≡ performed by run (stopped {A = A} stop) d left
unfolding performed
not_misfit A m d stop by run left (inl s) fits = s by run left
not_misfit A m d stop by run left (inr s) fits = absurd (fits (s by run left))

pub raises : (tree : TypedTree) (routine : TypedRoutine) (known : Elements) (d : Data) → HoldsArrays tree routine known d → (e : TypedExpr) (n : ℕ)
    → constant_value known e ≡ outcomes.Raises n → (by : Bool → Fitting) (run : Run) (left : List Answer) → performed by run (expr tree routine e) d left ≢ Misfits
    → performed by run (expr tree routine e) d left ≡ Raised n d left
unfolding performed
raises tree routine known d held e n is by run left fits =
    not_misfit Value (expr tree routine e) d (by_error n) by run left (subst (λ (o : Outcome). FailsAs Value (expr tree routine e) d o) is (expr_fails tree routine known d held e)) fits

pub out_of_range : (tree : TypedTree) (routine : TypedRoutine) (known : Elements) (d : Data) → HoldsArrays tree routine known d → (e : TypedExpr)
    → constant_value known e ≡ outcomes.OutOfRange → (by : Bool → Fitting) (run : Run) → performed by run (expr tree routine e) d [] ≢ Misfits
    → performed by run (expr tree routine e) d [] ≡ Asking (End (fates.Fault faults.NumRange)) d
unfolding performed
out_of_range tree routine known d held e is by run fits =
    not_misfit Value (expr tree routine e) d (by_fault faults.NumRange) by run [] (subst (λ (o : Outcome). FailsAs Value (expr tree routine e) d o) is (expr_fails tree routine known d held e)) fits

pub out_of_array : (tree : TypedTree) (routine : TypedRoutine) (known : Elements) (d : Data) → HoldsArrays tree routine known d → (e : TypedExpr)
    → constant_value known e ≡ outcomes.OutOfArray → (by : Bool → Fitting) (run : Run) → performed by run (expr tree routine e) d [] ≢ Misfits
    → performed by run (expr tree routine e) d [] ≡ Asking (End (fates.Fault faults.IndexRange)) d
unfolding performed
out_of_array tree routine known d held e is by run fits =
    not_misfit Value (expr tree routine e) d (by_fault faults.IndexRange) by run [] (subst (λ (o : Outcome). FailsAs Value (expr tree routine e) d o) is (expr_fails tree routine known d held e)) fits
