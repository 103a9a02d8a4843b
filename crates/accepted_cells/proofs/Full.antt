-- Values that are known before the run are full.
use Rattle.std.proofs.Common.{◌≡◌, ℕ, zero, suc, ◌-◌, Bool, true, false, ◌&&◌, ◌==◌, nat_lt, ℤ, pos, List, [], ◌∷◌, ◌++◌, length, take, drop, Option, Some, None, slice_get, refl, if◌then◌else◌, nat_le, length-append, arith}
use Rattle.std.specs.List.{list_all}
use Rattle.std.specs.Option.{option_and_then, option_map}
use Rattle.std.specs.Ordering.{int_eq}
use Rattle.std.proofs.lemmas.Bool.{and_from, and_parts, eq-eqb, eqb-true}
use Rattle.std.proofs.lemmas.List.{length-take, length-drop}
use Rattle.rapid_num.specs.Arithmetic.{sum_of, difference_of, product_of, quotient_of, whole_quotient_of}
use Rattle.rapid_model.specs.Lengths.{is_full}
use Rattle.rapid_model.specs.Sorts.{is_value_of}
use Rattle.rapid_model.specs.Limits.{holds_where_there}
use Rattle.rapid_model.specs.declared.part_name.PartName.{PartName}
use Rattle.rapid_model.specs.declared.part_name.PartName.TheVariants as parts
use Rattle.rapid_model.specs.declared.sort.Sort.{Sort}
use Rattle.rapid_model.specs.declared.sort.Sort.TheVariants as sorts
use Rattle.rapid_model.specs.declared.value.Value.{Value}
use Rattle.rapid_model.specs.declared.value.Value.TheVariants as values
use Rattle.rapid_model.specs.declared.operator.Operator.{Operator}
use Rattle.rapid_model.specs.declared.operator.Operator.TheVariants as operators
use Rattle.rapid_values.specs.Equality.{are_alike}
use Rattle.rapid_values.specs.Operators.{apply, num_or_fault, of_form, of_nums, of_texts, of_truths}
use Rattle.rapid_values.specs.declared.applied.Applied.{Applied}
use Rattle.rapid_values.specs.declared.applied.Applied.TheVariants.{Gives, Raises, Unfit}
use Rattle.rapid_values.specs.Components.{Component}
use Rattle.rapid_values.specs.Values.{made_of, num_at, nums_of, part_of, so_many}
use Rattle.typed_trees.specs.Plain.{TypedExpr, TypedExprs, TypedSteps, Known, ErrorNumber, SignalValue, Stored, Group, Aggregate, Builtin, Invoke, Not, Signed, Chain, NoExprs, MoreExprs, NoSteps, MoreSteps, NotHeld, Held, PlaceOf}
use Rattle.typed_trees.specs.declared.expr.TreeRoot.{TreeRoot}
use Rattle.typed_trees.specs.declared.expr.TreeRoot.TheVariants as roots
use Rattle.rapid_values.specs.Elements.{element_number}
use Rattle.constant_meaning.specs.Constants.{Elements, Outcomes, all, along, and_more, applied, array_of, between, constant_value, constant_values, decides, element_at, element_part, flat, made, on_right, opposite, stops, value_or_not_known, with_sign}
use Rattle.constant_meaning.specs.declared.outcome.Outcome.{Outcome}
use Rattle.constant_meaning.specs.declared.outcome.Outcome.TheVariants as outcomes
use Rattle.tree_typing.specs.Expressions.{AreComponents, IsExpr}
use Rattle.tree_typing.specs.Kinds.{Kind}
use Rattle.tree_typing.specs.Setting.{Setting}

-- a value that exists is full
abbrev pub some_full : Option Value → Bool
some_full o = holds_where_there is_full o

abbrev pub items_full : Option (List Value) → Bool
items_full items = holds_where_there (list_all is_full) items

abbrev pub known_full : List (Option (List Value)) → Bool
known_full known = list_all items_full known

abbrev pub outcome_full : Outcome → Bool
outcome_full (outcomes.Value v) = is_full v
outcome_full _ = true

abbrev pub outcomes_full : Outcomes → Bool
outcomes_full (all vs) = list_all is_full vs
outcomes_full (stops other) = outcome_full other

abbrev applied_full : Applied → Bool
applied_full (Gives v) = is_full v
applied_full _ = true

-- operators
fault_full : (n : Option ℤ) → applied_full (num_or_fault n) ≡ true
fault_full (Some n) = refl
fault_full None = refl

zero_full : (zero : Bool) (a : Applied) → applied_full a ≡ true → applied_full (if zero then Raises 101 else a) ≡ true
zero_full true a h = refl
zero_full false a h = h

bool_full : (alike b : Bool) → applied_full (if alike then Gives (values.Bool b) else Unfit) ≡ true
bool_full true b = refl
bool_full false b = refl

text_full : (short : Bool) (t : List ℕ) → applied_full (if short then Gives (values.Text t) else Raises 102) ≡ true
text_full true t = refl
text_full false t = refl

nums_full : (o : Operator) (m n : ℤ) → applied_full (of_nums o m n) ≡ true
nums_full operators.Add m n = fault_full (sum_of m n)
nums_full operators.Sub m n = fault_full (difference_of m n)
nums_full operators.Mul m n = fault_full (product_of m n)
nums_full operators.Div m n = zero_full (int_eq n (pos 0)) (num_or_fault (quotient_of m n)) (fault_full (quotient_of m n))
nums_full operators.IntDiv m n = zero_full (int_eq n (pos 0)) (num_or_fault (whole_quotient_of m n)) (fault_full (whole_quotient_of m n))
nums_full operators.Mod m n = zero_full (int_eq n (pos 0)) _ refl
nums_full _ m n = refl

truths_full : (o : Operator) (a b : Bool) → applied_full (of_truths o a b) ≡ true
truths_full operators.And a b = refl
truths_full _ a b = refl

texts_full : (o : Operator) (s t : List ℕ) → applied_full (of_texts o s t) ≡ true
texts_full operators.Add s t = text_full (nat_le (length (s ++ t)) 80) (s ++ t)
texts_full _ s t = refl

form_full : (o : Operator) (v w : Value) → applied_full (of_form o v w) ≡ true
form_full o (values.Num m) (values.Num n) = nums_full o m n
form_full o (values.Bool a) (values.Bool b) = truths_full o a b
form_full o (values.Text s) (values.Text t) = texts_full o s t
form_full o _ _ = refl

apply_full : (o : Operator) (v w : Value) → applied_full (apply o v w) ≡ true
apply_full operators.Equal v w = bool_full (are_alike v w) _
apply_full operators.NotEqual v w = bool_full (are_alike v w) _
apply_full o v w = form_full o v w

comes_full : (a : Applied) → applied_full a ≡ true → outcome_full (applied a) ≡ true
comes_full (Gives v) h = h
comes_full _ h = refl

right_full : (o : Operator) (v : Value) (right : Outcome) → outcome_full (on_right o v right) ≡ true
right_full o v (outcomes.Value w) = comes_full (apply o v w) (apply_full o v w)
right_full o v _ = refl

decided_full : (decided : Bool) (v : Value) (other : Outcome) → is_full v ≡ true → outcome_full other ≡ true → outcome_full (if decided then outcomes.Value v else other) ≡ true
decided_full true v other h k = h
decided_full false v other h k = k

between_full : (o : Operator) (left right : Outcome) → outcome_full left ≡ true → outcome_full (between o left right) ≡ true
between_full o (outcomes.Value v) right h = decided_full (decides o v) v (on_right o v right) h (right_full o v right)
between_full o _ right h = refl

opposite_full : (o : Outcome) → outcome_full (opposite o) ≡ true
opposite_full (outcomes.Value (values.Bool b)) = refl
opposite_full (outcomes.Value _) = refl
opposite_full _ = refl

sign_full : (minus : Bool) (o : Outcome) → outcome_full (with_sign minus o) ≡ true
sign_full true (outcomes.Value (values.Num n)) = refl
sign_full false (outcomes.Value (values.Num n)) = refl
sign_full minus (outcomes.Value _) = refl
sign_full minus _ = refl

-- parts
num_full : (o : Option ℤ) → some_full (option_map values.Num o) ≡ true
num_full (Some n) = refl
num_full None = refl

ext_full : (low : Bool) (axes : List ℤ) (n : ℕ) → some_full (if low then None else num_at axes n) ≡ true
ext_full true axes n = refl
ext_full false axes n = num_full (slice_get axes n)

part_full : (v : Value) (part : PartName) → is_full v ≡ true → some_full (part_of v part) ≡ true
part_full v parts.Whole h = h
part_full (values.Target joints) parts.Robax h =
    let twelve = eqb-true (length joints.axis) 12 h in
    let long = length-take 6 joints.axis in
    eq-eqb (length (take 6 joints.axis)) 6 (omega (arith, twelve, long))
part_full (values.Target joints) parts.Extax h =
    let twelve = eqb-true (length joints.axis) 12 h in
    let long = length-drop 6 joints.axis in
    eq-eqb (length (drop 6 joints.axis)) 6 (omega (arith, twelve, long))
part_full (values.Target joints) (parts.Axis n) h = num_full (slice_get joints.axis n)
part_full (values.Rob axes) (parts.Axis n) h = num_full (slice_get axes n)
part_full (values.Ext axes) (parts.Axis n) h = ext_full (nat_lt n 6) axes (n - 6)
part_full (values.Speed nums) (parts.SpeedPart n) h = num_full (slice_get nums n)
part_full (values.Text text) parts.Taskname h = refl
part_full _ _ h = refl

-- aggregates
if_full : (b : Bool) (v : Value) → (b ≡ true → is_full v ≡ true) → some_full (if b then Some v else None) ≡ true
if_full true v h = h refl
if_full false v h = refl

many_full : (count : ℕ) (make : List ℤ → Value) (nums : Option (List ℤ)) → ((l : List ℤ) → (length l == count) ≡ true → is_full (make l) ≡ true) → some_full (so_many count make nums) ≡ true
many_full count make None h = refl
many_full count make (Some l) h = if_full (length l == count) (make l) (h l)

made_full : (sort : Sort) (vs : List Value) → list_all is_full vs ≡ true → some_full (made_of sort vs) ≡ true
made_full sorts.RobJoint vs h = many_full 6 values.Rob (nums_of vs) (λ l six. six)
made_full sorts.ExtJoint vs h = many_full 6 values.Ext (nums_of vs) (λ l six. six)
made_full sorts.SpeedData vs h = many_full 4 values.Speed (nums_of vs) (λ l four. four)
made_full sorts.JointTarget (values.Rob rob ∷ values.Ext ext ∷ []) h =
    let first = and_parts (length rob == 6) ((length ext == 6) && true) h in
    let second = and_parts (length ext == 6) true first.1 in
    let six = eqb-true (length rob) 6 first.0 in
    let more = eqb-true (length ext) 6 second.0 in
    let long = length-append rob ext in
    eq-eqb (length (rob ++ ext)) 12 (omega (arith, six, more, long))
made_full sorts.Tasks (values.Text text ∷ []) h = refl
made_full _ _ h = refl

or_full : (o : Option Value) → some_full o ≡ true → outcome_full (value_or_not_known o) ≡ true
or_full (Some v) h = h
or_full None h = refl

-- elements of arrays
all_at : {A : Type 0} (test : A → Bool) (xs : List A) (k : ℕ) → list_all test xs ≡ true → holds_where_there test (slice_get xs k) ≡ true
all_at test [] k h = refl
all_at test (x ∷ xs) zero h = (and_parts (test x) (list_all test xs) h).0
all_at test (x ∷ xs) (suc k) h = all_at test xs k (and_parts (test x) (list_all test xs) h).1

part_there : (o : Option Value) (part : PartName) → some_full o ≡ true → some_full (option_and_then (λ v. part_of v part) o) ≡ true
part_there (Some v) part h = part_full v part h
part_there None part h = refl

numbered_full : (elements : List Value) (part : PartName) (number : Option ℕ) → list_all is_full elements ≡ true → outcome_full (element_part elements part number) ≡ true
numbered_full elements part None h = refl
numbered_full elements part (Some k) h = or_full (option_and_then (λ v. part_of v part) (slice_get elements (k - 1))) (part_there (slice_get elements (k - 1)) part (all_at is_full elements (k - 1) h))

element_full : (elements : Option (List Value)) (part : PartName) (index : Outcome) → items_full elements ≡ true → outcome_full (element_at elements part index) ≡ true
element_full None part index h = refl
element_full (Some elements) part (outcomes.Value (values.Num n)) h = numbered_full elements part (element_number (length elements) n) h
element_full (Some elements) part (outcomes.Value _) h = refl
element_full (Some elements) part _ h = refl

flat_full : (o : Option (Option (List Value))) → holds_where_there items_full o ≡ true → items_full (flat o) ≡ true
flat_full None h = refl
flat_full (Some items) h = h

array_full : (known : Elements) (root : TreeRoot) → known_full known.slots ≡ true → known_full known.locals ≡ true → items_full (array_of known root) ≡ true
array_full known (roots.Slot k) slots locals = flat_full (slice_get known.slots k) (all_at items_full known.slots k slots)
array_full known (roots.Local k) slots locals = flat_full (slice_get known.locals k) (all_at items_full known.locals k locals)
array_full known (roots.Ref k) slots locals = refl
array_full known (roots.Pers k) slots locals = refl

and_full : (first : Outcome) (rest : Outcomes) → outcome_full first ≡ true → outcomes_full rest ≡ true → outcomes_full (and_more first rest) ≡ true
and_full (outcomes.Value v) (all vs) h k = and_from (is_full v) (list_all is_full vs) h k
and_full (outcomes.Value v) (stops other) h k = k
and_full _ rest h k = refl

brackets_full : (sort : Sort) (o : Outcomes) → outcomes_full o ≡ true → outcome_full (made sort o) ≡ true
brackets_full sort (all vs) h = or_full (made_of sort vs) (made_full sort vs h)
brackets_full sort (stops other) h = h

along_full : (known : Elements) (steps : TypedSteps) (left : Outcome) → outcome_full left ≡ true → outcome_full (along known left steps) ≡ true
unfolding along
along_full known NoSteps left h = h
along_full known (MoreSteps o e steps) left h = along_full known steps (between o left (constant_value known e)) (between_full o left (constant_value known e) h)

-- each is well typed, of any type
abbrev pub AreSome : Setting → List Kind → TypedExprs → Type 0
AreSome c kinds NoExprs = Unit {0}
AreSome c kinds (MoreExprs e es) = (sort : Sort) × IsExpr c kinds e sort × AreSome c kinds es

some_components : (c : Setting) (kinds : List Kind) (es : TypedExprs) (cs : List Component) → AreComponents c kinds es cs → AreSome c kinds es
some_components c kinds NoExprs [] h = tt
some_components c kinds NoExprs (k ∷ cs) h = absurd h
some_components c kinds (MoreExprs e es) [] h = absurd h
some_components c kinds (MoreExprs e es) (k ∷ cs) h = (k.sort, h.0, some_components c kinds es cs h.1)

module _ (c : Setting) (kinds : List Kind) (known : Elements) (slots : known_full known.slots ≡ true) (locals : known_full known.locals ≡ true) where
  mutual
    unfolding constant_value constant_values

    -- the value of a well typed expression that is known before the run
    pub value_full : (t : TypedExpr) (sort : Sort) → IsExpr c kinds t sort → outcome_full (constant_value known t) ≡ true
    value_full (Known at own v) sort h = (and_parts (is_value_of sort v) (is_full v) h.1).1
    value_full (ErrorNumber at own) sort h = refl
    value_full (SignalValue at own signal) sort h = refl
    value_full (Stored at own (PlaceOf root NotHeld part kind)) sort h = refl
    value_full (Stored at own (PlaceOf root (Held index) part kind)) sort h = element_full (array_of known root) part (constant_value known index) (array_full known root slots locals)
    value_full (Group at own e) sort h = value_full e sort h.1
    value_full (Aggregate at own es) sort h = brackets_full own (constant_values known es) (values_full es (some_components c kinds es _ h.2))
    value_full (Builtin at own function args) sort h = refl
    value_full (Invoke at own number args) sort h = refl
    value_full (Not at own e) sort h = opposite_full (constant_value known e)
    value_full (Signed at own minus e) sort h = sign_full minus (constant_value known e)
    value_full (Chain at own e steps) sort h = along_full known steps (constant_value known e) (value_full e h.1 h.2)

    pub values_full : (es : TypedExprs) → AreSome c kinds es → outcomes_full (constant_values known es) ≡ true
    values_full NoExprs h = refl
    values_full (MoreExprs e es) h = and_full (constant_value known e) (constant_values known es) (value_full e h.0 h.1) (values_full es h.2)
